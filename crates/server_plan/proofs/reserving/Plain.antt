-- What wants no memory is ready at once.
use Rattle.std.proofs.Common.{◌≡◌, ℕ, Bool, true, false, List, Option, Vec, Global, Result, Ok, Err, IfOk, refl}
use Rattle.std.specs.Prelude.{IsOk, MatchResult}
use Rattle.wire_commands.specs.declared.values.reply.Body.{Body}
use Rattle.spec_exchange.specs.Commands.{Command}
use Rattle.spec_exchange.specs.Effects.{opens_of_tree}
use Rattle.spec_exchange.specs.State.{Message, Server}
use Rattle.spec_exchange.specs.Verdict as verdicts
use Rattle.server_effects.specs.reserved.Room.{IsReadied, RoomFor}
use Rattle.server_effects.specs.reserved.Readied.{readied}
use Rattle.server_effects.specs.declared.reserved.ready.Ready.{Ready}
use Rattle.server_effects.specs.declared.reserved.ready.Ready.TheVariants as readies
use Rattle.server_checks.specs.Shown.{TablesShown}
use Rattle.server_checks.specs.declared.tables.Tables.{Tables}
use Rattle.server_checks.specs.verdicts.Views.{create_in, verdict_of}
use Rattle.server_checks.specs.declared.verdicts.verdict.Verdict.{Verdict}
use Rattle.server_checks.specs.declared.verdicts.verdict.Verdict.TheVariants as codes
use Rattle.server_plan.proofs.reserving.Kept.{others}
use Rattle.store_opens.specs.declared.share_modes.lists.Range.{Range}
use Rattle.server_plan.specs.reserving.Readies.{HasNoStep, IsVerdictPlain, IsReadyFor, VerdictReadies, wants_memory}

pub plain_stands : (t : Tables) (s : Server) (m : Message) (now : ℕ) (r : Ready) → IsVerdictPlain r → TablesShown t s
    → IsReadied t s m now r
plain_stands t s m now (readies.Refuse status) p h = record { others = others t s h; files = h.files; stands = tt }
plain_stands t s m now (readies.Give body) p h = record { others = others t s h; files = h.files; stands = tt }
plain_stands t s m now (readies.KeepRefusal guid status) p h = absurd p
plain_stands t s m now (readies.Repeat id) p h = absurd p
plain_stands t s m now (readies.Attach id) p h = absurd p
plain_stands t s m now (readies.Make file row) p h = absurd p
plain_stands t s m now (readies.TurnDown id status) p h = record { others = others t s h; files = h.files; stands = tt }
plain_stands t s m now (readies.Tell id body) p h = record { others = others t s h; files = h.files; stands = tt }
plain_stands t s m now (readies.Show id last body) p h = record { others = others t s h; files = h.files; stands = tt }
plain_stands t s m now (readies.Seek id position) p h = record { others = others t s h; files = h.files; stands = tt }
plain_stands t s m now (readies.KeepSlot id index number status) p h = record { others = others t s h; files = h.files; stands = tt }
plain_stands t s m now (readies.PutRanges id index number ranges) p h = record { others = others t s h; files = h.files; stands = tt }
plain_stands t s m now (readies.Alter id change body acts) p h = absurd p
plain_stands t s m now (readies.CloseOpen id body) p h = record { others = others t s h; files = h.files; stands = tt }
plain_stands t s m now (readies.Setup step) p h = absurd p
plain_stands t s m now (readies.EndSession session quiet) p h = record { others = others t s h; files = h.files; stands = tt }
plain_stands t s m now (readies.AddTree pipes) p h = absurd p
plain_stands t s m now (readies.DropTree opens) p h = absurd p

pub plain_room : (t : Tables) (x k : ℕ) (r : Ready) → IsVerdictPlain r → RoomFor t x k r
plain_room t x k (readies.Refuse status) p = tt
plain_room t x k (readies.Give body) p = tt
plain_room t x k (readies.KeepRefusal guid status) p = absurd p
plain_room t x k (readies.Repeat id) p = absurd p
plain_room t x k (readies.Attach id) p = absurd p
plain_room t x k (readies.Make file row) p = absurd p
plain_room t x k (readies.TurnDown id status) p = tt
plain_room t x k (readies.Tell id body) p = tt
plain_room t x k (readies.Show id last body) p = tt
plain_room t x k (readies.Seek id position) p = tt
plain_room t x k (readies.KeepSlot id index number status) p = tt
plain_room t x k (readies.PutRanges id index number ranges) p = tt
plain_room t x k (readies.Alter id change body acts) p = absurd p
plain_room t x k (readies.CloseOpen id body) p = tt
plain_room t x k (readies.Setup step) p = absurd p
plain_room t x k (readies.EndSession session quiet) p = tt
plain_room t x k (readies.AddTree pipes) p = absurd p
plain_room t x k (readies.DropTree opens) p = absurd p

pub plain_alone : (r : Ready) → IsVerdictPlain r → HasNoStep r
plain_alone (readies.Refuse status) p = tt
plain_alone (readies.Give body) p = tt
plain_alone (readies.KeepRefusal guid status) p = absurd p
plain_alone (readies.Repeat id) p = absurd p
plain_alone (readies.Attach id) p = absurd p
plain_alone (readies.Make file row) p = absurd p
plain_alone (readies.TurnDown id status) p = tt
plain_alone (readies.Tell id body) p = tt
plain_alone (readies.Show id last body) p = tt
plain_alone (readies.Seek id position) p = tt
plain_alone (readies.KeepSlot id index number status) p = tt
plain_alone (readies.PutRanges id index number ranges) p = tt
plain_alone (readies.Alter id change body acts) p = absurd p
plain_alone (readies.CloseOpen id body) p = tt
plain_alone (readies.Setup step) p = absurd p
plain_alone (readies.EndSession session quiet) p = tt
plain_alone (readies.AddTree pipes) p = absurd p
plain_alone (readies.DropTree opens) p = absurd p

pub plain_readies : {E : Type 0} (t : Tables) (m : Message) (now : ℕ) (v : Verdict) (result : Result Ready E)
    → IfOk result (λ r. (c : Command) → readied c r ≡ verdict_of c v) → IfOk result (λ r. IsVerdictPlain r)
    → VerdictReadies t t m now (verdict_of m.command v) result
plain_readies t m now v (Ok r) e p = λ s f h a w. record { verdict_is = e m.command; is_ready = plain_stands t s m now r p h }
plain_readies t m now v (Err x) e p = λ s f h a w. h

-- it is sure where it wants none
pub sure_by : {E : Type 0} (r : Result Ready E) (b : Bool) → MatchResult r (λ _. b ≡ false) (λ _. b ≡ true) → b ≡ false → IsOk r
sure_by (Ok r) b h e = refl
sure_by (Err x) b h e = absurd (cc)

pub wanted : {E : Type 0} (r : Result Ready E) (b : Bool) → b ≡ true → b ≡ false → IsOk r
wanted r b h e = absurd (cc)

-- a verdict that is none of these wants memory
pub rest_wants : (c : Command) (v : Verdict)
    → ((status : ℕ) → v ≡ codes.Refuse status → ⊥)
    → ((body : Body) → v ≡ codes.Give body → ⊥)
    → ((id status : ℕ) → v ≡ codes.TurnDown id status → ⊥)
    → ((id : ℕ) (body : Body) → v ≡ codes.Tell id body → ⊥)
    → ((id : ℕ) (last : Option (List ℕ)) (body : Body) → v ≡ codes.Show id last body → ⊥)
    → ((id position : ℕ) → v ≡ codes.Seek id position → ⊥)
    → ((id index number status : ℕ) → v ≡ codes.KeepSlot id index number status → ⊥)
    → ((id index number : ℕ) (ranges : Vec Range Global) → v ≡ codes.PutRanges id index number ranges → ⊥)
    → ((id : ℕ) (body : Body) → v ≡ codes.CloseOpen id body → ⊥)
    → ((session : ℕ) (quiet : Bool) → v ≡ codes.EndSession session quiet → ⊥)
    → wants_memory (verdict_of c v) ≡ true
rest_wants c (codes.Refuse status) h1 h2 h3 h4 h5 h6 h7 h8 h9 h10 = absurd (h1 status refl)
rest_wants c (codes.Give body) h1 h2 h3 h4 h5 h6 h7 h8 h9 h10 = absurd (h2 body refl)
rest_wants c (codes.TurnDown id status) h1 h2 h3 h4 h5 h6 h7 h8 h9 h10 = absurd (h3 id status refl)
rest_wants c (codes.Tell id body) h1 h2 h3 h4 h5 h6 h7 h8 h9 h10 = absurd (h4 id body refl)
rest_wants c (codes.Show id last body) h1 h2 h3 h4 h5 h6 h7 h8 h9 h10 = absurd (h5 id last body refl)
rest_wants c (codes.Seek id position) h1 h2 h3 h4 h5 h6 h7 h8 h9 h10 = absurd (h6 id position refl)
rest_wants c (codes.KeepSlot id index number status) h1 h2 h3 h4 h5 h6 h7 h8 h9 h10 = absurd (h7 id index number status refl)
rest_wants c (codes.PutRanges id index number ranges) h1 h2 h3 h4 h5 h6 h7 h8 h9 h10 = absurd (h8 id index number ranges refl)
rest_wants c (codes.CloseOpen id body) h1 h2 h3 h4 h5 h6 h7 h8 h9 h10 = absurd (h9 id body refl)
rest_wants c (codes.EndSession session quiet) h1 h2 h3 h4 h5 h6 h7 h8 h9 h10 = absurd (h10 session quiet refl)
rest_wants c _ h1 h2 h3 h4 h5 h6 h7 h8 h9 h10 = refl

-- ---- what wants room alone

pub refusal_for : (t : Tables) (s : Server) (m : Message) (now guid status : ℕ) → TablesShown t s
    → IsReadyFor t s m now (verdicts.KeepRefusal guid status) (readies.KeepRefusal guid status)
refusal_for t s m now guid status h = record {
  verdict_is = refl;
  is_ready = record { others = others t s h; files = h.files; stands = tt };
}

pub repeat_for : (t : Tables) (s : Server) (m : Message) (now id : ℕ) → TablesShown t s
    → IsReadyFor t s m now (verdicts.Repeat id (create_in m.command)) (readies.Repeat id)
repeat_for t s m now id h = record { verdict_is = refl; is_ready = record { others = others t s h; files = h.files; stands = tt } }

pub attach_for : (t : Tables) (s : Server) (m : Message) (now id : ℕ) → TablesShown t s
    → IsReadyFor t s m now (verdicts.Attach id (create_in m.command)) (readies.Attach id)
attach_for t s m now id h = record { verdict_is = refl; is_ready = record { others = others t s h; files = h.files; stands = tt } }

pub tree_for : (t : Tables) (s : Server) (m : Message) (now : ℕ) (pipes : Bool) → TablesShown t s
    → IsReadyFor t s m now (verdicts.AddTree pipes) (readies.AddTree pipes)
tree_for t s m now pipes h = record { verdict_is = refl; is_ready = record { others = others t s h; files = h.files; stands = tt } }

pub tree_end_for : (t : Tables) (s : Server) (m : Message) (now : ℕ) (opens : Vec ℕ Global) → TablesShown t s
    → opens.items ≡ opens_of_tree s m.session_id m.tree_id → IsReadyFor t s m now verdicts.DropTree (readies.DropTree opens)
tree_end_for t s m now opens h e = record {
  verdict_is = refl;
  is_ready = record { others = others t s h; files = h.files; stands = e };
}
