-- A session that begins was in the making, so that it was never accepted.
use Rattle.std.proofs.Common.{◌≡◌, ℕ, suc, ◌<◌, ◌==◌, Bool, true, false, not, if◌then◌else◌, List, [], ◌∷◌, refl, sym, ap, ◌∙◌, subst}
use Rattle.std.proofs.Common.{eqb-true, arith, Some, slice_get}
use Rattle.spec_exchange.specs.Status.{success, more_processing_required}
use Rattle.spec_exchange.specs.Commands.{Command, Setup, SetupRequest}
use Rattle.spec_exchange.specs.State.{Reply}
use Rattle.spec_exchange.specs.CheckSetup.{is_new}
use Rattle.spec_exchange.specs.Client.{Stage, Apart, SaidNegotiate, SaidFirst, SaidSecond, AskedTree}
use Rattle.spec_exchange.specs.Network.{World as Values, Settings, Sent, Received, answer}
use Rattle.law_sessions.specs.sessions.Sessions.{is_ops, is_new_setup}
use Rattle.law_sessions.specs.sessions.Dialogs.{is_signed}
use Rattle.law_sessions.proofs.sessions.Heard.{answered}
use Rattle.spec_world.specs.Settings.{WorldSettings, values_of}
use Rattle.spec_world.specs.Logon.{Progress, Stays, Interim, Final, progress, channel_in}
use Rattle.spec_world.specs.World.{World}
use Rattle.law_ties.specs.events.Links.{IsTied}
use Rattle.law_dialogs.specs.dialog_requests.Serving.{begins_new, Spare, AllSpared, is_new_second, IsApart}
use Rattle.law_dialogs.specs.waiting.Apart.{SessionsAreApart}
use Rattle.law_dialogs.proofs.waiting.Due.{Facts, facts}
use Rattle.spec_commands.specs.ReplyBody.{seals_in}

-- ---- a new session begins at a success alone

record IsNewSuccess (c : Command) (r : Reply) : Type 0 where
  new : is_new_setup c ≡ true
  ok : r.status ≡ success

unbound : (b : Bool) → not b ≡ true → b ≡ false
unbound true e = absurd (let h : false ≡ true = e in cc)
unbound false e = refl

final_new : (b : Bool) (r : Reply) (x y : Bool) → (r.status == success) ≡ y
    → begins_new (if x then Interim b else if y then Final b (channel_in r.body) (seals_in r.body) else Stays) ≡ true
    → (r.status ≡ success) × (not b ≡ true)
final_new b r true y e h = absurd (let q : false ≡ true = h in cc)
final_new b r false true e h = (eqb-true r.status success e, h)
final_new b r false false e h = absurd (let q : false ≡ true = h in cc)

begins_at : (c : Command) (r : Reply) → begins_new (progress c r) ≡ true → IsNewSuccess c r
unfolding is_new_setup
begins_at (Setup q) r e =
    let f = final_new q.binding r (r.status == more_processing_required) (r.status == success) refl e in record { new = f.1; ok = f.0 }
begins_at c r e = absurd (let h : false ≡ true = e in cc)

-- it was in the making there
began : (z : Settings) (v : Values) → Facts z v → (k : ℕ) (x : Sent) (xs : List Sent) → (v.conns k).up ≡ x ∷ xs
    → begins_new (progress x.message.command (answer v x).reply) ≡ true
    → is_new x.message.session_id (v.server.making x.message.connection) ≡ true
began z v f k x xs e b =
    let m = x.message in
    let s = f.sits in
    let new = begins_at m.command (answer v x).reply b in
    let a = answered v.server v.moment m m.command refl in
    let mine = s.from_client k 0 x (ap (λ us. slice_get us 0) e) in
    let enters = a.enters (a.welcome new.ok new.new mine.2) in
    enters.made

-- ---- so it has no rank

signed_of : (c : Command) (r : SetupRequest) → c ≡ Setup r → r.signed ≡ true → is_signed c ≡ true
unfolding is_signed
signed_of c r e s = ap is_signed e ∙ s

apart_rank : (rank : ℕ → ℕ) (x y : ℕ) → rank x ≡ 0 → 0 < rank y → y ≡ x → ⊥
apart_rank rank x y none some e = no_rank (rank y) (ap rank e ∙ none) some
  where
    no_rank : (n : ℕ) → n ≡ 0 → 0 < n → ⊥
    no_rank n a b = omega (arith, a, b)

setups_apart : (rank : ℕ → ℕ) (session : ℕ) (p : Progress) → (begins_new p ≡ true → rank session ≡ 0) → (xs : List Sent)
    → ((n : ℕ) (x : Sent) → slice_get xs n ≡ Some x → is_signed x.message.command ≡ true → 0 < rank x.message.session_id)
    → AllSpared (Spare session p) xs
setups_apart rank session p none [] f = tt
setups_apart rank session p none (x ∷ xs) f = (
  λ r e s b same. apart_rank rank session x.message.session_id (none b) (f 0 x refl (signed_of x.message.command r e s)) same,
  setups_apart rank session p none xs (λ n y e s. f (suc n) y e s),
)

second_of : (stage : Stage) → is_new_second stage ≡ true → stage ≡ SaidSecond false
second_of (SaidSecond false) e = refl
second_of (SaidSecond true) e = absurd (let h : false ≡ true = e in cc)
second_of (SaidNegotiate bound) e = absurd (let h : false ≡ true = e in cc)
second_of (SaidFirst bound) e = absurd (let h : false ≡ true = e in cc)
second_of AskedTree e = absurd (let h : false ≡ true = e in cc)
second_of Apart e = absurd (let h : false ≡ true = e in cc)

open_by : (z : Settings) (v : Values) → Facts z v → (j : ℕ) (y : Received) → (v.conns j).down ≡ y ∷ [] → (b : Bool)
    → (v.conns j).client_open ≡ b → (v.conns j).client_open ≡ true
open_by z v f j y e true o = o
open_by z v f j y e false o = (let c = f.carried in absurd (let h : [] ≡ y ∷ [] = sym (c.down_open j o) ∙ e in cc))

not_both : {X : Type 0} (b : Bool) → b ≡ true → b ≡ false → X
not_both b e f = absurd (let h : true ≡ false = sym e ∙ f in cc)

apart_by : (z : WorldSettings) (w : World) → Facts (values_of z) w.values → IsTied z w → (k : ℕ) (x : Sent) (xs : List Sent)
    → (w.values.conns k).up ≡ x ∷ xs → IsApart w x.message.session_id (progress x.message.command (answer w.values x).reply)
apart_by z w f i k x xs e =
    let v = w.values in
    let c = v.client in
    let s = f.sits in
    let d = f.talk in
    let m = x.message in
    let p = progress m.command (answer v x).reply in
    let made = began (values_of z) v f k x xs e in
    let none : begins_new p ≡ true → c.rank m.session_id ≡ 0 = λ b. s.making_unranked m.connection m.session_id (made b) in record {
      setups = λ j. setups_apart c.rank m.session_id p none (v.conns j).up (d.signed_up j);
      pending = λ j y down token new ok b same.
          (let o = open_by (values_of z) v f j y down (v.conns j).client_open refl in
          let at = sym (i.stages j o) ∙ second_of (w.wires j).client_end.stage new in
          let reply = s.second_reply j 0 y (ap (λ ds. slice_get ds 0) down) (ap is_ops token) at (eqb-true y.reply.status success ok) in
          not_both (is_new m.session_id (v.server.making m.connection)) (made b)
          (ap (λ q. is_new q (v.server.making m.connection)) (sym same) ∙ reply.1 m.connection));
      accepted = λ pos b same. apart_rank c.rank m.session_id c.accepted (none b) pos same;
    }

pub sessions_are_apart : SessionsAreApart
sessions_are_apart z w events e i =
    apart_by z w (subst (Facts (values_of z)) (sym e) (facts (values_of z) events)) i
