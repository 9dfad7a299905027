-- What each connection, and a round, comes to, as the definitions write it.
use Rattle.std.proofs.Common.{◌≡◌, ℕ, ◌-◌, ◌&&◌, not, Bool, true, false, List, [], ◌∷◌, length, map, slice_get, refl, sym}
use Rattle.std.proofs.Common.{ap, subst}
use Rattle.std.proofs.Common.{◌∙◌, Some, None, option_map, Result, Ok, Err, MatchResult, arith}
use Rattle.client_steps.specs.whole_client.Shown.{ShowsClient}
use Rattle.client_steps.specs.declared.whole_client.client.Client.{Client as Core}
use Rattle.client_values.specs.outcomes.Meaning.{dialog_of, refusal_of}
use Rattle.client_values.specs.declared.outcomes.outcome.RefusedDialog.{RefusedDialog}
use Rattle.spec_exchange.specs.Network.{Cut, Drop, Finish, Open}
use Rattle.spec_exchange.specs.Operations.{Refusal}
use Rattle.spec_exchange.specs.Schedules.{hangs, is_orphan, last_refusal}
use Rattle.spec_exchange.specs.Table.{is_at}
use Rattle.spec_world.specs.Courses.{Course, drain, drain_and_cut, drop_orphan, each, finished_after, finished_by, link, linking}
use Rattle.spec_world.specs.Courses.{push_lowest}
use Rattle.spec_world.specs.Courses.{rounds, settle_below, tidy, went, went_if, went_push}
use Rattle.spec_world.specs.Events.{Plain, bytes_happen}
use Rattle.spec_world.specs.Notes.{open_error}
use Rattle.spec_world.specs.Settings.{WorldSettings}
use Rattle.spec_world.specs.World as bytes
use Rattle.world_ends.specs.Shown.{ShowsWorld}
use Rattle.world_ends.specs.declared.events.WorldError.{WorldError}
use Rattle.world_ends.specs.declared.world.World.{World}
use Rattle.world_steps.proofs.notes.Still.{still}
use Rattle.world_steps.specs.notes.Noted.{Noted}
use Rattle.world_steps.proofs.events.Coming.{in_course}
use Rattle.drill_command.proofs.settling.Equations.{rounds_off, rounds_on}
use Rattle.drill_command.proofs.settling.Turning.{one_more}
use Rattle.drill_command.specs.settling.Linked.{LinksAs}
use Rattle.drill_command.specs.settling.Parts.{is_left, round_of}
use Rattle.world_steps.specs.Parts.{IsWorldMemory}
use Rattle.world_steps.proofs.Refusing.{memory, result_with}

pub pushed : (z : WorldSettings) (c : Course) (k : ℕ) → went z c (push_lowest c.world k) ≡ went_push z c k
unfolding went_push
pushed z c k = refl

pub linked_as : (z : WorldSettings) (c : Course) (k : ℕ) → linking z 8 (went z c (Open k)) k ≡ link z c k
unfolding link
linked_as z c k = refl

-- of an opening that the world met
links_by : (z : WorldSettings) (y : World) (r : Result Unit WorldError) (c : Course) (k : ℕ) → open_error c.world k ≡ None
    → MatchResult r (λ u. ShowsWorld z y (linking z 8 (went z c (Open k)) k).world) (λ e. IsWorldMemory e) → LinksAs z c k y r
links_by z y (Ok u) c k met h = (met, subst (λ (d : Course). ShowsWorld z y d.world) (linked_as z c k) h)
links_by z y (Err e) c k met h = memory z y c.world (open_error c.world k) e h

pub links : (z : WorldSettings) (x y : World) (r : Result Unit WorldError) (c : Course) (k : ℕ) → open_error c.world k ≡ None
    → ShowsWorld z x (bytes_happen z c.world (Plain (Open k)))
    → (ShowsWorld z x (went z c (Open k)).world
    → MatchResult r (λ u. ShowsWorld z y (linking z 8 (went z c (Open k)) k).world) (λ e. IsWorldMemory e))
    → LinksAs z c k y r
links z x y r c k met h on = links_by z y r c k met (on (in_course z x c (Plain (Open k)) h))

pub drop_is : (z : WorldSettings) (c : Course) (k : ℕ) → went_if z (is_orphan c.world.values k) c (Drop k) ≡ drop_orphan z c k
unfolding drop_orphan
drop_is z c k = refl

pub tidy_is : (z : WorldSettings) (c : Course) (k : ℕ)
    → drop_orphan z (went_if z ((c.world.values.conns k).client_open && not (c.world.values.conns k).server_open) c (Cut k)) k ≡ tidy z c k
unfolding tidy
tidy_is z c k = refl

abbrev pub drained : WorldSettings → Course → ℕ → Course
drained z c k = finished_after z (is_at k c.world.values.client.making) c (drain z 64 c k)

pub cut_is : (z : WorldSettings) (c : Course) (k : ℕ)
    → went_if z (hangs (drained z c k).world.values k) (drained z c k) (Cut k) ≡ drain_and_cut z c k
unfolding drain_and_cut
cut_is z c k = refl

pub settle_is : (z : WorldSettings) (n fuel : ℕ) (c : Course)
    → rounds z n fuel (each (drop_orphan z) 0 n (each (drain_and_cut z) 0 n c)) ≡ settle_below z n fuel c
unfolding settle_below
settle_is z n fuel c = refl

-- ---- all is given up

pub finished_none : (z : WorldSettings) (c : Course) → c ≡ finished_by z None c
unfolding finished_by
finished_none z c = refl

pub finished_some : (z : WorldSettings) (why : Refusal) (c : Course) → went z c (Finish why) ≡ finished_by z (Some why) c
unfolding finished_by
finished_some z why c = refl

-- in a course
pub finish_comes : (z : WorldSettings) (x : World) (r : Result Unit WorldError) (c : Course) (why : Refusal)
    → MatchResult r (λ u. ShowsWorld z x (bytes_happen z c.world (Plain (Finish why)))) (λ e. IsWorldMemory e)
    → MatchResult r (λ u. ShowsWorld z x (went z c (Finish why)).world) (λ e. IsWorldMemory e)
finish_comes z x r c why h = result_with r (λ u s. in_course z x c (Plain (Finish why)) s) h

-- it is noted
pub noted_finish : (z : WorldSettings) (x y : World) (r : Result Unit WorldError) (w : bytes.World) → ShowsWorld z x w
    → MatchResult r (λ u. Noted x y) (λ e. IsWorldMemory e) → MatchResult r (λ u. ShowsWorld z y w) (λ e. IsWorldMemory e)
noted_finish z x y (Ok u) w h n = still z x y w n h
noted_finish z x y (Err e) w h n = n

-- ---- the dialog that was refused last

last_at : (d : RefusedDialog) (ds : List RefusedDialog)
    → last_refusal (map dialog_of (d ∷ ds)) ≡ option_map (λ (x : RefusedDialog). refusal_of x.refusal) (slice_get (d ∷ ds) (length ds))
unfolding last_refusal
last_at d [] = refl
last_at d (e ∷ ds) = last_at e ds

pub last_told : (ds : List RefusedDialog)
    → last_refusal (map dialog_of ds) ≡ option_map (λ (x : RefusedDialog). refusal_of x.refusal) (slice_get ds (length ds - 1))
unfolding last_refusal
last_told [] = refl
last_told (d ∷ ds) =
    let e : length ds ≡ length (d ∷ ds) - 1 = omega arith in
    last_at d ds ∙ ap (λ (n : ℕ). option_map (λ (x : RefusedDialog). refusal_of x.refusal) (slice_get (d ∷ ds) n)) e

-- ---- a client that looked whether all is settled

pub looked : (z : WorldSettings) (x : World) (p : Core) (c : Course) → ShowsClient p c.world.values.client → ShowsWorld z x c.world
    → ShowsWorld z (record x { client = p }) c.world
looked z x p c shown h = record {
  settings = h.settings;
  own = record {
    client = shown;
    kept = h.own.kept;
    asks = h.own.asks;
    who = h.own.who;
    accepted_is = h.own.accepted_is;
    making_is = h.own.making_is;
    apart = h.own.apart;
  };
  session = h.session;
  server = h.server;
  moment = h.moment;
  draws = h.draws;
  places = h.places;
  channels = h.channels;
}

-- ---- rounds

pub rounds_over : (z : WorldSettings) (n : ℕ) (c : Course) → n ≡ 0 → c ≡ rounds z 256 n c
unfolding rounds
rounds_over z n c e = subst (λ (m : ℕ). c ≡ rounds z 256 m c) (sym e) refl

pub rounds_stop : (z : WorldSettings) (n : ℕ) (c : Course) → (n ≡ 0 → ⊥) → is_left c ≡ false → c ≡ rounds z 256 n c
unfolding rounds
rounds_stop z n c e t = subst (λ (m : ℕ). c ≡ rounds z 256 m c) (sym (one_more n e)) (sym (rounds_off z 256 (n - 1) c t))

pub rounds_go : (z : WorldSettings) (n : ℕ) (c : Course) → (n ≡ 0 → ⊥) → is_left c ≡ true
    → rounds z 256 (n - 1) (round_of z c) ≡ rounds z 256 n c
unfolding rounds
rounds_go z n c e t =
    subst (λ (m : ℕ). rounds z 256 (n - 1) (round_of z c) ≡ rounds z 256 m c) (sym (one_more n e)) (sym (rounds_on z 256 (n - 1) c t))

-- where a loop of so many rounds at most is, with so many left
pub record Reached (z : WorldSettings) (x : World) (left most : ℕ) (c : Course) : Type 0 where
  pub now : Course
  pub shown : ShowsWorld z x now.world
  pub same : rounds z 256 left now ≡ rounds z 256 most c

abbrev pub AreReached : World → World → ℕ → ℕ → Type 0
AreReached old x left most = (z : WorldSettings) (c : Course) → ShowsWorld z old c.world → Reached z x left most c

pub none_gone : (x : World) (most : ℕ) → AreReached x x most most
none_gone x most = λ z c h. record { now = c; shown = h; same = refl }

pub one_gone : (old x y : World) (left most : ℕ) → (left ≡ 0 → ⊥) → AreReached old x left most
    → ((z : WorldSettings) (c : Course) → ShowsWorld z x c.world → (is_left c ≡ true) × ShowsWorld z y (round_of z c).world)
    → AreReached old y (left - 1) most
one_gone old x y left most e r on = λ z c h.
    let a = r z c h in
    let b = on z a.now a.shown in
    record { now = round_of z a.now; shown = b.1; same = rounds_go z left a.now e b.0 ∙ a.same }

pub ends_over : (z : WorldSettings) (x : World) (left most : ℕ) (c : Course) → left ≡ 0 → Reached z x left most c
    → ShowsWorld z x (rounds z 256 most c).world
ends_over z x left most c e r = subst (λ (d : Course). ShowsWorld z x d.world) (rounds_over z left r.now e ∙ r.same) r.shown

pub ends_settled : (z : WorldSettings) (x y : World) (left most : ℕ) (c : Course) → (left ≡ 0 → ⊥) → (r : Reached z x left most c)
    → is_left r.now ≡ false → ShowsWorld z y r.now.world → ShowsWorld z y (rounds z 256 most c).world
ends_settled z x y left most c e r t h = subst (λ (d : Course). ShowsWorld z y d.world) (rounds_stop z left r.now e t ∙ r.same) h

-- ---- of two values

pub is_no : (b : Bool) → not b ≡ true → b ≡ false
is_no true e = absurd (cc)
is_no false e = refl

pub is_so : (b : Bool) → not b ≡ false → b ≡ true
is_so true e = refl
is_so false e = absurd (cc)
