-- The events of any script's course lead to its world, and a Finish that is none of its lines comes behind a refused dialog.
use Rattle.std.proofs.Common.{◌≡◌, ℕ, ◌+◌, ◌*◌, ◌==◌, Bool, true, false, not, ◌&&◌, ◌||◌, List, [], ◌∷◌, ◌++◌, refl, sym, subst, ◌∙◌, ap}
use Rattle.std.proofs.Common.{Some, zero, suc}
use Rattle.spec_exchange.specs.Table.{is_filled, is_at}
use Rattle.spec_exchange.specs.Operations.{Refusal}
use Rattle.spec_exchange.specs.ClientStep.{some_unsettled}
use Rattle.spec_exchange.specs.Schedules.{Course, Line, Does, Pushes, Links as LinksLine, Settles, course, go, went, went_if, went_push}
use Rattle.spec_exchange.specs.Schedules.{last_refusal, drain, hangs, is_orphan, finished_after, drain_and_cut, each, drop_orphan}
use Rattle.spec_exchange.specs.Schedules.{tidy, linked, pushed_round, ready_round, rounds, settle_below, least}
use Rattle.spec_exchange.specs.Network.{World, Event, Cut, Drop, Finish, Settings, happens, run, start}
use Rattle.law_sessions.proofs.messages.Reached.{run_more}
use Rattle.law_server.proofs.tables.Logic.{back_of, front_off, back_off, not_true}
use Rattle.law_answers.specs.completeness.Completeness.{begun, course_of}
use Rattle.law_answers.proofs.completeness.Equations.{by_test, went_on, went_off, ready_on, ready_off, pushed_on}
use Rattle.law_answers.proofs.completeness.Equations.{pushed_off, rounds_on, rounds_off}
use Rattle.law_answers.proofs.completeness.Later.{one_round}
use Rattle.law_outcomes.specs.scripts.Scripts.{is_quiet, is_finish, is_finish_line, finishes_itself, ScriptCourseRuns, FinishesRefused}
use Rattle.law_outcomes.proofs.scripts.Loops.{CarriedOn, drains, links, finishes, begins, pushes, each_on}

-- ---- what is due

-- a Finish has the refusal of the dialog that was refused last
abbrev pub Due : World → Event → Type 0
Due w e = (refusal : Refusal) → e ≡ Finish refusal → last_refusal w.client.refusals ≡ Some refusal

unfoldable pub AllDue : List Event → World → Type 0
AllDue [] w = Unit {0}
AllDue (e ∷ es) w = Due w e × AllDue es (happens w e)

due_more : (es : List Event) (e : Event) (w : World) → AllDue es w → Due (run es w) e → AllDue (es ++ e ∷ []) w
unfolding AllDue run
due_more [] e w h d = (d, tt)
due_more (x ∷ es) e w h d = (h.0, due_more es e (happens w x) h.1 d)

due_in : (before after : List Event) (e : Event) (w : World) → AllDue (before ++ e ∷ after) w → Due (run before w) e
unfolding AllDue run
due_in [] after e w h = h.0
due_in (x ∷ before) after e w h = due_in before after e (happens w x) h.1

no_finish : (w : World) (e : Event) → is_finish e ≡ false → Due w e
no_finish w e n refusal is = absurd (let h : is_finish e ≡ true = ap is_finish is in cc)

its_refusal : (w : World) (r : Refusal) → last_refusal w.client.refusals ≡ Some r → Due w (Finish r)
its_refusal w r e refusal is = e ∙ ap Some (same is)
  where
    same : Finish r ≡ Finish refusal → r ≡ refusal
    same q = cc

-- ---- the course so far; `own` tells whether a line may be a Finish

pub record Told (z : Settings) (own : Bool) (c : Course) : Type 0 where
  pub is : run c.events (start z) ≡ c.world
  pub due : own ≡ false → AllDue c.events (start z)

tells : (z : Settings) (own : Bool) (c : Course) (e : Event) → (own ≡ false → Due c.world e) → Told z own c → Told z own (went c e)
unfolding went
tells z own c e d h =
    record {
      is = run_more c.events e (start z) ∙ ap (λ (w : World). happens w e) h.is;
      due = λ o. due_more c.events e (start z) (h.due o) (subst (λ (w : World). Due w e) (sym h.is) (d o));
    }

tells_on : (z : Settings) (own : Bool) (c : Course) (e : Event) → is_finish e ≡ false → Told z own c → Told z own (went c e)
tells_on z own c e n h = tells z own c e (λ _. no_finish c.world e n) h

carried_on : (z : Settings) (own : Bool) → CarriedOn (Told z own)
carried_on z own =
    record {
      event = λ c e plain h. tells_on z own c e (not_true (is_finish e) (back_of (is_quiet e) _ plain)) h;
      finish = λ c refusal is h. tells z own c (Finish refusal) (λ _. its_refusal c.world refusal is) h;
    }

-- ---- settling

if_cut : (z : Settings) (own b : Bool) (c : Course) (e : Event) → is_finish e ≡ false → Told z own c → Told z own (went_if b c e)
if_cut z own b c e n h =
    by_test (Told z own) b (went_if b c e) (went c e) c (went_on b c e) (went_off b c e) (λ _. tells_on z own c e n h) (λ _. h)

drains_and_cuts : (z : Settings) (own : Bool) (c : Course) (k : ℕ) → Told z own c → Told z own (drain_and_cut c k)
unfolding drain_and_cut
drains_and_cuts z own c k h =
    let d = drain 64 c k in let n = is_at k c.world.client.making in let e = finished_after n c d in let on = carried_on z own in
    if_cut z own (hangs e.world k) e (Cut k) refl (finishes (Told z own) on n c d (drains (Told z own) on 64 c k h))

drops : (z : Settings) (own : Bool) (c : Course) (k : ℕ) → Told z own c → Told z own (drop_orphan c k)
unfolding drop_orphan
drops z own c k h = if_cut z own (is_orphan c.world k) c (Drop k) refl h

tidies : (z : Settings) (own : Bool) (c : Course) (k : ℕ) → Told z own c → Told z own (tidy c k)
unfolding tidy
tidies z own c k h =
    let b = (c.world.conns k).client_open && not (c.world.conns k).server_open in
    drops z own (went_if b c (Cut k)) k (if_cut z own b c (Cut k) refl h)

pushes_on : (z : Settings) (own : Bool) (c : Course) (k : ℕ) → Told z own c → Told z own (pushed_round c k)
pushes_on z own c k h =
    let v = went_push c k in let p = pushes (Told z own) (carried_on z own) c k h in
    by_test (Told z own) (is_filled (v.world.conns k).up || is_filled (v.world.conns k).down) (pushed_round c k) (drain 64 v k)
    (went v (Cut k)) (pushed_on c k) (pushed_off c k) (λ _. drains (Told z own) (carried_on z own) 64 v k p)
    (λ _. tells_on z own v (Cut k) refl p)

readies : (z : Settings) (own : Bool) (c : Course) → Told z own c → Told z own (ready_round 256 c)
readies z own c h =
    let k = least c.world.client.ready 0 256 in
    by_test (Told z own) (c.world.client.channels == 0) (ready_round 256 c) c (pushed_round c k) (ready_on 256 c) (ready_off 256 c)
    (λ _. h) (λ _. pushes_on z own c k h)

round_on : (z : Settings) (own : Bool) (c : Course) → Told z own c → Told z own (one_round 256 c)
round_on z own c h =
    let d = linked 256 c in
    each_on (Told z own) tidy (tidies z own) 0 256 (ready_round 256 d)
    (readies z own d (begins (Told z own) (carried_on z own) 256 c h))

rounds_on_all : (z : Settings) (own : Bool) (fuel : ℕ) (c : Course) → Told z own c → Told z own (rounds 256 fuel c)
unfolding rounds
rounds_on_all z own zero c h = h
rounds_on_all z own (suc fuel) c h =
    let d = one_round 256 c in let again = rounds_on_all z own fuel d (round_on z own c h) in
    by_test (Told z own) (some_unsettled c.world.client c.world.client.taken) (rounds 256 (suc fuel) c) (rounds 256 fuel d) c
    (rounds_on 256 fuel c) (rounds_off 256 fuel c) (λ _. again) (λ _. h)

settles : (z : Settings) (own : Bool) (fuel : ℕ) (c : Course) → Told z own c → Told z own (settle_below 256 fuel c)
unfolding settle_below
settles z own fuel c h =
    let d = each drain_and_cut 0 256 c in
    rounds_on_all z own fuel (each drop_orphan 0 256 d)
    (each_on (Told z own) drop_orphan (drops z own) 0 256 d
    (each_on (Told z own) drain_and_cut (drains_and_cuts z own) 0 256 c h))

-- ---- scripts

goes : (z : Settings) (own : Bool) (c : Course) (l : Line) → (own ≡ false → is_finish_line l ≡ false) → Told z own c
    → Told z own (go 256 c l)
unfolding go
goes z own c (Does e) n h = tells z own c e (λ o. no_finish c.world e (n o)) h
goes z own c (Pushes k) n h = pushes (Told z own) (carried_on z own) c k h
goes z own c (LinksLine k) n h = links (Told z own) (carried_on z own) c k h
goes z own c Settles n h = settles z own (8 * (c.world.client.taken + 256 + 1)) c h

courses : (z : Settings) (own : Bool) (ls : List Line) (c : Course) → (own ≡ false → finishes_itself ls ≡ false)
    → Told z own c → Told z own (course 256 ls c)
unfolding course finishes_itself
courses z own [] c n h = h
courses z own (l ∷ ls) c n h =
    courses z own ls (go 256 c l) (λ o. back_off (is_finish_line l) _ (n o)) (goes z own c l (λ o. front_off (is_finish_line l) _ (n o)) h)

first : (z : Settings) (own : Bool) → Told z own (begun z)
unfolding run AllDue
first z own = record { is = refl; due = λ _. tt }

pub course_runs : ScriptCourseRuns
course_runs z ls = (courses z true ls (begun z) (λ o. absurd (cc)) (first z true)).is

-- each Finish of a course whose script has none of its own is due
pub all_due : (z : Settings) (ls : List Line) → finishes_itself ls ≡ false → AllDue (course_of z ls).events (start z)
all_due z ls n = (courses z false ls (begun z) (λ _. n) (first z false)).due refl

pub finishes_refused : FinishesRefused
finishes_refused z ls n before after refusal is =
    due_in before after (Finish refusal) (start z) (subst (λ (es : List Event). AllDue es (start z)) is (all_due z ls n)) refusal refl
