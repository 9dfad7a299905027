-- Scripts, line by line, and the statements.
use Rattle.std.proofs.Common.{◌≡◌, ℕ, ◌+◌, ◌*◌, true, false, List, [], ◌∷◌, ◌++◌, refl, sym, subst, ◌∙◌, ap}
use Rattle.spec_exchange.specs.Table.{is_filled}
use Rattle.spec_exchange.specs.Operations.{Outcome, Unsettled, WasOk, WasRefused, NoSlot, NoOpen, Unknown, is_unsettled, is_firm}
use Rattle.spec_exchange.specs.Client.{Client}
use Rattle.spec_exchange.specs.Schedules.{Course, Line, Does, Pushes, Links as LinksLine, Settles, course, go}
use Rattle.spec_exchange.specs.Network.{World, Event, Cut, Drop, Settings, run, start}
use Rattle.law_server.proofs.tables.Logic.{front_of, back_of, both, not_true}
use Rattle.law_answers.specs.completeness.Completeness.{begun, course_of}
use Rattle.law_answers.proofs.completeness.Runs.{settle_settles}
use Rattle.law_outcomes.specs.outcomes.Outcomes.{OperationAnswered, LacksSlot, LacksOpen, is_known}
use Rattle.law_outcomes.proofs.outcomes.Answers.{all_answered}
use Rattle.law_outcomes.proofs.outcomes.Causes.{causes_told}
use Rattle.law_outcomes.specs.scripts.Scripts.{is_quiet_line, is_quiet_script, GivesNothingUp, CutsSettled, DropsLetGo}
use Rattle.law_outcomes.specs.scripts.Scripts.{LosesNothing, AllEnd}
use Rattle.law_outcomes.specs.scripts.Scripts.{OperationEnds, ByReply, WithoutSlot, WithoutOpen}
use Rattle.law_outcomes.proofs.scripts.Quiet.{Quietly, quiet_event, all_keep, kept_in, nothing_lost}
use Rattle.law_outcomes.proofs.scripts.Paired.{keeps}
use Rattle.law_outcomes.proofs.scripts.Due.{all_due, course_runs}
use Rattle.law_outcomes.proofs.scripts.Refusals.{nothing_given_up}
use Rattle.law_outcomes.proofs.scripts.Loops.{links, pushes}
use Rattle.law_outcomes.proofs.scripts.Settling.{carried_on, settles}

first : (z : Settings) → Quietly z (begun z)
unfolding run all_keep
first z = record { is = refl; paired = λ k o. absurd (cc); kept = refl }

goes : (z : Settings) (c : Course) (l : Line) → is_quiet_line l ≡ true → Quietly z c → Quietly z (go 256 c l)
unfolding go
goes z c (Does e) q h = quiet_event z c e q h
goes z c (Pushes k) q h = pushes (Quietly z) (carried_on z) c k h
goes z c (LinksLine k) q h = links (Quietly z) (carried_on z) c k h
goes z c Settles q h = settles z (8 * (c.world.client.taken + 256 + 1)) c h

courses : (z : Settings) (ls : List Line) (c : Course) → is_quiet_script ls ≡ true → Quietly z c → Quietly z (course 256 ls c)
unfolding course is_quiet_script
courses z [] c q h = h
courses z (l ∷ ls) c q h = courses z ls (go 256 c l) (back_of (is_quiet_line l) _ q) (goes z c l (front_of (is_quiet_line l) _ q) h)

quietly : (z : Settings) (ls : List Line) → is_quiet_script ls ≡ true → Quietly z (course_of z ls)
quietly z ls q = courses z ls (begun z) q (first z)

-- ---- what is cut

-- an event of the course, in the world that it comes to
kept_at : (z : Settings) (ls : List Line) → is_quiet_script ls ≡ true → (before after : List Event) (e : Event)
    → (course_of z ls).events ≡ before ++ e ∷ after → keeps (run before (start z)) e ≡ true
kept_at z ls q before after e is =
    kept_in before after e (start z) (subst (λ (es : List Event). all_keep es (start z) ≡ true) is (quietly z ls q).kept)

pub cuts_settled : CutsSettled
cuts_settled z ls q before after k is = not_true _ (kept_at z ls q before after (Cut k) is)

pub drops_let_go : DropsLetGo
drops_let_go z ls q before after k is = not_true _ (kept_at z ls q before after (Drop k) is)

pub loses_nothing_quiet : LosesNothing
loses_nothing_quiet z ls q kept = nothing_lost (course_of z ls).events (start z) (quietly z ls q).kept kept

pub gives_nothing_up : GivesNothingUp
unfolding is_filled
gives_nothing_up z ls n none =
    nothing_given_up (course_of z ls).events (start z) (all_due z ls n)
    (ap (λ (w : World). is_filled w.client.refusals) (course_runs z ls) ∙ ap is_filled none)

-- ---- what becomes of each operation

settles_last : (ls : List Line) → is_quiet_script ls ≡ true → is_quiet_script (ls ++ Settles ∷ []) ≡ true
unfolding is_quiet_script
settles_last [] q = refl
settles_last (l ∷ ls) q = both (is_quiet_line l) (is_quiet_script (ls ++ Settles ∷ [])) (front_of (is_quiet_line l) _ q)
    (settles_last ls (back_of (is_quiet_line l) _ q))

ends_by : (z : Settings) (events : List Event) (c : Client) (g : ℕ) (o : Outcome) → c.outcome g ≡ o → is_unsettled o
    ≡ false → is_known o ≡ true
    → (is_firm (c.outcome g) ≡ true → OperationAnswered z events g (c.op g) (c.settled_by g) (c.outcome g))
    → ((create : ℕ) → c.outcome g ≡ NoSlot create → LacksSlot z events g create)
    → ((create : ℕ) → c.outcome g ≡ NoOpen create → LacksOpen z events g create)
    → OperationEnds z events c g
ends_by z events c g Unsettled is settled known firm slot gone = absurd (cc)
ends_by z events c g (WasOk reply) is settled known firm slot gone = let f = ap is_firm is in ByReply f (firm f)
ends_by z events c g (WasRefused status) is settled known firm slot gone = let f = ap is_firm is in ByReply f (firm f)
ends_by z events c g (NoSlot create) is settled known firm slot gone = WithoutSlot create is (slot create is)
ends_by z events c g (NoOpen create) is settled known firm slot gone = WithoutOpen create is (gone create is)
ends_by z events c g (Unknown why) is settled known firm slot gone = absurd (cc)

pub script_ends : AllEnd
script_ends z ls q kept few g low high =
    let script = ls ++ Settles ∷ [] in let c = course_of z script in let h = quietly z script (settles_last ls q) in
    subst (λ (w : World). OperationEnds z c.events w.client g) h.is
    (let w = run c.events (start z) in
    let settled : is_unsettled (w.client.outcome g) ≡ false = subst (λ (v : World). is_unsettled (v.client.outcome g)
    ≡ false) (sym h.is) (settle_settles z ls few g low high) in
    let a = all_answered z c.events (nothing_lost c.events (start z) h.kept kept) g in
    ends_by z c.events w.client g (w.client.outcome g) refl settled a.0 a.1
    (λ create. (causes_told z c.events g create).0) (λ create. (causes_told z c.events g create).1))
