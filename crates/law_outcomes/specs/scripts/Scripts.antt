-- Courses of scripts, most of them of scripts whose own lines lose nothing: what is cut, and what becomes of each operation.
use Rattle.std.specs.Prelude.{◌≡◌, ℕ, ◌≤◌, ◌<◌, Bool, true, false, ◌&&◌, ◌||◌, List, [], ◌∷◌, ◌++◌, Some}
use Rattle.spec_exchange.specs.Operations.{Refusal, NoSlot, NoOpen, is_firm}
use Rattle.spec_exchange.specs.Client.{Client}
use Rattle.spec_exchange.specs.ClientStep.{last_number, some_unsettled}
use Rattle.spec_exchange.specs.Schedules.{Line, Does, Settles, last_refusal}
use Rattle.spec_exchange.specs.Network.{World, Event, Cut, Drop, Restart, Crash, Finish, Settings, happens, run, start}
use Rattle.law_answers.specs.completeness.Completeness.{course_of, without_losses}
use Rattle.law_outcomes.specs.outcomes.Outcomes.{OperationAnswered, LacksSlot, LacksOpen}

-- ---- scripts

-- no cut, drop, restart or crash
abbrev pub is_quiet : Event → Bool
is_quiet (Cut k) = false
is_quiet (Drop k) = false
is_quiet Restart = false
is_quiet (Crash k kept) = false
is_quiet _ = true

-- a push, a link and a settling are the program's own, whatever events they come to
abbrev pub is_quiet_line : Line → Bool
is_quiet_line (Does e) = is_quiet e
is_quiet_line _ = true

-- none of its lines is a cut, drop, restart or crash
unfoldable pub is_quiet_script : List Line → Bool
is_quiet_script [] = true
is_quiet_script (l ∷ ls) = is_quiet_line l && is_quiet_script ls

-- the client gives up because no session comes
abbrev pub is_finish : Event → Bool
is_finish (Finish refusal) = true
is_finish _ = false

abbrev pub is_finish_line : Line → Bool
is_finish_line (Does e) = is_finish e
is_finish_line _ = false

-- some line of it is a Finish
unfoldable pub finishes_itself : List Line → Bool
finishes_itself [] = false
finishes_itself (l ∷ ls) = is_finish_line l || finishes_itself ls

-- ---- what is given up

-- all is given up while an operation is unsettled
abbrev pub gives_up : World → Event → Bool
gives_up w (Finish refusal) = some_unsettled w.client w.client.taken
gives_up w _ = false

-- some event of the list does, in the world that it comes to
unfoldable pub has_given_up : List Event → World → Bool
has_given_up [] w = false
has_given_up (e ∷ es) w = gives_up w e || has_given_up es (happens w e)

-- ---- the course of any script

-- Its events lead to its world.
abbrev pub ScriptCourseRuns : Type 0
ScriptCourseRuns = (z : Settings) (ls : List Line) → run (course_of z ls).events (start z) ≡ (course_of z ls).world

-- The program gives up only behind a refused dialog: a Finish that is no line of the script has the last one's refusal.
abbrev pub FinishesRefused : Type 0
FinishesRefused =
    (z : Settings) (ls : List Line) → finishes_itself ls ≡ false → (before after : List Event) (refusal : Refusal)
    → (course_of z ls).events ≡ before ++ Finish refusal ∷ after
    → last_refusal (run before (start z)).client.refusals ≡ Some refusal

-- Where no dialog of the client was refused, and no line is a Finish, nothing was given up while an operation was unsettled.
abbrev pub GivesNothingUp : Type 0
GivesNothingUp =
    (z : Settings) (ls : List Line) → finishes_itself ls ≡ false → (course_of z ls).world.client.refusals ≡ []
    → has_given_up (course_of z ls).events (start z) ≡ false

-- ---- what the course of a quiet script cuts and drops

-- The program cuts a channel, in settling too, only where every operation is settled.
abbrev pub CutsSettled : Type 0
CutsSettled =
    (z : Settings) (ls : List Line) → is_quiet_script ls ≡ true → (before after : List Event) (k : ℕ)
    → (course_of z ls).events ≡ before ++ Cut k ∷ after
    → some_unsettled (run before (start z)).client (run before (start z)).client.taken ≡ false

-- It drops a connection only where the client has let it go.
abbrev pub DropsLetGo : Type 0
DropsLetGo =
    (z : Settings) (ls : List Line) → is_quiet_script ls ≡ true → (before after : List Event) (k : ℕ)
    → (course_of z ls).events ≡ before ++ Drop k ∷ after → ((run before (start z)).conns k).client_open ≡ false

-- Where nothing is given up because no session comes, the client loses nothing of an operation.
abbrev pub LosesNothing : Type 0
LosesNothing =
    (z : Settings) (ls : List Line) → is_quiet_script ls ≡ true → has_given_up (course_of z ls).events (start z) ≡ false
    → without_losses (course_of z ls).events (start z) ≡ true

-- ---- what becomes of each operation

-- An operation is Ok or Refused with the reply of the server's step to a message of its own; or it had no slot, or no open,
-- by the event that is its cause.
pub data OperationEnds (z : Settings) (events : List Event) (c : Client) (g : ℕ) : Type 0 where
  ByReply : is_firm (c.outcome g) ≡ true → OperationAnswered z events g (c.op g) (c.settled_by g) (c.outcome g) → OperationEnds z events c g
  WithoutSlot : (create : ℕ) → c.outcome g ≡ NoSlot create → LacksSlot z events g create → OperationEnds z events c g
  WithoutOpen : (create : ℕ) → c.outcome g ≡ NoOpen create → LacksOpen z events g create → OperationEnds z events c g

-- Each operation that was taken ends so, where the script ends in settling, nothing was given up, and the client has counted
-- fewer sessions than it can.
abbrev pub AllEnd : Type 0
AllEnd =
    (z : Settings) (ls : List Line) → is_quiet_script ls ≡ true
    → has_given_up (course_of z (ls ++ Settles ∷ [])).events (start z) ≡ false
    → (course_of z (ls ++ Settles ∷ [])).world.client.session_number < last_number
    → (g : ℕ) → 0 < g → g ≤ (course_of z (ls ++ Settles ∷ [])).world.client.taken
    → OperationEnds z (course_of z (ls ++ Settles ∷ [])).events (course_of z (ls ++ Settles ∷ [])).world.client g
