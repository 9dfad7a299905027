-- What holds of each event of a server with waiting LOCKs, and of each list of events.
use Rattle.std.specs.Prelude.{◌≡◌, ℕ, ◌+◌, ◌==◌, ◌<◌, ◌≤◌, Bool, true, false, if◌then◌else◌, List, [], ◌∷◌, length, Option, Some, None}
use Rattle.std.specs.Prelude.{Result, Ok, Err, flat_map, is_some, ◌⊎◌, ⊤}
use Rattle.std.specs.List.{AllByRecursion}
use Rattle.spec_exchange.specs.State.{Server, Message, Answer, Heard, End, Stop}
use Rattle.spec_exchange.specs.Step.{step}
use Rattle.law_waiting.specs.held.Held.{IsHeldUp, would_wait}
use Rattle.law_waiting.specs.wait_steps.WaitStep.{Waiter, WaitState, WaitEvent, Serves, Cancels, WaitTurn, Response, Responses, WaitRefusal, StepMishap, Lacks, Fails}
use Rattle.law_waiting.specs.wait_steps.WaitStep.{MadeStep, WaitAnswer, new_waiter, sent_before, wait_step, waiting_on, pending_to, step_acted}

-- ---- a run: the answers to all turns, and the state behind them

unfoldable pub answers : WaitState → List WaitTurn → List WaitAnswer
answers w [] = []
answers w (t ∷ ts) = wait_step w t ∷ answers (wait_step w t).waiting ts

unfoldable pub behind : WaitState → List WaitTurn → WaitState
behind w [] = w
behind w (t ∷ ts) = behind (wait_step w t).waiting ts

-- ---- what an answer has: the waiter that came, and the final responses that were given

abbrev pub listed : Option Waiter → List Waiter
listed None = []
listed (Some w) = w ∷ []

abbrev pub finals_in : Result Responses WaitRefusal → List Response
finals_in (Ok r) = r.finals
finals_in (Err e) = []

abbrev pub came : WaitAnswer → List Waiter
came A = listed A.began

abbrev pub finals : WaitAnswer → List Response
finals A = finals_in A.result

-- the waiter that was told so by an interim response
abbrev pub interims_in : Option Waiter → Result Responses WaitRefusal → List Waiter
interims_in began (Ok r) = listed began
interims_in began (Err e) = []

abbrev pub interims : WaitAnswer → List Waiter
interims A = interims_in A.began A.result

-- and what all have

abbrev pub all_came : List WaitAnswer → List Waiter
all_came answers = flat_map came answers

abbrev pub all_interims : List WaitAnswer → List Waiter
all_interims answers = flat_map interims answers

abbrev pub all_finals : List WaitAnswer → List Response
all_finals answers = flat_map finals answers

abbrev pub all_made : List WaitAnswer → List MadeStep
all_made answers = flat_map (λ A. A.made) answers

-- ---- how many of them pass a test of the message's connection, its MessageId and the AsyncId

abbrev pub how_many : {X : Type 0} → (X → Bool) → List X → ℕ
how_many P [] = 0
how_many P (x ∷ xs) = (if P x then 1 else 0) + how_many P xs

abbrev pub Test : Type 0
Test = ℕ → ℕ → ℕ → Bool

abbrev pub is_waiter_of : Test → Waiter → Bool
is_waiter_of P w = P w.message.connection w.message.message_id w.async_id

abbrev pub waiters_of : Test → List Waiter → ℕ
waiters_of P ws = how_many (is_waiter_of P) ws

abbrev pub finals_of : Test → List Response → ℕ
finals_of P ls = how_many (λ l. P l.connection l.message l.async_id) ls

-- steps of the server for such a waiter, whether they were answered or not
abbrev pub is_step_of : Test → Option Waiter → Bool
is_step_of P None = false
is_step_of P (Some w) = is_waiter_of P w

abbrev pub steps_of : Test → List MadeStep → ℕ
steps_of P xs = how_many (λ x. is_step_of P x.waiter) xs

-- those in which its message acted
abbrev pub acts_of : Test → List MadeStep → ℕ
acts_of P xs = how_many (λ x. if step_acted x then is_step_of P x.waiter else false) xs

-- the event's own steps
abbrev pub is_own_step : Option Waiter → Bool
is_own_step None = true
is_own_step (Some w) = false

abbrev pub own_steps : List MadeStep → ℕ
own_steps xs = how_many (λ x. is_own_step x.waiter) xs

abbrev pub has_async_id : ℕ → Test
has_async_id a connection message async_id = async_id == a

abbrev pub is_on : ℕ → Test
is_on k connection message async_id = connection == k

-- ---- one event, at any state

abbrev pub AreHeld : Server → List Waiter → Type 0
AreHeld s ws = AllByRecursion (λ w. IsHeldUp s w.message) ws

-- a waiter goes to the server only where no range holds it up any more, and one holds up each that came earlier and stands
abbrev pub IsItsTurn : Server → List Waiter → Option Waiter → Type 0
IsItsTurn s earlier None = ⊤
IsItsTurn s earlier (Some w) = (would_wait s w.message ≡ None) × AreHeld s earlier

-- The steps are the server's, one behind the other: on the message of their waiter, or on the event itself.
abbrev pub server_behind : Option StepMishap → Answer → Server
server_behind None A = A.server
server_behind (Some (Lacks t)) A = t
server_behind (Some (Fails t count)) A = t

abbrev pub IsOwnStep : ℕ → WaitEvent → MadeStep → Type 0
IsOwnStep now (Serves e) x = x.answer ≡ step x.server now e
IsOwnStep now (Cancels k target) x = ⊥

abbrev pub IsStepOf : ℕ → WaitEvent → MadeStep → Option Waiter → Type 0
IsStepOf now e x None = IsOwnStep now e x
IsStepOf now e x (Some w) = x.answer ≡ step x.server now (Heard w.message)

abbrev pub AreSteps : ℕ → WaitEvent → Server → List MadeStep → Server → Type 0
AreSteps now e s [] t = t ≡ s
AreSteps now e s (x ∷ xs) t = (x.server ≡ s) × IsStepOf now e x x.waiter × AreSteps now e (server_behind x.mishap x.answer) xs t

-- nothing befell any of them
abbrev pub AreAnswered : List MadeStep → Type 0
AreAnswered made = AllByRecursion (λ x. x.mishap ≡ None) made

-- whose event became a waiter is answered with STATUS_PENDING at once, and makes no step of its own; any other event makes at most one,
-- and its response has no AsyncId
abbrev pub IsAtOnce : Option Response → Type 0
IsAtOnce None = ⊤
IsAtOnce (Some l) = l.async_id ≡ 0

abbrev pub AnswersPending : Waiter → Result Responses WaitRefusal → Type 0
AnswersPending w (Ok r) = r.own ≡ Some (pending_to w)
AnswersPending w (Err e) = ⊤

abbrev pub AnswersAtOnce : Result Responses WaitRefusal → Type 0
AnswersAtOnce (Ok r) = IsAtOnce r.own
AnswersAtOnce (Err e) = ⊤

abbrev pub AnswersItself : Option Waiter → Result Responses WaitRefusal → List MadeStep → Type 0
AnswersItself None result made = AnswersAtOnce result × (own_steps made ≤ 1)
AnswersItself (Some w) result made = AnswersPending w result × (own_steps made ≡ 0)

-- a LOCK that would wait, at a server that goes on
pub record IsToWait (w : WaitState) (t : WaitTurn) (m : Message) : Type 0 where
  pub heard : t.event ≡ Serves (Heard m)
  pub may_wait : t.at_once ≡ false
  pub is_held : is_some (would_wait w.server m) ≡ true
  pub has_memory : t.lacks ≡ false
  pub goes_on : w.stopped ≡ None

abbrev pub OwnHas : ℕ → Option Response → Type 0
OwnHas status None = ⊥
OwnHas status (Some l) = l.reply.status ≡ status

abbrev pub HasOwnStatus : ℕ → Result Responses WaitRefusal → Type 0
HasOwnStatus status (Ok r) = OwnHas status r.own
HasOwnStatus status (Err e) = ⊤

-- it waits, where it replaces one or fewer than 1,024 stand; else it is answered INSUFFICIENT_RESOURCES
pub record LockComes (w : WaitState) (t : WaitTurn) (A : WaitAnswer) : Type 0 where
  pub comes : (m : Message) → IsToWait w t m → w.ids_given < 0xffff_ffff_ffff_ffff
      → (length w.waiters < 1024) ⊎ (is_some (sent_before m w.waiters) ≡ true) → A.began ≡ Some (new_waiter w m)
  pub turned_away : (m : Message) → IsToWait w t m → A.began ≡ None → HasOwnStatus 0xc000_009a A.result

-- an end is the event at which waiters are dropped
abbrev pub is_end : WaitEvent → Bool
is_end (Serves (End k)) = true
is_end (Serves Stop) = true
is_end _ = false

-- behind a fault of the disk nobody goes any more
abbrev pub still_going : Test → WaitState → Option ℕ → ℕ
still_going P w None = waiters_of P w.waiters
still_going P w (Some count) = 0

-- AsyncIds count up from n
abbrev pub CountsFrom : ℕ → List Waiter → Type 0
CountsFrom n [] = ⊤
CountsFrom n (w ∷ ws) = (w.async_id ≡ n + 1) × CountsFrom (n + 1) ws

pub record TurnGoes (w : WaitState) (t : WaitTurn) (A : WaitAnswer) : Type 0 where
  -- all that changes the server are these steps
  pub steps : AreSteps t.now t.event w.server A.made A.waiting.server
  -- AsyncIds count up
  pub ids : CountsFrom w.ids_given (came A)
  pub given : A.waiting.ids_given ≡ w.ids_given + length (came A)
  -- who is answered or stands stood before or came; nobody is lost, but at an end or where the disk failed
  pub stay : (P : Test) → waiters_of P A.waiting.waiters + finals_of P (finals A) ≤ waiters_of P w.waiters + waiters_of P (came A)
  pub all_stay : (P : Test) → is_end t.event ≡ false → A.waiting.stopped ≡ None
      → waiters_of P A.waiting.waiters + finals_of P (finals A) ≡ waiters_of P w.waiters + waiters_of P (came A)
  -- who is answered was told before, or now, that it waits
  pub answered : (P : Test) → still_going P A.waiting A.waiting.stopped + finals_of P (finals A)
      ≤ still_going P w w.stopped + waiters_of P (interims A)
  -- one step at most for each of them, and none behind one that acted
  pub goes : (P : Test) → steps_of P A.made ≤ waiters_of P w.waiters + waiters_of P (came A)
  pub acts : (P : Test) → still_going P A.waiting A.waiting.stopped + acts_of P A.made
      ≤ still_going P w w.stopped + waiters_of P (came A)
  pub itself : AnswersItself A.began A.result A.made
  pub in_turn : AllByRecursion (λ x. IsItsTurn x.server x.earlier x.waiter) A.made
  pub held : (w.starved ≡ false → AreHeld w.server w.waiters) → A.waiting.starved ≡ false → AreHeld A.waiting.server A.waiting.waiters
  pub fed : t.lacks ≡ false → w.stopped ≡ None → AreAnswered A.made → A.waiting.starved ≡ false
  pub few : length w.waiters ≤ 1024 → length A.waiting.waiters ≤ 1024
  pub ended : (k : ℕ) → t.event ≡ Serves (End k) → w.stopped ≡ None
      → waiters_of (is_on k) A.waiting.waiters ≡ 0

-- ---- every list of events, from a server for which nobody waits

pub record RunWaits (s : Server) (turns : List WaitTurn) : Type 0 where
  -- no AsyncId is given twice; a message has one final response at most, behind an interim one, and acts at most once
  pub ids : CountsFrom 0 (all_came (answers (waiting_on s) turns))
  pub told : (P : Test) → waiters_of P (all_interims (answers (waiting_on s) turns))
      ≤ waiters_of P (all_came (answers (waiting_on s) turns))
  pub once : (P : Test) → finals_of P (all_finals (answers (waiting_on s) turns))
      ≤ waiters_of P (all_interims (answers (waiting_on s) turns))
  pub acts_once : (P : Test) → acts_of P (all_made (answers (waiting_on s) turns))
      ≤ waiters_of P (all_came (answers (waiting_on s) turns))
  -- it goes nowhere behind its final response
  pub settled : (a : ℕ) (t : WaitTurn) → 0 < finals_of (has_async_id a) (all_finals (answers (waiting_on s) turns))
      → steps_of (has_async_id a) (wait_step (behind (waiting_on s) turns) t).made ≡ 0
  -- whoever waits is held up by a range that stands; and so is each that waits longer, where one goes
  pub held : (behind (waiting_on s) turns).starved ≡ false
      → AreHeld (behind (waiting_on s) turns).server (behind (waiting_on s) turns).waiters
  pub few : length (behind (waiting_on s) turns).waiters ≤ 1024
  pub each : (t : WaitTurn) → TurnGoes (behind (waiting_on s) turns) t (wait_step (behind (waiting_on s) turns) t)
