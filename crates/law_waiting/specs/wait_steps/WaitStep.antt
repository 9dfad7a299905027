-- The server behind a list of LOCKs that wait (MS-SMB2 3.3.4.2, 3.3.5.14, 3.3.5.16): one event, of what befell it.
use Rattle.std.specs.Prelude.{ℕ, zero, suc, ◌+◌, ◌==◌, nat_le, Bool, true, false, not, ◌&&◌, if◌then◌else◌, List, [], ◌∷◌}
use Rattle.std.specs.Prelude.{◌++◌, length, Option, Some, None, is_some, Result, Ok, Err}
use Rattle.spec_exchange.specs.Table.{is_filled}
use Rattle.spec_exchange.specs.Status.{pending, insufficient_resources}
use Rattle.spec_exchange.specs.Commands.{Command, Lock}
use Rattle.spec_exchange.specs.State.{Server, Message, ServerEvent, Heard, End, Stop, Reply, Answer, Empty}
use Rattle.spec_exchange.specs.CheckOpen.{is_slot}
use Rattle.spec_exchange.specs.Step.{step, connection_of}
use Rattle.law_waiting.specs.held.Held.{would_wait}

abbrev pub cancelled : ℕ
cancelled = 0xc000_0120

abbrev pub max_waiters : ℕ
max_waiters = 1024

-- ids are counted in 64 bits
abbrev pub last_async_id : ℕ
last_async_id = 0xffff_ffff_ffff_ffff

-- ---- the state

-- a LOCK that was answered with STATUS_PENDING, and the AsyncId by which its final response comes
pub record Waiter : Type 0 where
  pub message : Message
  pub async_id : ℕ

pub record WaitState : Type 0 where
  pub server : Server
  pub waiters : List Waiter  -- the earliest first
  pub ids_given : ℕ  -- how many AsyncIds were given: they count from 1
  pub starved : Bool  -- a waiter may stand that no range holds up any more, since memory ran out or the disk failed
  pub stopped : Option ℕ  -- the count of faults at which the disk failed

abbrev pub waiting_on : Server → WaitState
waiting_on s = record { server = s; waiters = []; ids_given = 0; starved = false; stopped = None }

-- ---- what it hears

-- which waiter a CANCEL names (3.3.5.16): with the async flag by its AsyncId, else by its MessageId
pub data Target : Type 0 where
  ByAsyncId : (id : ℕ) → Target
  ByMessageId : (id : ℕ) → Target

pub data WaitEvent : Type 0 where
  Serves : (event : ServerEvent) → WaitEvent
  Cancels : (connection : ℕ) (target : Target) → WaitEvent

-- What befell a step of the server: it found no memory, or its disk failed. The state behind it is told. An answer isn't given.
pub data StepMishap : Type 0 where
  Lacks : (server : Server) → StepMishap
  Fails : (server : Server) (count : ℕ) → StepMishap

pub record WaitTurn : Type 0 where
  pub now : ℕ
  pub at_once : Bool  -- its LOCK isn't to wait, as one that isn't alone in its frame
  pub event : WaitEvent
  pub lacks : Bool  -- memory ran out before any step
  pub mishaps : List (Option StepMishap)  -- of each step in order; behind the last nothing befalls

-- ---- what it answers

-- A response: to its own message at once, or later by the AsyncId. It is 0 where the message didn't wait.
pub record Response : Type 0 where
  pub connection : ℕ
  pub message : ℕ
  pub async_id : ℕ
  pub reply : Reply

pub record Responses : Type 0 where
  pub own : Option Response  -- to the event itself; a CANCEL has none
  pub finals : List Response  -- to waiters, in order

pub data WaitRefusal : Type 0 where
  NoMemory : WaitRefusal
  DiskFault : (count : ℕ) → WaitRefusal
  Stopped : (count : ℕ) → WaitRefusal

-- one step of the server: whose, who waited earlier, and what it found
pub record MadeStep : Type 0 where
  pub waiter : Option Waiter  -- none: it is the event's own
  pub earlier : List Waiter
  pub server : Server
  pub answer : Answer
  pub mishap : Option StepMishap

pub record WaitAnswer : Type 0 where
  pub waiting : WaitState
  pub began : Option Waiter  -- the waiter that the event became
  pub result : Result Responses WaitRefusal
  pub made : List MadeStep

-- whether its message acted; where the disk failed its records may stand
abbrev pub acted_unless : Option StepMishap → Bool → Bool
acted_unless None acted = acted
acted_unless (Some (Lacks t)) acted = false
acted_unless (Some (Fails t count)) acted = acted

abbrev pub step_acted : MadeStep → Bool
step_acted x = acted_unless x.mishap x.answer.acted

-- ---- responses

abbrev pub reply_of : Message → ℕ → Reply
reply_of m status = record { status = status; session_id = m.session_id; tree_id = m.tree_id; body = Empty }

abbrev pub later_to : Waiter → Reply → Response
later_to w r = record { connection = w.message.connection; message = w.message.message_id; async_id = w.async_id; reply = r }

abbrev pub pending_to : Waiter → Response
pending_to w = later_to w (reply_of w.message pending)

abbrev pub cancelled_to : Waiter → Response
cancelled_to w = later_to w (reply_of w.message cancelled)

abbrev pub at_once_to : Message → Reply → Response
at_once_to m r = record { connection = m.connection; message = m.message_id; async_id = 0; reply = r }

-- the response to an event of the server itself; that of a connection's event goes into no message
abbrev pub own_reply : ServerEvent → Reply → Response
own_reply (Heard m) r = at_once_to m r
own_reply e r = record { connection = connection_of e; message = 0; async_id = 0; reply = r }

-- ---- the waiters' list

-- the same open, slot and number: the later one is the former sent again
abbrev pub is_of_slot : ℕ → ℕ → ℕ → Command → Bool
is_of_slot o index number (Lock p i n elements) = is_slot index && ((o == p) && ((index == i) && (number == n)))
is_of_slot o index number _ = false

abbrev pub is_again : Command → Command → Bool
is_again (Lock o index number elements) c = is_of_slot o index number c
is_again _ c = false

unfoldable pub sent_before : Message → List Waiter → Option Waiter
sent_before m [] = None
sent_before m (w ∷ ws) = if is_again m.command w.message.command then Some w else sent_before m ws

unfoldable pub in_place : Waiter → List Waiter → List Waiter
in_place new [] = []
in_place new (w ∷ ws) = if is_again new.message.command w.message.command then new ∷ ws else w ∷ in_place new ws

abbrev pub is_named : ℕ → Target → Waiter → Bool
is_named k (ByAsyncId id) w = (w.message.connection == k) && (w.async_id == id)
is_named k (ByMessageId id) w = (w.message.connection == k) && (w.message.message_id == id)

unfoldable pub waiter_named : ℕ → Target → List Waiter → Option Waiter
waiter_named k target [] = None
waiter_named k target (w ∷ ws) = if is_named k target w then Some w else waiter_named k target ws

unfoldable pub without_named : ℕ → Target → List Waiter → List Waiter
without_named k target [] = []
without_named k target (w ∷ ws) = if is_named k target w then ws else w ∷ without_named k target ws

unfoldable pub without_connection : ℕ → List Waiter → List Waiter
without_connection k [] = []
without_connection k (w ∷ ws) = if w.message.connection == k then without_connection k ws else w ∷ without_connection k ws

-- an end drops the connection's waiters without a response; where the server stops all connections end
abbrev pub staying_waiters : List Waiter → WaitEvent → List Waiter
staying_waiters ws (Serves (End k)) = without_connection k ws
staying_waiters ws (Serves Stop) = []
staying_waiters ws _ = ws

-- ---- waiters are tried

-- the first that no range holds up, with those before it and behind it
pub data FirstFree : Type 0 where
  AllHeld : FirstFree
  Free : (earlier : List Waiter) (waiter : Waiter) (later : List Waiter) → FirstFree

abbrev pub behind_held : Waiter → FirstFree → FirstFree
behind_held w AllHeld = AllHeld
behind_held w (Free earlier x later) = Free (w ∷ earlier) x later

unfoldable pub first_free : Server → List Waiter → FirstFree
first_free s [] = AllHeld
first_free s (w ∷ ws) = if is_some (would_wait s w.message) then behind_held w (first_free s ws) else Free [] w ws

abbrev pub next_mishap : List (Option StepMishap) → Option StepMishap
next_mishap [] = None
next_mishap (x ∷ xs) = x

abbrev pub later_mishaps : List (Option StepMishap) → List (Option StepMishap)
later_mishaps [] = []
later_mishaps (x ∷ xs) = xs

pub record Tried : Type 0 where
  pub server : Server
  pub waiters : List Waiter
  pub starved : Bool
  pub failed : Option ℕ  -- the count of faults at which the disk failed
  pub finals : List Response
  pub made : List MadeStep

abbrev pub trial : Server → ℕ → List Waiter → Waiter → Option StepMishap → MadeStep
trial s now earlier w x = record {
  waiter = Some w;
  earlier = earlier;
  server = s;
  answer = step s now (Heard w.message);
  mishap = x;
}

-- it was answered, and left
abbrev pub leaves_answered : Waiter → MadeStep → Tried → Tried
leaves_answered w x t = record t { finals = later_to w x.answer.reply ∷ t.finals; made = x ∷ t.made }

-- it wasn't: it stays, and no other is tried
abbrev pub kept_waiting : List Waiter → MadeStep → StepMishap → Tried
kept_waiting ws x (Lacks t) = record { server = t; waiters = ws; starved = true; failed = None; finals = []; made = x ∷ [] }
kept_waiting ws x (Fails t count) = record {
  server = t;
  waiters = ws;
  starved = true;
  failed = Some count;
  finals = [];
  made = x ∷ [];
}

abbrev pub at_rest : Server → List Waiter → Bool → Tried
at_rest s ws starved = record { server = s; waiters = ws; starved = starved; failed = None; finals = []; made = [] }

-- The first that no range holds up goes to the server. Then all are tried anew, since its step may have expired an open. Each that is
-- answered leaves, so as many rounds as there are waiters are enough.
unfoldable pub tried : ℕ → Server → List Waiter → List (Option StepMishap) → ℕ → Tried
tried now s ws mishaps zero = at_rest s ws (is_filled ws)
tried now s ws mishaps (suc rounds) =
    elim (first_free s ws) [
      | AllHeld ↦ at_rest s ws false
      | Free earlier w later ↦
          elim (next_mishap mishaps) [
            | None ↦
                leaves_answered w (trial s now earlier w None)
                (tried now (step s now (Heard w.message)).server (earlier ++ later) (later_mishaps mishaps) rounds)
            | Some x ↦ kept_waiting ws (trial s now earlier w (Some x)) x
          ]
    ]

-- ---- the event itself

-- what the event itself came to, before waiters are tried
pub record Begun : Type 0 where
  pub waiting : WaitState
  pub began : Option Waiter
  pub replies : Responses
  pub made : List MadeStep
  pub mishaps : List (Option StepMishap)  -- what is left of them
  pub refusal : Option WaitRefusal  -- then no waiter is tried

abbrev pub with_replies : WaitState → Option Waiter → Option Response → List Response → List (Option StepMishap) → Begun
with_replies w began own finals mishaps = record {
  waiting = w;
  began = began;
  replies = record { own = own; finals = finals };
  made = [];
  mishaps = mishaps;
  refusal = None;
}

-- a LOCK that would wait: in the place of the one that was sent before, or behind all
abbrev pub new_waiter : WaitState → Message → Waiter
new_waiter w m = record { message = m; async_id = w.ids_given + 1 }

abbrev pub with_waiters : WaitState → List Waiter → WaitState
with_waiters w ws = record w { waiters = ws; ids_given = w.ids_given + 1 }

abbrev pub turned_away : WaitState → Message → List (Option StepMishap) → Begun
turned_away w m mishaps = with_replies w None (Some (at_once_to m (reply_of m insufficient_resources))) [] mishaps

abbrev pub taken_in_place : WaitState → Message → List (Option StepMishap) → Waiter → Begun
taken_in_place w m mishaps old = with_replies (with_waiters w (in_place (new_waiter w m) w.waiters)) (Some (new_waiter w m))
    (Some (pending_to (new_waiter w m))) (cancelled_to old ∷ []) mishaps

abbrev pub taken_behind : WaitState → Message → List (Option StepMishap) → Begun
taken_behind w m mishaps = with_replies (with_waiters w (w.waiters ++ new_waiter w m ∷ [])) (Some (new_waiter w m))
    (Some (pending_to (new_waiter w m))) [] mishaps

abbrev pub taken_in : WaitState → Message → List (Option StepMishap) → Option Waiter → Begun
taken_in w m mishaps (Some old) = taken_in_place w m mishaps old
taken_in w m mishaps None = if nat_le max_waiters (length w.waiters) then turned_away w m mishaps else taken_behind w m mishaps

-- where no id is left none waits any more
abbrev pub let_in : WaitState → Message → List (Option StepMishap) → Begun
let_in w m mishaps = if nat_le last_async_id w.ids_given then turned_away w m mishaps
    else taken_in w m mishaps (sent_before m w.waiters)

-- a CANCEL: the waiter leaves, and no slot keeps that
abbrev pub cancelling : WaitState → ℕ → Target → List (Option StepMishap) → Option Waiter → Begun
cancelling w k target mishaps None = with_replies w None None [] mishaps
cancelling w k target mishaps (Some old) =
    with_replies (record w { waiters = without_named k target w.waiters }) None None (cancelled_to old ∷ []) mishaps

-- any other event goes to the server
abbrev pub own_step : Server → ℕ → ServerEvent → Option StepMishap → MadeStep
own_step s now e x = record { waiter = None; earlier = []; server = s; answer = step s now e; mishap = x }

abbrev pub no_responses : Responses
no_responses = record { own = None; finals = [] }

abbrev pub served : WaitState → ℕ → ServerEvent → List Waiter → List (Option StepMishap) → Option StepMishap → Begun
served w now e ws rest None = record {
  waiting = record w { server = (step w.server now e).server; waiters = ws };
  began = None;
  replies = record { own = Some (own_reply e (step w.server now e).reply); finals = [] };
  made = own_step w.server now e None ∷ [];
  mishaps = rest;
  refusal = None;
}
served w now e ws rest (Some (Lacks t)) = record {
  waiting = record w { server = t; waiters = ws; starved = true };
  began = None;
  replies = no_responses;
  made = own_step w.server now e (Some (Lacks t)) ∷ [];
  mishaps = rest;
  refusal = Some NoMemory;
}
served w now e ws rest (Some (Fails t count)) = record {
  waiting = record w { server = t; waiters = ws; starved = true; stopped = Some count };
  began = None;
  replies = no_responses;
  made = own_step w.server now e (Some (Fails t count)) ∷ [];
  mishaps = rest;
  refusal = Some (DiskFault count);
}

abbrev pub to_server : WaitState → WaitTurn → ServerEvent → Begun
to_server w t e = served w t.now e (staying_waiters w.waiters t.event) (later_mishaps t.mishaps) (next_mishap t.mishaps)

abbrev pub heard : WaitState → WaitTurn → Message → Begun
heard w t m = if not t.at_once && is_some (would_wait w.server m) then let_in w m t.mishaps else to_server w t (Heard m)

abbrev pub begun_serving : WaitState → WaitTurn → ServerEvent → Begun
begun_serving w t (Heard m) = heard w t m
begun_serving w t e = to_server w t e

abbrev pub begun : WaitState → WaitTurn → WaitEvent → Begun
begun w t (Serves e) = begun_serving w t e
begun w t (Cancels k target) = cancelling w k target t.mishaps (waiter_named k target w.waiters)

-- ---- both

abbrev pub result_of : Responses → List Response → Option ℕ → Result Responses WaitRefusal
result_of r finals None = Ok (record { own = r.own; finals = r.finals ++ finals })
result_of r finals (Some count) = Err (DiskFault count)

abbrev pub tried_behind : Begun → Tried → WaitAnswer
tried_behind b t = record {
  waiting = record b.waiting { server = t.server; waiters = t.waiters; starved = t.starved; stopped = t.failed };
  began = b.began;
  result = result_of b.replies t.finals t.failed;
  made = b.made ++ t.made;
}

abbrev pub then_tried : ℕ → Begun → Option WaitRefusal → WaitAnswer
then_tried now b (Some refusal) = record { waiting = b.waiting; began = b.began; result = Err refusal; made = b.made }
then_tried now b None =
    tried_behind b (tried now b.waiting.server b.waiting.waiters b.mishaps (length b.waiting.waiters))

-- memory ran out before any step: the event isn't carried out, but an end drops waiters still
abbrev pub lacking : WaitState → WaitTurn → WaitAnswer
lacking w t = record {
  waiting = record w { waiters = staying_waiters w.waiters t.event; starved = true };
  began = None;
  result = Err NoMemory;
  made = [];
}

abbrev pub standing_step : WaitState → WaitTurn → WaitAnswer
standing_step w t = if t.lacks then lacking w t else then_tried t.now (begun w t t.event) (begun w t t.event).refusal

-- behind a fault of the disk nothing changes any more
abbrev pub step_unless : WaitState → WaitTurn → Option ℕ → WaitAnswer
step_unless w t None = standing_step w t
step_unless w t (Some count) = record { waiting = w; began = None; result = Err (Stopped count); made = [] }

unfoldable pub wait_step : WaitState → WaitTurn → WaitAnswer
wait_step w t = step_unless w t w.stopped
