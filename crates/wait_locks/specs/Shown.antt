-- What a server behind its waiters shows, and what an event of it answers: a turn of the model, with steps that are the server's own.
use Rattle.std.specs.Prelude.{◌≡◌, ℕ, ◌+◌, Bool, List, ◌++◌, map, take, drop, slice_index_or, slice_set, option_map}
use Rattle.std.specs.Prelude.{[], ◌∷◌, Option, Some, None, is_some, false, not, ◌&&◌, Result, Ok, Err, IfOk, IfSome, ⊤}
use Rattle.spec_exchange.specs.State as model
use Rattle.spec_exchange.specs.Step.{step}
use Rattle.spec_wire.specs.journal.Moments.{LeavesOnly}
use Rattle.spec_crypto.specs.tokens.Tokens.{Users}
use Rattle.spec_world.specs.Ends.{Logons}
use Rattle.law_waiting.specs.wait_steps.WaitStep.{MadeStep, Responses, Target, WaitRefusal, WaitState, WaitTurn, step_acted, wait_step}
use Rattle.law_waiting.specs.wait_steps.WaitStep as waits
use Rattle.server_checks.specs.event_heard.Heard.{heard_event}
use Rattle.server_checks.specs.declared.event_heard.event.ServerEvent.{ServerEvent}
use Rattle.server_checks.specs.declared.event_heard.event.ServerEvent.TheVariants as events
use Rattle.server_checks.specs.declared.setups.error.EventError.{EventError}
use Rattle.server_checks.specs.declared.setups.error.EventError.TheVariants as errors
use Rattle.server_checks.specs.setups.Setups.{progress_of}
use Rattle.server_core.specs.Shown.{config_of, disk_of, state_of, stopped_of}
use Rattle.server_core.specs.journaled_tables.Beside.{BesideReply}
use Rattle.server_core.specs.declared.server.Server.{Server}
use Rattle.wait_locks.specs.Kept.{kept_message, waiter_of}
use Rattle.wait_locks.specs.Stepping.{HoldsTill, Steps, StepsLeave}
use Rattle.wait_locks.specs.Told.{own_response, response_of}
use Rattle.wait_locks.specs.declared.later.LaterList.{LaterList}
use Rattle.wait_locks.specs.declared.later.OwnAnswer.{OwnAnswer}
use Rattle.wait_locks.specs.declared.wait_server.CancelTarget.{CancelTarget}
use Rattle.wait_locks.specs.declared.wait_server.CancelTarget.TheVariants as targets
use Rattle.wait_locks.specs.declared.wait_server.WaitEvent.{WaitEvent}
use Rattle.wait_locks.specs.declared.wait_server.WaitEvent.TheVariants as asked
use Rattle.wait_locks.specs.declared.wait_server.WaitServer.{WaitServer}
use Rattle.wait_locks.specs.declared.waiter.Waiter.{Waiter}

abbrev pub target_of : CancelTarget → Target
target_of (targets.AsyncId id) = waits.ByAsyncId id
target_of (targets.MessageId id) = waits.ByMessageId id

-- the place of the waiter that a CANCEL names
abbrev pub NamedIs : ℕ → Target → List Waiter → Option ℕ → Type 0
NamedIs k target ws None = waits.waiter_named k target (map waiter_of ws) ≡ None
NamedIs k target ws (Some place) = (d : Waiter)
    → (waits.waiter_named k target (map waiter_of ws) ≡ Some (waiter_of (slice_index_or ws place d)))
    × (waits.without_named k target (map waiter_of ws) ≡ map waiter_of (take place ws) ++ map waiter_of (drop (place + 1) ws))

-- it comes into this place, under whatever id
abbrev pub Places : Waiter → List Waiter → ℕ → Type 0
Places new ws place = (id : ℕ)
    → waits.in_place (waiter_of (record new { async_id = id })) (map waiter_of ws) ≡ map waiter_of (slice_set ws place (record new { async_id = id }))

-- the place of the first that a LOCK repeats, which it takes
abbrev pub BeforeIs : Waiter → List Waiter → Option ℕ → Type 0
BeforeIs new ws None = waits.sent_before (kept_message new) (map waiter_of ws) ≡ None
BeforeIs new ws (Some place) = (d : Waiter)
    → (waits.sent_before (kept_message new) (map waiter_of ws) ≡ Some (waiter_of (slice_index_or ws place d))) × Places new ws place

-- the model's event
abbrev pub wait_event : Users → Logons → model.Server → WaitEvent → waits.WaitEvent
wait_event users L s (asked.Serves event) = waits.Serves (heard_event users L s event)
wait_event users L s (asked.Cancels connection target) = waits.Cancels connection (target_of target)

-- what goes to the server itself; a CANCEL makes no step of its own
abbrev pub own_event : WaitEvent → ServerEvent
own_event (asked.Serves event) = event
own_event (asked.Cancels connection target) = events.Stop

abbrev pub ShowsTurn : Result LaterList EventError → Result Responses WaitRefusal → Type 0
ShowsTurn (Ok l) (Ok r) = (option_map own_response l.own ≡ r.own) × (map response_of l.finals.items ≡ r.finals)
ShowsTurn (Ok l) (Err e) = ⊥
ShowsTurn (Err errors.Memory) r = r ≡ Err waits.NoMemory
ShowsTurn (Err (errors.DiskFault count)) r = r ≡ Err (waits.DiskFault count)
ShowsTurn (Err (errors.Stopped count)) r = r ≡ Err (waits.Stopped count)

-- ---- what an event's own answer has beside its response

-- Its own step is the first; one that waits, or is turned away, has none, and doesn't act.
abbrev pub own_acted : List MadeStep → Bool
own_acted [] = false
own_acted (x ∷ xs) = not (is_some x.waiter) && step_acted x

-- Whether it acted, and the token, keys and channel of a logon, as its step gives them. Of any other event there are none.
pub record OwnGoes (users : Users) (L : Logons) (s : model.Server) (now : ℕ) (own : ServerEvent) (made : List MadeStep) (a : OwnAnswer)
    : Type 0 where
  pub acted : a.answer.acted ≡ own_acted made
  pub beside : BesideReply users L own now (progress_of (heard_event users L s own) (step s now (heard_event users L s own)).reply)
      a.answer.token a.answer.keys a.answer.channel

-- where the disk failed the server stops at its count of faults
abbrev pub FaultIs : {D T : Type 0} → (D → ℕ) → Server D → Result T EventError → Type 0
FaultIs faults new (Err (errors.DiskFault count)) = (stopped_of new ≡ Some count) × (count ≡ faults (disk_of new))
FaultIs faults new _ = ⊤

module _ {D : Type 0} (told : Type 0) (seen : D → List ℕ) (may_leave : D → List ℕ → Type 0) where
  -- as long as no call of its disk failed it holds the state with its records
  pub record HoldsWaiting (c : WaitServer D) (w : WaitState) (L : Logons) (records : List model.Record) : Type 0 where
    pub server : HoldsTill told seen may_leave (state_of c.server) w.server L records
    pub waiters : map waiter_of c.waiters.items ≡ w.waiters
    pub ids_given : c.ids_given ≡ w.ids_given
    pub starved : c.starved ≡ w.starved
    pub stopped : stopped_of c.server ≡ w.stopped

  -- It is one turn of the model. What befell the turn's steps is what the server answered there.
  pub record TurnAnswers (moment : D → ℕ) (left_since : D → ℕ → List ℕ → Type 0) (faults : D → ℕ) (from : Server D) (new : WaitServer D) (w : WaitState) (L : Logons) (records : List model.Record) (now : ℕ)
      (at_once : Bool) (event : WaitEvent) (result : Result LaterList EventError) : Type 0 where
    pub turn : WaitTurn
    pub now_is : turn.now ≡ now
    pub at_once_is : turn.at_once ≡ at_once
    pub event_is : turn.event ≡ wait_event (config_of from).users L w.server event
    pub logons : Logons
    pub written : List model.Record
    pub steps : Steps told seen may_leave moment left_since faults (config_of from).users now (own_event event) (state_of from) (state_of new.server) L records
        (wait_step w turn).made logons written
    pub result_is : ShowsTurn result (wait_step w turn).result
    pub goes : IfOk result (λ l. IfSome l.own (OwnGoes (config_of from).users L w.server now (own_event event) (wait_step w turn).made))
    pub fault : FaultIs faults new.server result
    pub any_moment : told → stopped_of from ≡ None → LeavesOnly moment left_since (disk_of from) (disk_of new.server)
        (StepsLeave (config_of from).users now (own_event event) L records (wait_step w turn).made)
    pub holds : HoldsWaiting new (wait_step w turn).waiting logons (records ++ written)
