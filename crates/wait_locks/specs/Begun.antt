-- What an event itself came to, before waiters are tried.
use Rattle.std.specs.Prelude.{◌≡◌, ℕ, Bool, false, List, [], ◌∷◌, ◌++◌, map, option_map, Option, Some, None, Result, Ok, Err}
use Rattle.std.specs.Prelude.{IfOk, IfSome}
use Rattle.spec_exchange.specs.State as model
use Rattle.spec_world.specs.Ends.{Logons}
use Rattle.law_waiting.specs.wait_steps.WaitStep.{Begun, NoMemory, StepMishap, WaitState, WaitTurn, begun}
use Rattle.law_waiting.specs.wait_steps.WaitStep as waits
use Rattle.server_checks.specs.declared.event_heard.event.ServerEvent.{ServerEvent}
use Rattle.server_checks.specs.declared.setups.error.EventError.{EventError}
use Rattle.server_checks.specs.declared.setups.error.EventError.TheVariants as errors
use Rattle.server_core.specs.Shown.{config_of, state_of}
use Rattle.server_core.specs.declared.server.Server.{Server}
use Rattle.server_effects.specs.declared.answering.Answer.{Answer}
use Rattle.wait_locks.specs.Shown.{FaultIs, HoldsWaiting, OwnGoes}
use Rattle.wait_locks.specs.Stepping.{Steps}
use Rattle.server_checks.specs.event_heard.Heard.{heard_event}
use Rattle.spec_crypto.specs.tokens.Tokens.{Users}
use Rattle.wait_locks.specs.Kept.{waiter_of}
use Rattle.wait_locks.specs.Told.{own_response, response_of}
use Rattle.wait_locks.specs.declared.later.Later.{Later}
use Rattle.wait_locks.specs.declared.later.OwnAnswer.{OwnAnswer}
use Rattle.wait_locks.specs.declared.wait_server.WaitServer.{WaitServer}

-- a turn for which there was memory at first
abbrev pub turn_of : ℕ → Bool → waits.WaitEvent → List (Option StepMishap) → WaitTurn
turn_of now at_once event mishaps = record { now = now; at_once = at_once; event = event; lacks = false; mishaps = mishaps }

-- its own response, and the finals that it gave, where it has none to refuse
abbrev pub ShowsBegun : Result (Option OwnAnswer) EventError → List Later → Begun → Type 0
ShowsBegun (Ok own) finals b = (b.refusal ≡ None) × (b.waiting.stopped ≡ None) × (option_map own_response own ≡ b.replies.own)
    × (map response_of finals ≡ b.replies.finals)
ShowsBegun (Err errors.Memory) finals b = b.refusal ≡ Some NoMemory
ShowsBegun (Err (errors.DiskFault count)) finals b = b.refusal ≡ Some (waits.DiskFault count)
ShowsBegun (Err (errors.Stopped count)) finals b = ⊥

-- whatever befalls those that are tried behind it
pub record BegunBy {D : Type 0} (told : Type 0) (seen : D → List ℕ) (may_leave : D → List ℕ → Type 0) (moment : D → ℕ) (left_since : D → ℕ → List ℕ → Type 0) (faults : D → ℕ) (from : Server D) (new : WaitServer D)
    (finals : List Later) (w : WaitState) (L : Logons) (records : List model.Record) (now : ℕ) (at_once : Bool) (own : ServerEvent)
    (event : waits.WaitEvent) (result : Result (Option OwnAnswer) EventError) : Type 0 where
  pub front : List (Option StepMishap)
  pub came : Begun
  pub is : (rest : List (Option StepMishap)) → begun w (turn_of now at_once event (front ++ rest)) event ≡ record came { mishaps = rest }
  pub logons : Logons
  pub written : List model.Record
  pub steps : Steps told seen may_leave moment left_since faults (config_of from).users now own (state_of from) (state_of new.server) L records came.made logons written
  pub holds : HoldsWaiting told seen may_leave new came.waiting logons (records ++ written)
  pub shows : ShowsBegun result finals came
  pub goes : IfOk result (λ o. IfSome o (OwnGoes (config_of from).users L w.server now own came.made))
  pub fault : FaultIs faults new.server result

-- ---- its parts

-- the waiter that a CANCEL names leaves, and is answered
abbrev pub CancelIs : {D : Type 0} → ℕ → waits.Target → Option waits.Waiter → WaitServer D → WaitServer D → List Later → List Later → Type 0
CancelIs k target None old new before after = (new.waiters.items ≡ old.waiters.items) × (after ≡ before)
CancelIs k target (Some w) old new before after =
    (map waiter_of new.waiters.items ≡ waits.without_named k target (map waiter_of old.waiters.items))
    × (map response_of after ≡ map response_of before ++ waits.cancelled_to w ∷ [])

abbrev pub came_of : Users → WaitState → Logons → ℕ → ServerEvent → Option StepMishap → Begun
came_of users w L now own x = waits.served w now (heard_event users L w.server own)
    (waits.staying_waiters w.waiters (waits.Serves (heard_event users L w.server own))) [] x

-- the server's own step, of what befell it
pub record ServedBy {D : Type 0} (told : Type 0) (seen : D → List ℕ) (may_leave : D → List ℕ → Type 0) (moment : D → ℕ) (left_since : D → ℕ → List ℕ → Type 0) (faults : D → ℕ) (from : Server D)
    (new : WaitServer D) (w : WaitState) (L : Logons) (records : List model.Record) (now : ℕ) (own : ServerEvent)
    (result : Result (Option OwnAnswer) EventError) : Type 0 where
  pub mishap : Option StepMishap
  pub logons : Logons
  pub written : List model.Record
  pub steps : Steps told seen may_leave moment left_since faults (config_of from).users now own (state_of from) (state_of new.server) L records
      (came_of (config_of from).users w L now own mishap).made logons written
  pub holds : HoldsWaiting told seen may_leave new (came_of (config_of from).users w L now own mishap).waiting logons (records ++ written)
  pub shows : ShowsBegun result [] (came_of (config_of from).users w L now own mishap)
  pub goes : IfOk result (λ o. IfSome o (OwnGoes (config_of from).users L w.server now own (came_of (config_of from).users w L now own mishap).made))
  pub fault : FaultIs faults new.server result

-- an answer without a step acts on nothing, and is no logon's
pub record IsOfNoStep (a : Answer) : Type 0 where
  pub acted : a.acted ≡ false
  pub token : a.token ≡ []
  pub keys : a.keys ≡ None
  pub channel : a.channel ≡ None

-- a LOCK that would wait, by what the model makes of it
pub record LetInIs {D : Type 0} (b : Begun) (new : WaitServer D) (before after : List Later) (answered : OwnAnswer) : Type 0 where
  pub waiters : map waiter_of new.waiters.items ≡ b.waiting.waiters
  pub ids_given : new.ids_given ≡ b.waiting.ids_given
  pub own : Some (own_response answered) ≡ b.replies.own
  pub alone : IsOfNoStep answered.answer
  pub finals : map response_of after ≡ map response_of before ++ b.replies.finals
