-- A message that is refused early is never answered that memory ran out.
use Rattle.std.proofs.Common.{◌≡◌, ℕ, ◌||◌, Bool, true, false, not, if◌then◌else◌, List, Option, Some, None, is_some}
use Rattle.std.proofs.Common.{Result, Ok, Err, refl, sym, ◌∙◌}
use Rattle.spec_exchange.specs.Check.{has_session, owed}
use Rattle.spec_exchange.specs.Commands.{is_setup}
use Rattle.spec_exchange.specs.State as model
use Rattle.spec_exchange.specs.Status.{user_session_deleted}
use Rattle.spec_exchange.specs.Step.{ruling}
use Rattle.spec_exchange.specs.Verdict.{Refuse}
use Rattle.server_checks.specs.event_heard.Heard.{heard_event, is_setup_heard}
use Rattle.server_checks.specs.declared.event_heard.event.ServerEvent.{ServerEvent}
use Rattle.server_checks.specs.declared.event_heard.event.ServerEvent.TheVariants as events
use Rattle.server_core.specs.event_step.Early.{HasMemory, is_refused_early}
use Rattle.server_checks.specs.declared.setups.error.EventError.{EventError}
use Rattle.server_checks.specs.declared.setups.error.EventError.TheVariants.{Memory, DiskFault, Stopped}
use Rattle.server_core.specs.declared.journaled_tables.state.ServerState.{ServerState}
use Rattle.server_plan.specs.Plans.{is_early}
use Rattle.server_plan.specs.preparing.Preparing.{wants_memory_by}
use Rattle.server_plan.specs.reserving.Readies.{wants_memory}
use Rattle.server_core.specs.recording.Writes.{WritesBut}
use Rattle.spec_crypto.specs.tokens.Tokens.{Users}
use Rattle.spec_world.specs.Ends.{Logons}

pub not_on : false ≡ true → ⊥
not_on h = cc

-- behind the memory that was made ready none runs out
pub written_memory : {D A : Type 0} (faults : D → ℕ) (old new : ServerState D) (body : List ℕ) (r : Result A EventError)
    → WritesBut faults old body r new → HasMemory r
written_memory faults old new body (Ok u) w = tt
written_memory faults old new body (Err Memory) w = w
written_memory faults old new body (Err (DiskFault n)) w = tt
written_memory faults old new body (Err (Stopped n)) w = tt

pub early_of : (s : model.Server) (e : model.ServerEvent) → is_refused_early s e ≡ true → is_early s e ≡ true
early_of s (model.Heard m) h = h
early_of s (model.Accept k) h = absurd (not_on h)
early_of s (model.End k) h = absurd (not_on h)
early_of s model.Stop h = absurd (not_on h)

pub refusal_wants : (s : model.Server) (e : model.ServerEvent) → is_refused_early s e ≡ true → wants_memory_by (ruling s e) ≡ false
refusal_wants s (model.Heard m) h = by (is_setup m.command || has_session s m) m.fault h
  where
    by : (b : Bool) (o : Option ℕ) → (not b || is_some o) ≡ true
        → wants_memory (if b then owed s m o else Refuse user_session_deleted) ≡ false
    by true (Some status) k = refl
    by true None k = absurd (not_on k)
    by false o k = refl
refusal_wants s (model.Accept k) h = absurd (not_on h)
refusal_wants s (model.End k) h = absurd (not_on h)
refusal_wants s model.Stop h = absurd (not_on h)

-- where no open is due, none is
pub none_due : (b : Bool) (o : Option ℕ) (id : ℕ) → o ≡ None → Some id ≡ (if b then None else o) → ⊥
none_due true o id e h = cc
none_due false o id e h = let k : Some id ≡ None = h ∙ e in cc

-- but for a SESSION_SETUP with its bytes an event is heard whatever logons are in the making
pub heard_same : (users : Users) (L M : Logons) (s : model.Server) (e : ServerEvent) → is_setup_heard e ≡ false
    → heard_event users L s e ≡ heard_event users M s e
heard_same users L M s (events.Accept connection) h = refl
heard_same users L M s (events.Message message) h = refl
heard_same users L M s (events.Setup setup) h = absurd (not_on (sym h))
heard_same users L M s (events.End connection) h = refl
heard_same users L M s events.Stop h = refl
