-- Events that want no memory to be ruled on.
use Rattle.std.proofs.Common.{◌≡◌, ℕ, ◌||◌, Bool, true, false, not, if◌then◌else◌, length, nat_le, Option, Some, None, is_some, refl}
use Rattle.wire_commands.specs.values.Meaning.{message_of}
use Rattle.spec_exchange.specs.Check.{has_session, owed}
use Rattle.spec_exchange.specs.Commands.{is_setup}
use Rattle.spec_exchange.specs.State as model
use Rattle.spec_exchange.specs.State.{Accept, End, Heard, Server, ServerEvent, Stop}
use Rattle.spec_exchange.specs.Status.{user_session_deleted}
use Rattle.spec_exchange.specs.Step as steps
use Rattle.spec_exchange.specs.Step.{max_connections, ruling}
use Rattle.spec_exchange.specs.Verdict.{Refuse}
use Rattle.server_checks.specs.event_heard.Heard.{event_of}
use Rattle.server_checks.specs.declared.event_heard.asked.Asked.{Asked}
use Rattle.server_checks.specs.declared.event_heard.asked.Asked.TheVariants as askings
use Rattle.server_plan.specs.owed_records.Owing.{may_owe}
use Rattle.server_plan.specs.Plans.{is_early, may_owe_by}
use Rattle.server_plan.specs.rulings.Rulings.{is_said}

pub not_ok : false ≡ true → ⊥
not_ok h = cc

-- they owe no record
pub early_owes : (s : Server) (e : ServerEvent) → is_early s e ≡ true → may_owe_by (ruling s e) ≡ false
early_owes s (Accept k) h = by (nat_le max_connections (length s.connections))
  where
    by : (b : Bool) → may_owe_by (if b then steps.TurnsAway else steps.TakesIn k) ≡ false
    by true = refl
    by false = refl
early_owes s (Heard m) h = by (is_setup m.command || has_session s m) m.fault h
  where
    by : (b : Bool) (o : Option ℕ) → (not b || is_some o) ≡ true
        → may_owe (if b then owed s m o else Refuse user_session_deleted) ≡ false
    by true (Some status) k = refl
    by true None k = absurd (not_ok k)
    by false o k = refl
early_owes s (End k) h = absurd (not_ok h)
early_owes s Stop h = absurd (not_ok h)

either_of : {P : Type 0} (b c : Bool) → (not b || c) ≡ true → (b ≡ false → P) → (c ≡ true → P) → P
either_of true true h f g = g refl
either_of true false h f g = absurd (not_ok h)
either_of false c h f g = f refl

-- what is so of each event but a message, of a message whose session isn't there, and of one with a fault
pub early_by : {P : Type 0} (s : Server) (a : Asked) → (is_said a ≡ false → P)
    → ((m : model.Message) → event_of a ≡ Heard m → (is_setup m.command || has_session s m) ≡ false → P)
    → ((m : model.Message) → event_of a ≡ Heard m → is_some m.fault ≡ true → P) → is_early s (event_of a) ≡ true → P
early_by s (askings.Accept k) sure absent faulty h = sure refl
early_by s (askings.Says m l) sure absent faulty h =
    either_of (is_setup (message_of m).command || has_session s (message_of m)) (is_some (message_of m).fault) h
    (absent (message_of m) refl) (faulty (message_of m) refl)
early_by s (askings.End k) sure absent faulty h = sure refl
early_by s askings.Stop sure absent faulty h = sure refl
