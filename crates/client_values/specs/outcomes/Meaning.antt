-- The model's outcomes and dialogs that those of the code stand for.
use Rattle.std.specs.Prelude.{ℕ}
use Rattle.wire_bytes.specs.declared.session_messages.refusal.Choice.{Choice}
use Rattle.wire_bytes.specs.declared.session_messages.refusal.Choice.TheVariants.{Dialect, Hash, Cipher, Signing, SessionFlags}
use Rattle.wire_bytes.specs.declared.session_messages.refusal.Refusal.{Refusal as DialogRefusal}
use Rattle.wire_bytes.specs.declared.session_messages.refusal.Refusal.TheVariants as refusals
use Rattle.client_values.specs.declared.outcomes.outcome.Outcome.{Outcome as Settled}
use Rattle.client_values.specs.declared.outcomes.outcome.Outcome.TheVariants as outcomes
use Rattle.client_values.specs.declared.outcomes.outcome.Why.{Why as Cause}
use Rattle.client_values.specs.declared.outcomes.outcome.Why.TheVariants as causes
use Rattle.client_values.specs.declared.outcomes.outcome.RefusedDialog.{RefusedDialog as Refused}
use Rattle.spec_exchange.specs.Client.{RefusedDialog}
use Rattle.spec_exchange.specs.Operations.{Outcome, WasOk, WasRefused, NoSlot, NoOpen, Unknown, Why, SessionLost, WithStatus}
use Rattle.spec_exchange.specs.Operations.{NoSession, GaveUp, Ended, Refusal, BadChoice, BadToken, BadSignature, HadStatus, NoSha512}
use Rattle.spec_exchange.specs.Operations.{IsDone, Action, IsCount, IsContent, Length, Names}

-- counted from 1, in the order in which a dialog tests them
abbrev pub choice_of : Choice → ℕ
choice_of Dialect = 1
choice_of Hash = 2
choice_of Cipher = 3
choice_of Signing = 4
choice_of SessionFlags = 5

abbrev pub refusal_of : DialogRefusal → Refusal
refusal_of (refusals.BadChoice choice) = BadChoice (choice_of choice)
refusal_of refusals.BadToken = BadToken
refusal_of refusals.BadSignature = BadSignature
refusal_of (refusals.Status status) = HadStatus status
refusal_of refusals.NoSha512 = NoSha512

abbrev pub why_of : Cause → Why
why_of (causes.SessionLost session) = SessionLost session
why_of (causes.Status status) = WithStatus status
why_of (causes.NoSession refusal) = NoSession (refusal_of refusal)
why_of (causes.GaveUp tries) = GaveUp tries
why_of causes.Ended = Ended

abbrev pub outcome_of : Settled → Outcome
outcome_of outcomes.Done = WasOk IsDone
outcome_of (outcomes.Action action) = WasOk (Action action)
outcome_of (outcomes.Count count) = WasOk (IsCount count)
outcome_of (outcomes.Content bytes) = WasOk (IsContent bytes)
outcome_of (outcomes.Length size) = WasOk (Length size)
outcome_of (outcomes.Names names) = WasOk (Names names)
outcome_of (outcomes.Refused status) = WasRefused status
outcome_of (outcomes.NoSlot create) = NoSlot create
outcome_of (outcomes.NoOpen create) = NoOpen create
outcome_of (outcomes.Unknown why) = Unknown (why_of why)

abbrev pub dialog_of : Refused → RefusedDialog
dialog_of d = record { connection = d.connection; refusal = refusal_of d.refusal }
