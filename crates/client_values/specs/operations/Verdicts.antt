-- What hearing a reply comes to, by the code's verdict on its status.
use Rattle.std.specs.Prelude.{ℕ}
use Rattle.client_values.specs.declared.operations.settling.Verdict.{Verdict}
use Rattle.client_values.specs.declared.operations.settling.Verdict.TheVariants as verdicts
use Rattle.spec_exchange.specs.Operations.{WasOk, WasRefused, Unknown, WithStatus, IsDone}
use Rattle.spec_exchange.specs.Settling.{Heard, Settles, GoesAgain}

abbrev pub comes_to : Verdict → ℕ → Heard
comes_to verdicts.Refused status = Settles (WasRefused status)
comes_to verdicts.Closed status = Settles (WasOk IsDone)
comes_to verdicts.Unknown status = Settles (Unknown (WithStatus status))
comes_to verdicts.GoesAgain status = GoesAgain
