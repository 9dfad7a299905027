use Rattle.std.proofs.Common.{Option, sym, ap}
use Rattle.client_ends.specs.declared.ends.config.Bound.{Bound}
use Rattle.client_ends.specs.dialog_calls.Turning.{session_in}
use Rattle.client_ends.proofs.dialog_calls.going.session_of.Goals as goal

pub returns-in-Some : goal.returns-in-Some
returns-in-Some c = ap (λ (o : Option Bound). session_in o c.args.d.now.session) (sym c.in-Some.is)

pub returns-in-None : goal.returns-in-None
returns-in-None c = ap (λ (o : Option Bound). session_in o c.args.d.now.session) (sym c.in-None.is)
