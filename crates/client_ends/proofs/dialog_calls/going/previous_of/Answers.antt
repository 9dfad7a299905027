use Rattle.std.proofs.Common.{Option, sym, ap}
use Rattle.client_ends.specs.declared.ends.config.Bound.{Bound}
use Rattle.client_ends.specs.dialog_calls.Turning.{previous_in}
use Rattle.client_ends.proofs.dialog_calls.going.previous_of.Goals as goal

pub returns-in-Some : goal.returns-in-Some
returns-in-Some c = ap (λ (o : Option Bound). previous_in o c.args.d.now.previous) (sym c.in-Some.is)

pub returns-in-None : goal.returns-in-None
returns-in-None c = ap (λ (o : Option Bound). previous_in o c.args.d.now.previous) (sym c.in-None.is)
