use Rattle.std.proofs.Common.{◌+◌, ap}
use Rattle.drill_command.proofs.script_run.Begun.{some_same}
use Rattle.drill_command.proofs.script_run.running.count_behind.Goals as goal

pub returns : goal.returns
returns c = some_same c.added.result _ _ (ap (λ k. c.args.before + k) c.operations_in-more.ensures) c.added.ensures
