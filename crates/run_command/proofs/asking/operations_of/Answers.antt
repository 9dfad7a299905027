use Rattle.std.proofs.Common.{◌++◌, List, ap}
use Rattle.client_values.specs.declared.operations.values.OpKind.{OpKind}
use Rattle.run_command.specs.Asking.{operations_said}
use Rattle.run_command.proofs.Taken.{last_line, none_left, one_line}
use Rattle.run_command.proofs.asking.operations_of.Goals as goal

pub loop-line-init : goal.loop-line-init
loop-line-init c = ap (λ (l : List OpKind). l ++ operations_said c.args.lines.items) c.new-kinds.ensures.items

pub loop-line-preserved : goal.loop-line-preserved
loop-line-preserved c =
    one_line (operations_said c.args.lines.items) c.loop-line.kinds.items c.add_said.new.kinds.items c.loop-line.lines.items
    c.pop_front.new.self.items c.in-Some.line c.in-Some.ensures.items c.loop-line.invariant c.in_ok-add_said.ensures

pub returns : goal.returns
returns c =
    last_line (operations_said c.args.lines.items) c.loop-line.kinds.items c.loop-line.lines.items
    (none_left c.loop-line.lines.items c.pop_front.new.self.items c.in_default.ensures.items c.in_default.ensures.rest) c.loop-line.invariant
