use Rattle.std.proofs.Common.{drop}
use Rattle.law_commands.specs.commands.Fitting.{AreElements}
use Rattle.server_plan.proofs.owed_records.lock.read_elements.Given as goal

abbrev pub invariant-loop-element : goal.invariant-loop-element
invariant-loop-element l = AreElements (drop l.element-index l.elements) → AreElements l.elements
