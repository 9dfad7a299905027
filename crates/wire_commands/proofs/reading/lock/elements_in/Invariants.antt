use Rattle.std.proofs.Common.{◌≡◌, ◌++◌, length}
use Rattle.wire_commands.proofs.reading.Elements.{all_in}
use Rattle.wire_commands.proofs.reading.lock.elements_in.Given as goal

abbrev pub invariant-loop-found : goal.invariant-loop-found
invariant-loop-found l = all_in l.initial.locks ≡ l.elements.items ++ all_in l.rest

abbrev pub decreases-loop-found : goal.decreases-loop-found
decreases-loop-found l = length l.rest
