use Rattle.std.proofs.Common.{◌≡◌, ◌++◌, length}
use Rattle.journal_bytes.proofs.record_bodies.Elements.{all_in}
use Rattle.journal_bytes.proofs.record_bodies.held.elements_of.Given as goal

abbrev pub invariant-loop-found : goal.invariant-loop-found
invariant-loop-found l = all_in l.initial.bytes ≡ l.elements.items ++ all_in l.rest

abbrev pub decreases-loop-found : goal.decreases-loop-found
decreases-loop-found l = length l.rest
