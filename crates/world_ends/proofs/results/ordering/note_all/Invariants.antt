use Rattle.world_ends.proofs.results.Adding.{NotesTo}
use Rattle.world_ends.proofs.results.ordering.note_all.Given as goal

abbrev pub invariant-loop-place : goal.invariant-loop-place
invariant-loop-place l = NotesTo l.world l.place l.fn.orders.items l.orders.items
