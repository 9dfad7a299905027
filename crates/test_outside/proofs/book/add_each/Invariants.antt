use Rattle.serve_turns.specs.shared_book.Words.{IsSameSeat}
use Rattle.test_outside.proofs.book.add_each.Given as goal

abbrev pub invariant-loop-note : goal.invariant-loop-note
invariant-loop-note g l = IsSameSeat l.initial.seat l.seat
