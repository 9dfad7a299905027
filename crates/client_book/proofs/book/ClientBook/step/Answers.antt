use Rattle.std.proofs.Common.{inl}
use Rattle.client_book.proofs.Turned.{stepped}
use Rattle.client_book.proofs.book.ClientBook.step.Goals as goal

pub returns-then-stopped : goal.returns-then-stopped
returns-then-stopped c = inl c.stop.ensures

pub returns : goal.returns
returns c = stepped c.args.self.now c.args.turn c.turn.result c.turn.new.self c.if-stopped.false c.turn.ensures
