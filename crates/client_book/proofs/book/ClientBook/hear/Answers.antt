use Rattle.std.proofs.Common.{inl}
use Rattle.client_book.proofs.book.ClientBook.hear.Goals as goal

pub returns-in-Some : goal.returns-in-Some
returns-in-Some c = c.respond.ensures c.args.answer c.in-Some.ensures

pub returns-in-None : goal.returns-in-None
returns-in-None c = inl c.stop.ensures
