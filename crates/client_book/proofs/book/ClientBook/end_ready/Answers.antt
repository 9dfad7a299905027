use Rattle.std.proofs.Common.{refl, sym, ◌∙◌}
use Rattle.client_book.proofs.book.ClientBook.end_ready.Goals as goal

pub returns-then-nothing-clause-shared : goal.returns-then-nothing-clause-shared
returns-then-nothing-clause-shared c = rw (sym c.is_nothing-nothing.ensures ∙ c.if-nothing.true) c.end_dialog.ensures.shared

pub returns-else-nothing-clause-shared : goal.returns-else-nothing-clause-shared
returns-else-nothing-clause-shared c = rw (sym c.is_nothing-nothing.ensures ∙ c.if-nothing.false) refl

pub returns-else-nothing-clause-client : goal.returns-else-nothing-clause-client
returns-else-nothing-clause-client c = record { client = refl; salt = refl; stopped = refl }
