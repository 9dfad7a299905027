use Rattle.client_book.proofs.beginning.bound_to.Goals as goal

pub returns-clause-told : goal.returns-clause-told
returns-clause-told c = λ m s. (c.id.ensures m s, c.tree.ensures m s)
