use Rattle.client_book.proofs.Asked.{ask_token, own_token}
use Rattle.client_book.proofs.asking.token_of.Goals as goal

pub returns-then-asking : goal.returns-then-asking
returns-then-asking c = λ p. rw c.if-asking.true (ask_token c.args.number)

pub returns-else-asking : goal.returns-else-asking
returns-else-asking c = λ p. rw c.if-asking.false (own_token c.args.number p)
