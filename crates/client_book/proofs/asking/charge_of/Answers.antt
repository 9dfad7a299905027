use Rattle.std.proofs.Common.{refl}
use Rattle.client_book.proofs.asking.charge_of.Goals as goal

pub returns-then-asking : goal.returns-then-asking
returns-then-asking c = λ d shown p l. rw c.if-asking.true refl

pub returns : goal.returns
returns c = λ d shown p l. rw c.if-asking.false (c.own_charge.ensures d shown p l)
