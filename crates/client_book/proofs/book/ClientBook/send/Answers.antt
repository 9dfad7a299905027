use Rattle.std.proofs.Common.{ℕ, inl, subst}
use Rattle.client_book.specs.Steps.{TellsRequestOr}
use Rattle.client_book.proofs.book.ClientBook.send.Goals as goal

pub returns-in-Ok : goal.returns-in-Ok
returns-in-Ok c =
    subst (λ (g : ℕ). TellsRequestOr c.args.self.now g c.args.asking c.send_number.result c.send_number.new.self) c.in-Ok.ensures.1
    c.send_number.ensures

pub returns-in-Err : goal.returns-in-Err
returns-in-Err c = inl c.stop.ensures
