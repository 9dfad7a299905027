use Rattle.std.proofs.Common.{inl}
use Rattle.client_book.proofs.Turned.{or_then}
use Rattle.client_book.proofs.book.ClientBook.respond.Goals as goal

pub returns-in-Ok : goal.returns-in-Ok
returns-in-Ok c = λ a is.
    or_then c.take.result c.take.new.self
    (λ h. record { response = c.args.response.now; is = is; reply = c.in-Ok.reply; reads = c.in-Ok.ensures; happens = h.0; rest = h.1 })
    c.take.ensures

pub returns-in-Err : goal.returns-in-Err
returns-in-Err c = λ a is. inl c.stop.ensures
