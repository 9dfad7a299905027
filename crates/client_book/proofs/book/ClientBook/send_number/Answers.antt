use Rattle.std.proofs.Common.{inl, inr, refl}
use Rattle.client_book.proofs.book.ClientBook.send_number.Goals as goal

pub returns-in-Ok : goal.returns-in-Ok
returns-in-Ok c = inr (refl, record { request = c.in-Ok.request; is = refl; asks = c.in-Ok.ensures })

pub returns-in-Err : goal.returns-in-Err
returns-in-Err c = inl c.stop.ensures
