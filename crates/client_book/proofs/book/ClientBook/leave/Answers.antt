use Rattle.std.proofs.Common.{refl}
use Rattle.client_book.proofs.book.ClientBook.leave.Goals as goal

pub returns : goal.returns
returns c = (record { lasts = record { salt = refl; going = c.requires }; shown = λ d s. s }, refl, refl)
