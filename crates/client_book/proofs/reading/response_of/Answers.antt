use Rattle.std.proofs.Common.{sym, refl}
use Rattle.client_book.proofs.Read.{token_is}
use Rattle.client_book.proofs.reading.response_of.Goals as goal

pub returns-in-Ok : goal.returns-in-Ok
returns-in-Ok c = record {
  header = refl;
  message = refl;
  token = λ own. token_is c.args.answer.token c.in-Ok.number (sym c.in-Ok.ensures.1) own;
}
