use Rattle.std.proofs.Common.{refl}
use Rattle.client_book.proofs.book.ClientBook.new.Goals as goal

pub returns : goal.returns
returns c = record {
  client = c.new.ensures;
  salt_is = refl;
  accepted = refl;
  cipher = c.no_keys.ensures;
  numbers = refl;
  failed = refl;
  opened = refl;
  finished = refl;
  going = refl;
}
