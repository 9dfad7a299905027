use Rattle.std.proofs.Common.{refl, sym}
use Rattle.serve_command.proofs.Renewals.{never_both}
use Rattle.serve_command.proofs.lasting_book.book.LastingBook.ready.Goals as goal

pub returns-in-Some : goal.returns-in-Some
returns-in-Some g c = record {
  mid = c.fill_if_short.new.self;
  fills = c.fill_if_short.ensures;
  early = λ below. refl;
  halted = λ count was. refl;
  looks = λ goes above. absurd (never_both _ _ goes (sym c.in-Some.ensures));
}

pub returns-in-None : goal.returns-in-None
returns-in-None g c = record {
  mid = c.fill_if_short.new.self;
  fills = c.fill_if_short.ensures;
  early = c.look_if_marked.ensures.early;
  halted = λ count was. absurd (never_both _ count (sym c.in-None.ensures) was);
  looks = λ goes above. c.look_if_marked.ensures.looks above;
}
