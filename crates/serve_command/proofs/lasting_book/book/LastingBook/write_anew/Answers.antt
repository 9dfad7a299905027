use Rattle.serve_command.proofs.Renewals.{marked}
use Rattle.serve_command.proofs.lasting_book.book.LastingBook.write_anew.Goals as goal

pub returns : goal.returns
returns g c = record {
  compacts = c.compact-written.ensures.compacts;
  config = c.compact-written.ensures.config;
  calm = c.compact-written.ensures.calm;
  mark = marked c.compact-written.result _ _ _ _ _ _ c.mark_after-self.ensures c.requires c.used-after.ensures;
}
