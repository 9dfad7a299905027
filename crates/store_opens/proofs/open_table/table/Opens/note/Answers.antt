use Rattle.std.proofs.Common.{refl}
use Rattle.store_opens.proofs.open_table.Added.{shows_noted}
use Rattle.store_opens.proofs.open_table.table.Opens.note.Goals as goal

pub returns-clause-same : goal.returns-clause-same
returns-clause-same c = λ s h. shows_noted c.args.self.now (record c.args.self.now {
  undated = c.note_undated.new.undated;
}) s refl c.note_undated.ensures.others h
