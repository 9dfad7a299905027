use Rattle.std.proofs.Common.{refl}
use Rattle.store_opens.proofs.open_table.LockLemmas.{shows_ranges, held_behind}
use Rattle.store_opens.proofs.open_table.table.Opens.put_ranges.Goals as goal

pub returns-clause-held : goal.returns-clause-held
returns-clause-held c = λ there. held_behind c.args.self.now (record c.args.self.now {
  files = c.replace_held.new.files;
}) c.args.file c.args.ranges.items c.replace_held.ensures there

pub returns-clause-shown : goal.returns-clause-shown
returns-clause-shown c = λ s h there. shows_ranges c.args.self.now (record c.args.self.now {
  files = c.replace_held.new.files;
}) s c.args.file c.args.ranges.items refl c.replace_held.ensures h there
