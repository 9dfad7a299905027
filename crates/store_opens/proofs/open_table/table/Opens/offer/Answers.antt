use Rattle.std.proofs.Common.{refl}
use Rattle.store_opens.proofs.open_table.Changed.{shows_offered, told_offered}
use Rattle.store_opens.proofs.open_table.table.Opens.offer.Goals as goal

pub returns-clause-told : goal.returns-clause-told
returns-clause-told c = λ s h st. told_offered c.args.self.now s c.args.id c.args.n _ h st c.offer_row.ensures.told

pub returns-clause-shows : goal.returns-clause-shows
returns-clause-shows c = λ s h st. shows_offered c.args.self.now (record c.args.self.now {
  rows = c.offer_row.new.rows;
}) s c.args.id c.args.n (record { rest = refl; len = c.offer_row.ensures.len })
    c.offer_row.ensures.rows h
