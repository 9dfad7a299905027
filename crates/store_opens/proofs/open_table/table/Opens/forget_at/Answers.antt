use Rattle.std.proofs.Common.{refl}
use Rattle.store_opens.proofs.open_table.ExpiredLemmas.{shows_forgot}
use Rattle.store_opens.proofs.open_table.table.Opens.forget_at.Goals as goal

pub returns-clause-shows : goal.returns-clause-shows
returns-clause-shows c = λ s h none. shows_forgot c.args.self.now (record c.args.self.now {
  deadlines = c.forget.new.self;
}) s c.args.id refl c.forget.ensures.whole c.forget.ensures.others h none
