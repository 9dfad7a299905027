use Rattle.std.proofs.Common.{refl}
use Rattle.store_opens.proofs.open_table.Unlisted.{shows_unlisted}
use Rattle.store_opens.proofs.open_table.table.Opens.unlist.Goals as goal

pub returns-clause-shows : goal.returns-clause-shows
returns-clause-shows c = λ s none h. shows_unlisted c.args.self.now (record c.args.self.now { sessions = c.unlist_in.new.sessions })
    c.args.id s refl c.unlist_in.ensures.others none h
