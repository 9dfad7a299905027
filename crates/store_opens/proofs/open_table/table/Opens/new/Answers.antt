use Rattle.std.proofs.Common.{refl}
use Rattle.store_opens.proofs.open_table.Empty.{shows_nothing}
use Rattle.store_opens.proofs.open_table.table.Opens.new.Goals as goal

pub returns : goal.returns
returns c = shows_nothing _ refl refl refl c.new-rows.ensures.empty c.new-guids.ensures.empty c.new-files.ensures.empty
    c.new-sessions.ensures.empty c.new-expired.ensures.empty
