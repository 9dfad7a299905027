use Rattle.std.proofs.Common.{sym, ◌∙◌}
use Rattle.store_opens.proofs.open_index.SetLemmas.{contains_has, ordered_ascends}
use Rattle.store_opens.proofs.open_table.Least.{found_rows}
use Rattle.store_opens.proofs.open_table.StoodLemmas.{ids_are}
use Rattle.store_opens.proofs.open_table.table.Opens.ids.Goals as goal

pub returns-in-Ok-listed : goal.returns-in-Ok-listed
returns-in-Ok-listed c = λ s i h. c.in-Ok-listed.ensures.items ∙ ids_are c.args.self.now s c.in-Ok.kept.keys h i
    (found_rows c.args.self.now.rows c.in-Ok.ensures.found) (ordered_ascends c.in-Ok.kept.keys c.in-Ok-listed.ensures.ordered)
    (λ q. sym (contains_has q c.in-Ok.kept.keys) ∙ c.in-Ok.ensures.kept q)
