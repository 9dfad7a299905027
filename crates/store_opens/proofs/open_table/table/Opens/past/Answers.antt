use Rattle.std.proofs.Common.{◌∙◌}
use Rattle.store_opens.proofs.open_index.SetLemmas.{ordered_ascends}
use Rattle.store_opens.proofs.open_table.DatedLemmas.{due_indexed}
use Rattle.store_opens.proofs.open_table.Least.{due_scanned, found_rows}
use Rattle.store_opens.proofs.open_table.table.Opens.past.Goals as goal

pub returns-then-self : goal.returns-then-self
returns-then-self c = λ s i h over. c.first_past.ensures.due ∙ due_indexed c.args.self.now s c.args.now h i
    (ordered_ascends _ c.first_past.ensures.ordered) (over c.if-self.true)

pub returns : goal.returns
returns c = λ s i h over. c.least_past.ensures.least ∙ due_scanned c.args.self.now s c.args.now h i
    (found_rows c.args.self.now.rows c.least_past.ensures.found)
