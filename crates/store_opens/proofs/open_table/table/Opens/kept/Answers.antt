use Rattle.std.proofs.Common.{◌∙◌}
use Rattle.store_opens.proofs.open_table.Found.{kept_row, kept_absent}
use Rattle.store_opens.proofs.open_table.table.Opens.kept.Goals as goal

pub returns-in-Some : goal.returns-in-Some
returns-in-Some c = λ s h. c.kept_result.ensures ∙ kept_row c.args.self.now s c.args.session c.args.guid
    c.in-Some.row.now h c.in-Some.ensures.value

pub returns-in-None : goal.returns-in-None
returns-in-None c = λ s h. kept_absent c.args.self.now s c.args.session c.args.guid h c.in-None.ensures.value
