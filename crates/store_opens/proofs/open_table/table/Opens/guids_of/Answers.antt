use Rattle.store_opens.proofs.open_table.Found.{guids_row, guids_absent}
use Rattle.store_opens.proofs.open_table.table.Opens.guids_of.Goals as goal

pub returns-in-Some : goal.returns-in-Some
returns-in-Some c = λ s h. guids_row c.args.self.now s c.args.session c.in-Some.row.now h c.in-Some.ensures.value

pub returns-in-None : goal.returns-in-None
returns-in-None c = λ s h. guids_absent c.args.self.now s c.args.session h c.in-None.ensures.value
