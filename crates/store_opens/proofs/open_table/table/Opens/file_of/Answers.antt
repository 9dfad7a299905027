use Rattle.std.proofs.Common.{ap, ◌∙◌}
use Rattle.store_opens.specs.open_table.Locks.{file_at}
use Rattle.store_opens.proofs.open_table.LockLemmas.{file_is}
use Rattle.store_opens.proofs.open_table.table.Opens.file_of.Goals as goal

pub returns-in-Some-clause-kept : goal.returns-in-Some-clause-kept
returns-in-Some-clause-kept c = ap file_at c.in-Some.ensures.value

pub returns-in-Some-clause-shown : goal.returns-in-Some-clause-shown
returns-in-Some-clause-shown c = λ s h st. ap file_at c.in-Some.ensures.value ∙ file_is c.args.self.now s c.args.id h st

pub returns-in-None-clause-kept : goal.returns-in-None-clause-kept
returns-in-None-clause-kept c = ap file_at c.in-None.ensures.value

pub returns-in-None-clause-shown : goal.returns-in-None-clause-shown
returns-in-None-clause-shown c = λ s h st. ap file_at c.in-None.ensures.value ∙ file_is c.args.self.now s c.args.id h st
