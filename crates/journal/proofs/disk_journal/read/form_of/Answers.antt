use Rattle.std.proofs.Common.{◌∙◌}
use Rattle.journal.proofs.disk_journal.Gates.{no_mark, plain_mark, summed_mark}
use Rattle.journal.proofs.disk_journal.read.form_of.Goals as goal

pub returns-then-last-eq49 : goal.returns-then-last-eq49
returns-then-last-eq49 c = λ m long front last. plain_mark m long front (last ∙ c.if-last-eq49.true)

pub returns-then-last-eq50 : goal.returns-then-last-eq50
returns-then-last-eq50 c = λ m long front last. summed_mark m long front (last ∙ c.if-last-eq50.true)

pub returns : goal.returns
returns c = λ m long front last. no_mark m c.args.last front last c.if-last-eq49.false c.if-last-eq50.false
