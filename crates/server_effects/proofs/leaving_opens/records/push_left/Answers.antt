use Rattle.server_effects.proofs.leaving_opens.records.push_left.Goals as goal

pub returns-then-row : goal.returns-then-row
returns-then-row c = rw c.if-row.true c.push_record.ensures

pub returns : goal.returns
returns c = rw c.if-row.false c.push_marked.ensures
