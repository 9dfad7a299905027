use Rattle.store_opens.proofs.open_table.table.Opens.ready.Goals as goal

pub returns-in-Ok-clause-same : goal.returns-in-Ok-clause-same
returns-in-Ok-clause-same c = λ s h. c.in-Ok.ensures.same s h

pub returns-in-Err-clause-same : goal.returns-in-Err-clause-same
returns-in-Err-clause-same c = λ s h. c.in-Err.ensures.same s h
