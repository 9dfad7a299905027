use Rattle.store_opens.proofs.open_table.rows.reserve_names.Goals as goal

pub returns-clause-at : goal.returns-clause-at
returns-clause-at c = λ a b. c.reserve.ensures.entries.2 (a, b)
