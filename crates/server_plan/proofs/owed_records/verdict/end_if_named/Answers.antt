use Rattle.server_plan.proofs.owed_records.verdict.end_if_named.Goals as goal

pub returns-in-Some-clause-told : goal.returns-in-Some-clause-told
returns-in-Some-clause-told c = rw c.in-Some.is c.end_records.ensures.told

pub returns-in-None-clause-told : goal.returns-in-None-clause-told
returns-in-None-clause-told c = rw c.in-None.is (λ s f o t. c.no_record.ensures)

pub returns-in-Some-clause-sure : goal.returns-in-Some-clause-sure
returns-in-Some-clause-sure c = rw c.in-Some.is c.end_records.ensures.sure
