use Rattle.std.proofs.Common.{List, ap}
use Rattle.journal_bytes.specs.record_bytes.Meaning.{records_of}
use Rattle.journal_bytes.specs.declared.record_bytes.value.Record.{Record}
use Rattle.server_plan.proofs.Lesser.{is_quiet}
use Rattle.server_plan.proofs.owing.owed_by.Goals as goal

pub returns-in-Says-clause-told : goal.returns-in-Says-clause-told
returns-in-Says-clause-told c = rw c.in-Says.is c.owed_on_message.ensures.told

pub returns-in-TakesIn-clause-told : goal.returns-in-TakesIn-clause-told
returns-in-TakesIn-clause-told c = rw c.in-TakesIn.is (λ s f h w. ap (λ (v : List Record). records_of v) c.new.ensures)

pub returns-in-TurnsAway-clause-told : goal.returns-in-TurnsAway-clause-told
returns-in-TurnsAway-clause-told c = rw c.in-TurnsAway.is (λ s f h w. ap (λ (v : List Record). records_of v) c.new-in-TurnsAway.ensures)

pub returns-in-TakesOut-clause-told : goal.returns-in-TakesOut-clause-told
returns-in-TakesOut-clause-told c = rw c.in-TakesOut.is (λ s f h w. c.lost_records.ensures.told s f h)

pub returns-in-TakesAllOut-clause-told : goal.returns-in-TakesAllOut-clause-told
returns-in-TakesAllOut-clause-told c = rw c.in-TakesAllOut.is (λ s f h w. c.all_lost_records.ensures.told s c.args.now f h)

pub returns-in-Says-clause-sure : goal.returns-in-Says-clause-sure
returns-in-Says-clause-sure c = rw c.in-Says.is c.owed_on_message.ensures.sure

pub returns-in-TakesOut-clause-sure : goal.returns-in-TakesOut-clause-sure
returns-in-TakesOut-clause-sure c = rw c.in-TakesOut.is (λ n. c.lost_records.ensures.sure (is_quiet _ n))

pub returns-in-TakesAllOut-clause-sure : goal.returns-in-TakesAllOut-clause-sure
returns-in-TakesAllOut-clause-sure c = rw c.in-TakesAllOut.is (λ n. c.all_lost_records.ensures.sure (is_quiet _ n))
