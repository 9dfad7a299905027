use Rattle.spec_exchange.specs.Effects.{change_records}
use Rattle.server_plan.proofs.owed_records.change.change_records.Goals as goal

pub returns-in-PutBytes : goal.returns-in-PutBytes
unfolding change_records
returns-in-PutBytes c = rw c.in-PutBytes.is c.written.ensures

pub returns-in-PutPath : goal.returns-in-PutPath
unfolding change_records
returns-in-PutPath c = rw c.in-PutPath.is c.renamed.ensures

pub returns-in-PutEnd : goal.returns-in-PutEnd
unfolding change_records
returns-in-PutEnd c = rw c.in-PutEnd.is c.ended.ensures

pub returns-in-PutBasic : goal.returns-in-PutBasic
unfolding change_records
returns-in-PutBasic c = rw c.in-PutBasic.is c.told_basic.ensures

pub returns-in-PutDeletePending : goal.returns-in-PutDeletePending
unfolding change_records
returns-in-PutDeletePending c = rw c.in-PutDeletePending.is c.marked_record.ensures

pub returns-in-PutNothing : goal.returns-in-PutNothing
unfolding change_records
returns-in-PutNothing c = rw c.in-PutNothing.is c.no_record.ensures
