use Rattle.server_core.proofs.durable_state.ByKind.{as_it_is}
use Rattle.server_core.proofs.durable_state.durable.Durable.with_record.Goals as goal

pub returns-in-Epoch : goal.returns-in-Epoch
returns-in-Epoch c = λ s i h. as_it_is c.with_epoch.result c.with_epoch.new.self s c.args.one.now _ c.in-Epoch.is
    (c.with_epoch.ensures s i h)

pub returns-in-Version : goal.returns-in-Version
returns-in-Version c = λ s i h. as_it_is c.with_version.result c.with_version.new.self s c.args.one.now _
    c.in-Version.is (c.with_version.ensures s h)

pub returns-in-Create : goal.returns-in-Create
returns-in-Create c = λ s i h. c.with_create.ensures s i h

pub returns-in-Write : goal.returns-in-Write
returns-in-Write c = λ s i h. c.with_write.ensures s h

pub returns-in-SetEnd : goal.returns-in-SetEnd
returns-in-SetEnd c = λ s i h. c.with_end.ensures s h

pub returns-in-SetBasic : goal.returns-in-SetBasic
returns-in-SetBasic c = λ s i h. as_it_is c.with_basic.result c.with_basic.new.self s c.args.one.now _ c.in-SetBasic.is
    (c.with_basic.ensures s c.in-SetBasic.origin h)

pub returns-in-SetDelete : goal.returns-in-SetDelete
returns-in-SetDelete c = λ s i h. as_it_is c.mark_recorded.result c.mark_recorded.new.self s c.args.one.now _ c.in-SetDelete.is
    (c.mark_recorded.ensures s c.in-SetDelete.origin h)

pub returns-in-Rename : goal.returns-in-Rename
returns-in-Rename c = λ s i h. c.with_rename.ensures s h

pub returns-in-Remove : goal.returns-in-Remove
returns-in-Remove c = λ s i h. as_it_is c.with_remove.result c.with_remove.new.self s c.args.one.now _ c.in-Remove.is
    (c.with_remove.ensures s c.in-Remove.origin h)

pub returns-in-Lock : goal.returns-in-Lock
returns-in-Lock c = λ s i h. c.with_lock.ensures s i h

pub returns-in-Shut : goal.returns-in-Shut
returns-in-Shut c = λ s i h. as_it_is c.shut_recorded.result c.shut_recorded.new.self s c.args.one.now _ c.in-Shut.is
    (c.shut_recorded.ensures s c.in-Shut.origin i h)

pub returns-in-Expire : goal.returns-in-Expire
returns-in-Expire c = λ s i h. as_it_is c.expire_recorded.result c.expire_recorded.new.self s c.args.one.now _ c.in-Expire.is
    (c.expire_recorded.ensures s c.in-Expire.origin i h)
