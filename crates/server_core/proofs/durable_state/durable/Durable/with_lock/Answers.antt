use Rattle.server_core.proofs.durable_state.ByKind.{as_lock}
use Rattle.server_core.proofs.durable_state.durable.Durable.with_lock.Goals as goal

pub returns : goal.returns
returns c = λ s i h. as_lock c.lock_recorded.result c.lock_recorded.new.self s c.args.one.now c.in-Lock.origin _ _ _ _ _ _
    c.in-Lock.is c.as_slice.ensures (c.lock_recorded.ensures s c.in-Lock.origin i h)
