use Rattle.server_core.proofs.durable_state.ByKind.{as_write}
use Rattle.server_core.proofs.durable_state.durable.Durable.with_write.Goals as goal

pub returns : goal.returns
returns c = λ s h. as_write c.write_recorded.result c.write_recorded.new.self s c.args.one.now c.in-Write.origin _ _ _ _ _
    c.in-Write.is c.as_slice.ensures (c.write_recorded.ensures s c.in-Write.origin h)
