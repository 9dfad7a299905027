use Rattle.server_core.proofs.durable_state.ByKind.{as_create}
use Rattle.server_core.proofs.durable_state.durable.Durable.with_create.Goals as goal

pub returns : goal.returns
returns c = λ s i h. as_create c.create_recorded.result c.create_recorded.new.self s c.args.one.now c.in-Create.origin _ _ _ _ _ _ _ _
    c.in-Create.is c.as_str.ensures (c.create_recorded.ensures s c.in-Create.origin i h)
