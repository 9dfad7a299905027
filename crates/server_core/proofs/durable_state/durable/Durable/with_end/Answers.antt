use Rattle.server_core.proofs.durable_state.ByKind.{as_end}
use Rattle.server_core.proofs.durable_state.durable.Durable.with_end.Goals as goal

pub returns : goal.returns
returns c = λ s h. as_end c.end_recorded.result c.end_recorded.new.self s c.args.one.now c.in-SetEnd.origin _ _ _
    c.in-SetEnd.is (c.end_recorded.ensures s c.in-SetEnd.origin h)
