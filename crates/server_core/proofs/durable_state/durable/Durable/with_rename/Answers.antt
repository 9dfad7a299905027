use Rattle.server_core.proofs.durable_state.ByKind.{as_rename}
use Rattle.server_core.proofs.durable_state.durable.Durable.with_rename.Goals as goal

pub returns : goal.returns
returns c = λ s h. as_rename c.rename_recorded.result c.rename_recorded.new.self s c.args.one.now c.in-Rename.origin _ _ _ _
    c.in-Rename.is c.as_str.ensures (c.rename_recorded.ensures s c.in-Rename.origin h)
