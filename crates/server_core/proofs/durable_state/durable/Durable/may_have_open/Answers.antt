use Rattle.server_core.proofs.durable_state.ByKind.{have_some, have_none}
use Rattle.server_core.proofs.durable_state.durable.Durable.may_have_open.Goals as goal

pub returns-in-Some : goal.returns-in-Some
returns-in-Some c = λ s h. have_some s c.args.new.now _ c.may_restore.result c.in-Some.is (c.may_restore.ensures s h)

pub returns-in-None : goal.returns-in-None
returns-in-None c = λ s h. have_none s c.args.new.now c.in-None.is
