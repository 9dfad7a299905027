use Rattle.server_core.proofs.durable_state.ByKind.{target_some, target_none}
use Rattle.server_core.proofs.durable_state.files.is_target.Goals as goal

pub returns-in-Some : goal.returns-in-Some
returns-in-Some c = target_some c.args.target _ c.args.replaced c.in-Some.is

pub returns-in-None : goal.returns-in-None
returns-in-None c = target_none c.args.target c.args.replaced c.in-None.is
