use Rattle.server_core.proofs.durable_state.ByKind.{unopened_some, unopened_none}
use Rattle.server_core.proofs.durable_state.durable.Durable.is_unopened.Goals as goal

pub returns-in-Some : goal.returns-in-Some
returns-in-Some c = λ s h. unopened_some s c.args.target _ c.has_open.result c.in-Some.is (c.has_open.ensures s h.opens)

pub returns-in-None : goal.returns-in-None
returns-in-None c = λ s h. unopened_none s c.args.target c.in-None.is
