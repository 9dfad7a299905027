use Rattle.world_steps.proofs.serving.Tokens.{own_else, own_then}
use Rattle.world_steps.proofs.serving.noting.is_own.Goals as goal

pub returns-then-token-ne0 : goal.returns-then-token-ne0
returns-then-token-ne0 c = own_then c.args.token c.if-token-ne0.true

pub returns-else-token-ne0 : goal.returns-else-token-ne0
returns-else-token-ne0 c = own_else c.args.token c.if-token-ne0.false
