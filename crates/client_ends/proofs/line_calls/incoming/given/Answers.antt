use Rattle.std.proofs.Common.{refl}
use Rattle.client_ends.proofs.line_calls.Replies.{zero_token, other_token}
use Rattle.client_ends.proofs.line_calls.incoming.given.Goals as goal

pub returns-then-token-eq0 : goal.returns-then-token-eq0
returns-then-token-eq0 c = zero_token c.args.token c.if-token-eq0.true

pub returns : goal.returns
returns c = (refl, refl, other_token c.args.token c.if-token-eq0.false)
