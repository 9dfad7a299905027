use Rattle.server_plan.proofs.reserving.logons.channel_for.Goals as goal

pub returns : goal.returns
returns c = λ keys pending l. (c.in_ok-token.ensures keys pending l, c.in_ok-keys.ensures keys pending l)
