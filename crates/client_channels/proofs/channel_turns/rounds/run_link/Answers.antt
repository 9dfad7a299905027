use Rattle.std.proofs.Common.{inr}
use Rattle.client_channels.proofs.channel_turns.rounds.run_link.Goals as goal

pub returns-in-Some-clause-uses : goal.returns-in-Some-clause-uses
returns-in-Some-clause-uses g c = c.run_fresh.ensures.uses

pub returns-in-None-clause-uses : goal.returns-in-None-clause-uses
returns-in-None-clause-uses g c = inr c.lack.ensures.tells
