use Rattle.client_channels.proofs.channel_turns.dialogs.joined_by.Goals as goal

pub returns-in-Ready-clause-joins : goal.returns-in-Ready-clause-joins
returns-in-Ready-clause-joins g c = rw c.in-Ready.is (c.ready.ensures.readies c.args._aim.now)

pub returns-in-Say-clause-joins : goal.returns-in-Say-clause-joins
returns-in-Say-clause-joins g c = c.lack.ensures.lacks c.args._aim.now c.args.channel _

pub returns-in-Accepted-clause-joins : goal.returns-in-Accepted-clause-joins
returns-in-Accepted-clause-joins g c = c.lack-in-Accepted.ensures.lacks c.args._aim.now c.args.channel _

pub returns-clause-joins : goal.returns-clause-joins
returns-clause-joins g c = c.lack-in-Refused.ensures.lacks c.args._aim.now c.args.channel _
