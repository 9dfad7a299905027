use Rattle.serve_turns.specs.shared_book.Words.{view_of}
use Rattle.client_channels.proofs.channel_turns.Stepping.{aside_none}
use Rattle.client_channels.specs.channel_turns.Sides.{Ends}
use Rattle.client_channels.specs.declared.channel_turns.starting.Aim.TheVariants as aims
use Rattle.client_channels.proofs.channel_turns.dialogs.give_up.Goals as goal

pub returns-in-Make-clause-gives : goal.returns-in-Make-clause-gives
returns-in-Make-clause-gives g c = rw c.in-Make.is (c.finish.ensures.finishes (aims.Make c.in-Make.previous) c.args._channel)

pub returns-in-Bind-clause-gives : goal.returns-in-Bind-clause-gives
returns-in-Bind-clause-gives g c =
    rw c.in-Bind.is (aside_none (aims.Bind c.in-Bind.bound c.in-Bind.number) c.args._channel Ends (view_of c.args.seat.now).own)
