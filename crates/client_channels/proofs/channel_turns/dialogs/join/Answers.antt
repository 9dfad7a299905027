use Rattle.std.proofs.Common.{[], refl}
use Rattle.serve_turns.specs.shared_book.Words.{view_of}
use Rattle.client_channels.proofs.channel_turns.Stepping.{aside_one, asides_on}
use Rattle.client_channels.specs.channel_turns.Asides.{Moves}
use Rattle.client_channels.specs.channel_turns.Links.{talked_side}
use Rattle.client_channels.specs.channel_turns.Sides.{Ends, Joins, side_heard}
use Rattle.client_channels.proofs.channel_turns.Hearing.{dialog_takes}
use Rattle.client_channels.proofs.channel_turns.dialogs.join.Goals as goal

pub returns-in-Ok-clause-joins : goal.returns-in-Ok-clause-joins
returns-in-Ok-clause-joins g c =
    let aim = c.args.aim.now in
    let heard = side_heard c.in-Ok.heard c.hear.new.d in
    asides_on aim c.args.channel (Joins c.args.dialog.now) heard (talked_side c.joined_by.result Ends) (view_of c.args.seat.now).own
    (view_of c.args.seat.now).own (view_of c.joined_by.new.seat).own
    (aside_one aim c.args.channel Moves (Joins c.args.dialog.now) heard (view_of c.args.seat.now).own (view_of c.args.seat.now).own (
      dialog_takes aim c.args.dialog.now [] c.number_of.result c.in-Ok.heard c.hear.new.d c.number_of.ensures
          (λ n s. c.in-Ok.ensures.heard n s),
      refl,
    ))
    c.joined_by.ensures.joins

pub returns-in-Err-clause-joins : goal.returns-in-Err-clause-joins
returns-in-Err-clause-joins g c = c.lack.ensures.lacks c.args.aim.now c.args.channel (Joins c.args.dialog.now)
