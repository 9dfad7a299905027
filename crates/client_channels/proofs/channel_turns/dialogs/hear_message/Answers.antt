use Rattle.std.proofs.Common.{List, ℕ, inl, inr, refl, subst}
use Rattle.serve_turns.specs.shared_book.Words.{view_of}
use Rattle.client_channels.proofs.channel_turns.Linking.{pass_aside}
use Rattle.client_channels.specs.channel_turns.Asides.{DialogTakes}
use Rattle.client_channels.specs.channel_turns.Sides.{Ends, Lost, side_heard}
use Rattle.client_channels.proofs.channel_turns.Hearing.{dialog_takes}
use Rattle.client_channels.proofs.channel_turns.dialogs.hear_message.Goals as goal

pub returns-in-Ok-clause-hears : goal.returns-in-Ok-clause-hears
returns-in-Ok-clause-hears g c =
    let side = side_heard c.in-Ok.heard c.hear.new.d in (
      side,
      inl (subst (λ (m : List ℕ). DialogTakes c.args.aim.now c.args.dialog.now m side) c.as_slice.ensures
          (dialog_takes c.args.aim.now c.args.dialog.now c.as_slice.result.now c.number_of.result c.in-Ok.heard c.hear.new.d
          c.number_of.ensures (λ n s. c.in-Ok.ensures.heard n s))),
      c.turn.ensures.turns,
    )

pub returns-in-Err-clause-hears : goal.returns-in-Err-clause-hears
returns-in-Err-clause-hears g c = (
  Lost,
  inr refl,
  pass_aside g.L.Link.told g.L.Link.given g.L.Link.left g.L.Link.written g.L.Link.faults g.L.Link.ended
      (g.G.Gate.bars c.args.gate.now) c.args.aim.now c.args.course.now.channel Lost Ends c.args.wire.now.stream c.args.wire.now.link
      (view_of c.args.seat.now).own (view_of c.lack.new.seat).own
      (c.lack.ensures.lacks c.args.aim.now c.args.course.now.channel Lost),
)
