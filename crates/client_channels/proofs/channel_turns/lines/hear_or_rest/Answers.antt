use Rattle.serve_turns.specs.shared_book.Words.{view_of}
use Rattle.client_channels.proofs.channel_turns.Linking.{pass_none}
use Rattle.client_channels.specs.channel_turns.Links.{on}
use Rattle.client_channels.specs.channel_turns.Sides.{Runs}
use Rattle.client_channels.proofs.channel_turns.lines.hear_or_rest.Goals as goal

pub returns-then-none-clause-hears : goal.returns-then-none-clause-hears
returns-then-none-clause-hears g c = λ a.
    pass_none g.L.Link.told g.L.Link.given g.L.Link.left g.L.Link.written g.L.Link.faults g.L.Link.ended
    (g.G.Gate.bars c.args.gate.now) a c.args.course.now.channel
    (on (Runs c.args.line.now) c.args.wire.now.stream c.args.wire.now.link (view_of c.args.seat.now).own)
