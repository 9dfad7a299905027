use Rattle.serve_turns.specs.shared_book.Words.{view_of}
use Rattle.client_channels.proofs.channel_turns.Linking.{pass_on}
use Rattle.client_channels.specs.channel_turns.Links.{on}
use Rattle.client_channels.specs.channel_turns.Sides.{Ends, Says, Talks}
use Rattle.client_channels.proofs.channel_turns.rounds.run_dialog.Goals as goal

pub returns-in-Some-clause-runs : goal.returns-in-Some-clause-runs
returns-in-Some-clause-runs g c = c.in-Some.ensures.speaks c.args.aim.now c.args.dialog

pub returns-in-None-clause-runs : goal.returns-in-None-clause-runs
returns-in-None-clause-runs g c =
    pass_on g.L.Link.told g.L.Link.given g.L.Link.left g.L.Link.written g.L.Link.faults g.L.Link.ended
    (g.G.Gate.bars c.args.gate.now) c.args.aim.now c.args.course.now.channel
    (on (Says c.args.greeting.now (Talks c.args.dialog)) c.args.wire.now.stream c.args.wire.now.link (view_of c.args.seat.now).own)
    (on (Talks c.args.dialog) c.speak.new.wire.stream c.speak.new.wire.link (view_of c.speak.new.seat).own)
    (on Ends c.talk_and_run.new.wire.stream c.talk_and_run.new.wire.link (view_of c.talk_and_run.new.seat).own)
    (c.in-None.ensures.speaks c.args.aim.now c.args.dialog) c.talk_and_run.ensures.runs
