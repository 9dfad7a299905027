use Rattle.std.proofs.Common.{ℕ, ◌<◌, subst, sym}
use Rattle.serve_turns.specs.shared_book.Words.{view_of}
use Rattle.client_channels.proofs.channel_turns.Linking.{pass_on}
use Rattle.client_channels.specs.channel_turns.Links.{Passes, on}
use Rattle.client_channels.specs.channel_turns.Sides.{Ends, Runs, Talks}
use Rattle.client_channels.proofs.channel_turns.rounds.talk_and_run.Goals as goal

pub run_line-requires-clause-room : goal.run_line-requires-clause-room
run_line-requires-clause-room g c = λ lifetimes bounds. subst (λ (n : ℕ). 0 < n) (sym c.talk.ensures.kept.2) c.requires.room

pub returns-in-Err-clause-runs : goal.returns-in-Err-clause-runs
returns-in-Err-clause-runs g c = c.in-Err.ensures.talks

pub returns-in-Ok-clause-runs : goal.returns-in-Ok-clause-runs
returns-in-Ok-clause-runs g c =
    pass_on g.L.Link.told g.L.Link.given g.L.Link.left g.L.Link.written g.L.Link.faults g.L.Link.ended
    (g.G.Gate.bars c.args.gate.now) c.args.aim.now c.args.course.now.channel
    (on (Talks c.args.dialog) c.args.wire.now.stream c.args.wire.now.link (view_of c.args.seat.now).own)
    (on (Runs c.in-Ok.line) c.talk.new.wire.stream c.talk.new.wire.link (view_of c.talk.new.seat).own)
    (on Ends c.run_line.new.wire.stream c.run_line.new.wire.link (view_of c.run_line.new.seat).own)
    c.in-Ok.ensures.talks
    (subst (λ (n : ℕ). Passes g.L.Link.told g.L.Link.given g.L.Link.left g.L.Link.written g.L.Link.faults g.L.Link.ended
    (g.G.Gate.bars c.args.gate.now) c.args.aim.now n
    (on (Runs c.in-Ok.line) c.talk.new.wire.stream c.talk.new.wire.link (view_of c.talk.new.seat).own)
    (on Ends c.run_line.new.wire.stream c.run_line.new.wire.link (view_of c.run_line.new.seat).own)) c.talk.ensures.kept.0
    (c.run_line.ensures.runs c.args.aim.now))
