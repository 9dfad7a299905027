use Rattle.serve_turns.specs.shared_book.Words.{view_of}
use Rattle.client_channels.proofs.channel_turns.Rounding.{lacks_first, round_one}
use Rattle.client_channels.specs.channel_turns.Rounds.{been}
use Rattle.client_channels.proofs.channel_turns.rounds.work.Goals as goal

pub returns-in-Err-clause-works : goal.returns-in-Err-clause-works
returns-in-Err-clause-works g c = (
  0,
  round_one g.N.L.Link.told g.N.L.Link.given g.N.L.Link.left g.N.L.Link.written g.N.L.Link.faults g.N.L.Link.ended
      (g.G.Gate.bars c.args.gate.now) c.args.config.now c.args.outside.now.seed
      c.args.channel g.N.Net.faults (been (view_of c.args.seat).own 0) (been (view_of c.lack.new.seat).own 0)
      (lacks_first g.N.L.Link.told g.N.L.Link.given g.N.L.Link.left g.N.L.Link.written g.N.L.Link.faults g.N.L.Link.ended
      (g.G.Gate.bars c.args.gate.now) c.args.config.now c.args.outside.now.seed
      c.args.channel g.N.Net.faults (view_of c.args.seat).own (view_of c.lack.new.seat).own 0 0 c.lack.ensures.tells),
)

pub returns-clause-works : goal.returns-clause-works
returns-clause-works g c = (c.run_course-link.new.course.draws, c.run_course-link.ensures.goes)
