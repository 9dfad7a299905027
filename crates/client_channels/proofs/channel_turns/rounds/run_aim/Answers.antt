use Rattle.serve_turns.specs.shared_book.Words.{view_of}
use Rattle.client_channels.proofs.channel_turns.Rounding.{connects, fails}
use Rattle.client_channels.proofs.channel_turns.rounds.run_aim.Goals as goal

pub returns-in-Ok-clause-goes : goal.returns-in-Ok-clause-goes
returns-in-Ok-clause-goes g c = λ own asked.
    connects g.N.L.Link.told g.N.L.Link.given g.N.L.Link.left g.N.L.Link.written g.N.L.Link.faults g.N.L.Link.ended
    (g.G.Gate.bars c.args.gate.now) c.args.config.now c.args.outside.now.seed
    c.args.course.now.channel g.N.Net.faults c.args.aim.now own (view_of c.args.seat.now).own (view_of c.run_connected.new.seat).own
    c.args.course.now.draws c.run_connected.new.course.draws c.in-Ok.link asked c.in-Ok.ensures.fresh c.run_connected.ensures.uses

pub returns-in-Err-clause-goes : goal.returns-in-Err-clause-goes
returns-in-Err-clause-goes g c = λ own asked.
    fails g.N.L.Link.told g.N.L.Link.given g.N.L.Link.left g.N.L.Link.written g.N.L.Link.faults g.N.L.Link.ended
    (g.G.Gate.bars c.args.gate.now) c.args.config.now c.args.outside.now.seed
    c.args.course.now.channel g.N.Net.faults c.args.aim.now own (view_of c.args.seat.now).own (view_of c.failed.new.seat).own
    c.args.course.now.draws c.failed.new.course.draws c.failed.ensures.fails.0 asked c.in-Err.ensures.cause c.failed.ensures.fails.1
    c.failed.ensures.kept.1
