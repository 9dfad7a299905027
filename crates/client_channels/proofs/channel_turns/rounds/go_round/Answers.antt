use Rattle.std.proofs.Common.{refl}
use Rattle.serve_turns.specs.shared_book.Words.{view_of}
use Rattle.client_channels.proofs.channel_turns.Rounding.{asked, rests}
use Rattle.client_book.specs.declared.turn.Told.TheVariants as tells
use Rattle.client_channels.proofs.channel_turns.rounds.go_round.Goals as goal

pub returns-in-Make-clause-goes : goal.returns-in-Make-clause-goes
returns-in-Make-clause-goes g c =
    c.run_aim.ensures.goes (view_of c.args.seat.now).own
    (asked c.args.course.now.channel (view_of c.args.seat.now).own (view_of c.ask.new.seat).own c.args.course.now.first
    c.args.course.now.shuns
    (tells.Make c.in-Make.previous) c.in-Make.ensures.turns)

pub returns-in-Bind-clause-goes : goal.returns-in-Bind-clause-goes
returns-in-Bind-clause-goes g c =
    c.run_aim-in-Bind.ensures.goes (view_of c.args.seat.now).own
    (asked c.args.course.now.channel (view_of c.args.seat.now).own (view_of c.ask.new.seat).own c.args.course.now.first
    c.args.course.now.shuns
    (tells.Bind c.in-Bind.bound c.in-Bind.number) c.in-Bind.ensures.turns)

pub returns-in-Nothing-clause-goes : goal.returns-in-Nothing-clause-goes
returns-in-Nothing-clause-goes g c =
    rests g.N.L.Link.told g.N.L.Link.given g.N.L.Link.left g.N.L.Link.written g.N.L.Link.faults g.N.L.Link.ended
    (g.G.Gate.bars c.args.gate.now) c.args.config.now c.args.outside.now.seed
    c.args.course.now.channel g.N.Net.faults (view_of c.args.seat.now).own (view_of c.ask.new.seat).own c.args.course.now.draws
    c.args.course.now.draws
    (asked c.args.course.now.channel (view_of c.args.seat.now).own (view_of c.ask.new.seat).own c.args.course.now.first
    c.args.course.now.shuns
    tells.Nothing c.in-Nothing.ensures.turns) refl

pub returns-in-Send-clause-goes : goal.returns-in-Send-clause-goes
returns-in-Send-clause-goes g c =
    rests g.N.L.Link.told g.N.L.Link.given g.N.L.Link.left g.N.L.Link.written g.N.L.Link.faults g.N.L.Link.ended
    (g.G.Gate.bars c.args.gate.now) c.args.config.now c.args.outside.now.seed
    c.args.course.now.channel g.N.Net.faults (view_of c.args.seat.now).own (view_of c.ask.new.seat).own c.args.course.now.draws
    c.args.course.now.draws
    (asked c.args.course.now.channel (view_of c.args.seat.now).own (view_of c.ask.new.seat).own c.args.course.now.first
    c.args.course.now.shuns
    (tells.Send c.in-Send._request) c.in-Send.ensures.turns) refl

pub returns-in-Close-clause-goes : goal.returns-in-Close-clause-goes
returns-in-Close-clause-goes g c =
    rests g.N.L.Link.told g.N.L.Link.given g.N.L.Link.left g.N.L.Link.written g.N.L.Link.faults g.N.L.Link.ended
    (g.G.Gate.bars c.args.gate.now) c.args.config.now c.args.outside.now.seed
    c.args.course.now.channel g.N.Net.faults (view_of c.args.seat.now).own (view_of c.ask.new.seat).own c.args.course.now.draws
    c.args.course.now.draws
    (asked c.args.course.now.channel (view_of c.args.seat.now).own (view_of c.ask.new.seat).own c.args.course.now.first
    c.args.course.now.shuns
    tells.Close c.in-Close.ensures.turns) refl

pub returns-in-Done-clause-goes : goal.returns-in-Done-clause-goes
returns-in-Done-clause-goes g c =
    rests g.N.L.Link.told g.N.L.Link.given g.N.L.Link.left g.N.L.Link.written g.N.L.Link.faults g.N.L.Link.ended
    (g.G.Gate.bars c.args.gate.now) c.args.config.now c.args.outside.now.seed
    c.args.course.now.channel g.N.Net.faults (view_of c.args.seat.now).own (view_of c.ask.new.seat).own c.args.course.now.draws
    c.args.course.now.draws
    (asked c.args.course.now.channel (view_of c.args.seat.now).own (view_of c.ask.new.seat).own c.args.course.now.first
    c.args.course.now.shuns
    tells.Done c.in-Done.ensures.turns) refl

pub returns-in-Stop-clause-goes : goal.returns-in-Stop-clause-goes
returns-in-Stop-clause-goes g c =
    rests g.N.L.Link.told g.N.L.Link.given g.N.L.Link.left g.N.L.Link.written g.N.L.Link.faults g.N.L.Link.ended
    (g.G.Gate.bars c.args.gate.now) c.args.config.now c.args.outside.now.seed
    c.args.course.now.channel g.N.Net.faults (view_of c.args.seat.now).own (view_of c.ask.new.seat).own c.args.course.now.draws
    c.args.course.now.draws
    (asked c.args.course.now.channel (view_of c.args.seat.now).own (view_of c.ask.new.seat).own c.args.course.now.first
    c.args.course.now.shuns
    tells.Stop c.in-Stop.ensures.turns) refl
