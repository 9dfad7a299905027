use Rattle.std.proofs.Common.{ℕ, ◌<◌, refl, subst, sym, ◌∙◌}
use Rattle.serve_turns.specs.shared_book.Words.{view_of}
use Rattle.client_channels.proofs.channel_turns.Rounding.{round_more, round_none}
use Rattle.client_channels.specs.channel_turns.Rounds.{Round, been}
use Rattle.client_channels.proofs.channel_turns.rounds.run_course.Goals as goal

pub loop-init : goal.loop-init
loop-init g c = record {
  same = (refl, refl, refl);
  kept = (refl, refl);
  goes = round_none g.N.L.Link.told g.N.L.Link.given g.N.L.Link.left g.N.L.Link.written g.N.L.Link.faults g.N.L.Link.ended
      (g.G.Gate.bars c.args.gate.now) c.args.config.now c.args.outside.now.seed
      c.args.course.now.channel g.N.Net.faults (been (view_of c.args.seat.now).own c.args.course.now.draws);
}

pub go_round-requires-clause-own : goal.go_round-requires-clause-own
go_round-requires-clause-own g c = λ lifetimes bounds. c.loop.invariant.same.0 ∙ c.requires.own

pub go_round-requires-clause-room : goal.go_round-requires-clause-room
go_round-requires-clause-room g c = λ lifetimes bounds. subst (λ (n : ℕ). 0 < n) (sym c.loop.invariant.kept.1) c.requires.room

pub loop-preserved : goal.loop-preserved
loop-preserved g c =
    let i = c.loop.invariant in
    let same = c.go_round.ensures.same in
    let kept = c.go_round.ensures.kept in
    record {
      same = (same.0 ∙ i.same.0, same.1 ∙ i.same.1, same.2 ∙ i.same.2);
      kept = (kept.0 ∙ i.kept.0, kept.1 ∙ i.kept.1);
      goes =
          round_more g.N.L.Link.told g.N.L.Link.given g.N.L.Link.left g.N.L.Link.written g.N.L.Link.faults g.N.L.Link.ended
          (g.G.Gate.bars c.args.gate.now) c.args.config.now c.args.outside.now.seed
          c.args.course.now.channel g.N.Net.faults (been (view_of c.args.seat.now).own c.args.course.now.draws)
          (been (view_of c.loop.seat).own c.loop.course.draws) (been (view_of c.go_round.new.seat).own c.go_round.new.course.draws)
          c.loop.invariant.goes
          (subst (λ (n : ℕ). Round g.N.L.Link.told g.N.L.Link.given g.N.L.Link.left g.N.L.Link.written g.N.L.Link.faults g.N.L.Link.ended
          (g.G.Gate.bars c.args.gate.now) c.args.config.now
          c.args.outside.now.seed n g.N.Net.faults (been (view_of c.loop.seat).own c.loop.course.draws)
          (been (view_of c.go_round.new.seat).own c.go_round.new.course.draws)) c.loop.invariant.kept.0 c.go_round.ensures.goes);
    }

pub returns-in-Ended-clause-goes : goal.returns-in-Ended-clause-goes
returns-in-Ended-clause-goes g c =
    round_more g.N.L.Link.told g.N.L.Link.given g.N.L.Link.left g.N.L.Link.written g.N.L.Link.faults g.N.L.Link.ended
    (g.G.Gate.bars c.args.gate.now) c.args.config.now c.args.outside.now.seed
    c.args.course.now.channel g.N.Net.faults (been (view_of c.args.seat.now).own c.args.course.now.draws)
    (been (view_of c.loop.seat).own c.loop.course.draws) (been (view_of c.go_round.new.seat).own c.go_round.new.course.draws)
    c.loop.invariant.goes
    (subst (λ (n : ℕ). Round g.N.L.Link.told g.N.L.Link.given g.N.L.Link.left g.N.L.Link.written g.N.L.Link.faults g.N.L.Link.ended
    (g.G.Gate.bars c.args.gate.now) c.args.config.now
    c.args.outside.now.seed n g.N.Net.faults (been (view_of c.loop.seat).own c.loop.course.draws)
    (been (view_of c.go_round.new.seat).own c.go_round.new.course.draws)) c.loop.invariant.kept.0 c.go_round.ensures.goes)
