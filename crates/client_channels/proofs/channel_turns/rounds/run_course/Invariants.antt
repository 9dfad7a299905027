use Rattle.serve_turns.specs.shared_book.Words.{view_of, IsSameSeat}
use Rattle.client_channels.specs.channel_turns.Passing.{KeepsChannel}
use Rattle.client_channels.specs.channel_turns.Rounds.{GoesRound, been}
use Rattle.client_channels.proofs.channel_turns.rounds.run_course.Given as goal

abbrev pub invariant-loop : goal.invariant-loop
invariant-loop g l = record {
  same : IsSameSeat l.initial.seat l.seat;
  kept : KeepsChannel l.initial.course l.course;
  goes : GoesRound g.N.L.Link.told g.N.L.Link.given g.N.L.Link.left g.N.L.Link.written g.N.L.Link.faults g.N.L.Link.ended
      (g.G.Gate.bars l.gate) l.config l.outside.seed l.initial.course.channel g.N.Net.faults
      (been (view_of l.initial.seat).own l.initial.course.draws) (been (view_of l.seat).own l.course.draws);
}
