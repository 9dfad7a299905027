use Rattle.serve_turns.specs.shared_book.Words.{view_of, IsSameSeat}
use Rattle.client_channels.specs.channel_turns.Links.{Passes, on}
use Rattle.client_channels.specs.channel_turns.Passing.{KeepsCourse}
use Rattle.client_channels.specs.channel_turns.Sides.{Runs}
use Rattle.client_channels.specs.declared.channel_turns.starting.Aim.{Aim}
use Rattle.client_channels.proofs.channel_turns.lines.run_line.Given as goal

abbrev pub invariant-loop : goal.invariant-loop
invariant-loop g l = record {
  same : IsSameSeat l.initial.seat l.seat;
  kept : KeepsCourse l.initial.course l.course;
  passes : (a : Aim) → Passes g.L.Link.told g.L.Link.given g.L.Link.left g.L.Link.written g.L.Link.faults g.L.Link.ended
      (g.G.Gate.bars l.gate) a l.initial.course.channel
      (on (Runs l.initial.line) l.initial.wire.stream l.initial.wire.link (view_of l.initial.seat).own)
      (on (Runs l.line) l.wire.stream l.wire.link (view_of l.seat).own);
}
