use Rattle.serve_turns.specs.shared_book.Words.{view_of, IsSameSeat}
use Rattle.client_channels.specs.channel_turns.Links.{Passes, on}
use Rattle.client_channels.specs.channel_turns.Passing.{KeepsCourse}
use Rattle.client_channels.specs.channel_turns.Sides.{Talks}
use Rattle.client_channels.proofs.channel_turns.dialogs.talk.Given as goal

abbrev pub invariant-loop : goal.invariant-loop
invariant-loop g l = record {
  same : IsSameSeat l.initial.seat l.seat;
  kept : KeepsCourse l.initial.course l.course;
  passes : Passes g.L.Link.told g.L.Link.given g.L.Link.left g.L.Link.written g.L.Link.faults g.L.Link.ended
      (g.G.Gate.bars l.gate) l.aim l.initial.course.channel
      (on (Talks l.initial.dialog) l.initial.wire.stream l.initial.wire.link (view_of l.initial.seat).own)
      (on (Talks l.dialog) l.wire.stream l.wire.link (view_of l.seat).own);
}
