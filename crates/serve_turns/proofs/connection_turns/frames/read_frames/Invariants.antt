use Rattle.std.proofs.Common.{◌≡◌, ◌<◌, [], vec_len}
use Rattle.serve_turns.specs.shared_book.Words.{view_of, IsSameSeat}
use Rattle.spec_wire.specs.messages.Frames.{Waits, front}
use Rattle.serve_turns.specs.connection_turns.Passing.{GoesOn}
use Rattle.serve_turns.proofs.connection_turns.frames.read_frames.Given as goal

abbrev pub invariant-loop : goal.invariant-loop
invariant-loop g l = record {
  same : IsSameSeat l.initial.seat l.seat;
  on : GoesOn g.L.Link.told g.L.Link.given g.L.Link.left g.L.Link.written g.L.Link.faults
      (view_of l.initial.seat) l.initial.state [] l.initial.link (view_of l.seat) l.state l.stream l.link;
  waits : front l.stream ≡ Waits;
  room : 0 < vec_len l.piece;
}
