use Rattle.std.proofs.Common.{◌≡◌, ◌++◌, List, ℕ, length}
use Rattle.client_channels.specs.channel_links.Coming.{Gave}
use Rattle.client_channels.proofs.channel_links.taking.take_frame.Given as goal

abbrev pub invariant-loop : goal.invariant-loop
invariant-loop g l = record {
  room : length l.piece ≡ length l.initial.piece;
  fed : (came : List ℕ) × Gave g.L.Link.told g.L.Link.given g.L.Link.left g.L.Link.written g.L.Link.faults g.L.Link.ended l.initial.link
      l.link came
      × (l.stream ≡ l.initial.stream ++ came);
}
