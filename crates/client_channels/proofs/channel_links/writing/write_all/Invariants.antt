use Rattle.std.proofs.Common.{◌≡◌, ◌-◌, ◌≤◌, [], length, take}
use Rattle.serve_turns.specs.link_serving.Passage.{Passed}
use Rattle.client_channels.proofs.channel_links.writing.write_all.Given as goal

abbrev pub invariant-loop-at : goal.invariant-loop-at
invariant-loop-at g l = record {
  within : l.at ≤ length l.bytes;
  written : Passed g.L.Link.told g.L.Link.given g.L.Link.left g.L.Link.written l.initial.link l.link [] (take l.at l.bytes);
  same : g.L.Link.faults l.link ≡ g.L.Link.faults l.initial.link;
}

abbrev pub decreases-loop-at : goal.decreases-loop-at
decreases-loop-at g l = length l.bytes - l.at
