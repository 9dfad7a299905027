use Rattle.std.proofs.Common.{◌≡◌, ◌-◌, ◌≤◌, length, take}
use Rattle.std.specs.Io.KnownBytes.{Appends}
use Rattle.base_outside.proofs.whole_texts.writing.write_all.Given as goal

abbrev pub invariant-loop-at : goal.invariant-loop-at
invariant-loop-at g l = record {
  within : l.at ≤ length l.text;
  written : Appends (g.O.Sink.written l.initial.sink) (g.O.Sink.written l.sink) (take l.at l.text);
  same : g.O.Sink.faults l.sink ≡ g.O.Sink.faults l.initial.sink;
}

abbrev pub decreases-loop-at : goal.decreases-loop-at
decreases-loop-at g l = length l.text - l.at
