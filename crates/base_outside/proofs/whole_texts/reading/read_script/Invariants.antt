use Rattle.std.proofs.Common.{◌≡◌, ◌-◌, ◌<◌, vec_len}
use Rattle.std.specs.Io.KnownBytes.{Consumes}
use Rattle.base_outside.proofs.whole_texts.reading.read_script.Given as goal

abbrev pub invariant-loop-source : goal.invariant-loop-source
invariant-loop-source g l = record {
  consumed : Consumes (g.S.Source.left l.initial.source) (g.S.Source.left l.source) l.text.items;
  same : g.S.Source.faults l.source ≡ g.S.Source.faults l.initial.source;
  room : 0 < vec_len l.piece;
}

abbrev pub decreases-loop-source : goal.decreases-loop-source
decreases-loop-source g l = 268435457 - vec_len l.text
