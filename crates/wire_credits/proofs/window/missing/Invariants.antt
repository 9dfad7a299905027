use Rattle.std.proofs.Common.{◌≡◌, ◌+◌, take, drop}
use Rattle.spec_wire.specs.credits.Ids.{ids_from}
use Rattle.wire_credits.proofs.window.missing.Given as goal

abbrev pub invariant-loop-k : goal.invariant-loop-k
invariant-loop-k l = record {
  wanted : l.wanted ≡ l.first + l.k;
  run : take l.k (drop l.place l.ids.items) ≡ ids_from l.first l.k;
}
