use Rattle.std.proofs.Common.{◌≡◌, ◌+◌, ◌++◌}
use Rattle.std.specs.VecDeque.{deque_len, deque_capacity}
use Rattle.spec_wire.specs.credits.Ids.{ids_from}
use Rattle.wire_credits.proofs.window.append.Given as goal

abbrev pub invariant-loop-k : goal.invariant-loop-k
invariant-loop-k l = record {
  items : l.ids.items ≡ l.initial.ids.items ++ ids_from l.from l.k;
  len : deque_len l.ids ≡ deque_len l.initial.ids + l.k;
  capacity : deque_capacity l.ids ≡ deque_capacity l.initial.ids;
}
