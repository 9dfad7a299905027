use Rattle.std.proofs.Common.{◌≡◌, ◌-◌, ◌≤◌, drop}
use Rattle.std.specs.VecDeque.{deque_len, deque_capacity}
use Rattle.wire_credits.proofs.window.drop_front.Given as goal

abbrev pub invariant-loop-ids : goal.invariant-loop-ids
invariant-loop-ids l = record {
  left : l.rest ≤ deque_len l.ids;
  fewer : deque_len l.ids ≤ deque_len l.initial.ids;
  items : l.ids.items ≡ drop (deque_len l.initial.ids - deque_len l.ids) l.initial.ids.items;
  capacity : deque_capacity l.ids ≡ deque_capacity l.initial.ids;
}

abbrev pub decreases-loop-ids : goal.decreases-loop-ids
decreases-loop-ids l = deque_len l.ids
