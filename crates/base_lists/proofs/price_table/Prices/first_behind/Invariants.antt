use Rattle.std.proofs.Common.{◌+◌, ◌-◌, ◌/◌, ◌<◌, length}
use Rattle.base_lists.specs.price_table.Prices.{Before}
use Rattle.base_lists.proofs.price_table.Prices.first_behind.Given as goal

abbrev pub invariant-loop-next : goal.invariant-loop-next
invariant-loop-next l = (l.from / 128 < l.next) × Before l.limit l.self l.from l.next

abbrev pub decreases-loop-next : goal.decreases-loop-next
decreases-loop-next l = length l.self + 1 - l.next
