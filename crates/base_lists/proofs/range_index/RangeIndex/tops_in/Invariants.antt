use Rattle.std.proofs.Common.{◌≡◌, ◌≤◌, ◌-◌}
use Rattle.base_lists.specs.range_index.Shown.{top}
use Rattle.base_lists.proofs.range_index.Listed.{Listing}
use Rattle.base_lists.proofs.range_index.RangeIndex.tops_in.Given as goal

abbrev pub invariant-loop-key : goal.invariant-loop-key
invariant-loop-key l =
    record {
      number : l.number ≡ top l.self l.from;
      behind : l.at ≤ l.from;
      within : l.from ≤ l.last;
      listed : Listing (top l.self) l.at l.size l.from l.fn.into.items l.into.items;
    }

abbrev pub decreases-loop-key : goal.decreases-loop-key
decreases-loop-key l = l.last - l.from
