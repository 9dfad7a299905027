use Rattle.std.proofs.Common.{◌≤◌, ◌-◌}
use Rattle.std.specs.Ordering.{nat_cmp}
use Rattle.std.specs.BTreeMap.{get}
use Rattle.store_files.specs.file_extents.Parts.{AreEmpty}
use Rattle.store_files.proofs.file_extents.extents.Extents.filled_from.Given as goal

abbrev pub invariant-loop-from : goal.invariant-loop-from
invariant-loop-from l = (l.at ≤ l.from) × AreEmpty (λ q. get nat_cmp l.self.pieces q) l.at l.from

abbrev pub decreases-loop-from : goal.decreases-loop-from
decreases-loop-from l = l.end - l.from
