use Rattle.std.proofs.Common.{◌-◌, ◌≤◌, ◌≡◌, List, ℕ, take, drop}
use Rattle.store_files.specs.file_extents.Kept.{IsContent}
use Rattle.store_files.proofs.file_extents.extents.Extents.read.Given as goal

abbrev pub invariant-loop-place : goal.invariant-loop-place
invariant-loop-place l = (l.at ≤ l.place) × (l.place ≤ l.end) × (l.end ≤ l.self.len)
    × ((c : List ℕ) → IsContent l.self c → l.out.items ≡ take (l.place - l.at) (drop l.at c))

abbrev pub decreases-loop-place : goal.decreases-loop-place
decreases-loop-place l = l.end - l.place
