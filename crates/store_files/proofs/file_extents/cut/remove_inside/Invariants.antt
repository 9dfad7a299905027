use Rattle.std.proofs.Common.{◌≡◌, ◌≤◌, ◌<◌, ◌+◌, ◌-◌, List, ℕ, length, Some, Vec, Global}
use Rattle.std.specs.Prelude.{vec_items}
use Rattle.std.specs.Ordering.{nat_cmp}
use Rattle.std.specs.BTreeMap.{get, btree_map_len}
use Rattle.store_files.specs.file_extents.Shown.{Shows, Agrees}
use Rattle.store_files.proofs.file_extents.cut.remove_inside.Given as goal

abbrev pub invariant-loop-place : goal.invariant-loop-place
invariant-loop-place l =
    (l.from < l.end)
    × ((k : ℕ) (p : Vec ℕ Global) → l.from < k → k < l.end → get nat_cmp l.pieces k ≡ Some p → get nat_cmp l.initial.pieces k ≡ Some p)
    × ((k : ℕ) → k ≤ l.from → get nat_cmp l.pieces k ≡ get nat_cmp l.initial.pieces k)
    × ((k : ℕ) → l.end ≤ k → get nat_cmp l.pieces k ≡ get nat_cmp l.initial.pieces k)
    × ((c : List ℕ) → ((k : ℕ) (p : Vec ℕ Global) → get nat_cmp l.initial.pieces k ≡ Some p → l.from < k → k < l.end
    → k + length p.items ≤ l.end)
    → Shows vec_items (λ k. get nat_cmp l.initial.pieces k) c
    → (a : List ℕ) × Agrees l.from (l.end - l.from) a c × Shows vec_items (λ k. get nat_cmp l.pieces k) a)

abbrev pub decreases-loop-place : goal.decreases-loop-place
decreases-loop-place l = btree_map_len l.pieces
