use Rattle.std.proofs.Common.{◌≡◌, List, ℕ, length}
use Rattle.std.specs.Prelude.{vec_items}
use Rattle.std.specs.Ordering.{nat_cmp}
use Rattle.std.specs.BTreeMap.{get, btree_map_len}
use Rattle.store_files.specs.file_extents.Shown.{Reaches}
use Rattle.store_files.proofs.file_extents.cut.remove_from.Given as goal

abbrev pub invariant-loop-place : goal.invariant-loop-place
invariant-loop-place l = (c : List ℕ) → length c ≡ l.n → Reaches vec_items (λ k. get nat_cmp l.initial.pieces k) c
    → Reaches vec_items (λ k. get nat_cmp l.pieces k) c

abbrev pub decreases-loop-place : goal.decreases-loop-place
decreases-loop-place l = btree_map_len l.pieces
