use Rattle.std.proofs.Common.{◌≡◌, ℕ, List, take, nat_eq}
use Rattle.std.specs.HashMap.{get}
use Rattle.std.specs.BTreeMap.{get_by_text}
use Rattle.store_files.specs.file_tree.Moved.{moved_to, one_by_one}
use Rattle.store_files.proofs.file_tree.new_name.move_keys.Given as goal

abbrev pub invariant-loop-i : goal.invariant-loop-i
invariant-loop-i l = (q : List ℕ) → get_by_text l.paths q ≡ one_by_one (moved_to (λ f. get nat_eq l.rows f))
    (take l.i l.names) q (get_by_text l.fn.paths q)
