use Rattle.std.proofs.Common.{◌≡◌, ℕ, nat_eq}
use Rattle.std.specs.HashMap.{get, hash_map_len}
use Rattle.store_files.specs.file_tree.Moved.{with_names}
use Rattle.store_files.proofs.file_tree.new_name.put_names.Given as goal

abbrev pub invariant-loop-name : goal.invariant-loop-name
invariant-loop-name l = ((f : ℕ) → get nat_eq l.rows f ≡ with_names l.yielded f (get nat_eq l.fn.rows f))
    × (hash_map_len l.rows ≡ hash_map_len l.fn.rows)
