use Rattle.std.proofs.Common.{◌≡◌, ℕ, List, take}
use Rattle.std.specs.BTreeMap.{get_by_text}
use Rattle.store_files.specs.file_tree.Moved.{name_taken, one_by_one}
use Rattle.store_files.proofs.file_tree.new_name.take_keys.Given as goal

abbrev pub invariant-loop-i : goal.invariant-loop-i
invariant-loop-i l = (q : List ℕ) → get_by_text l.paths q ≡ one_by_one name_taken (take l.i l.names) q (get_by_text l.fn.paths q)
