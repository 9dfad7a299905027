use Rattle.std.proofs.Common.{◌≡◌, ◌||◌, ℕ}
use Rattle.std.specs.String.{string_bytes}
use Rattle.spec_exchange.specs.Table.{has}
use Rattle.store_files.specs.file_tree.Keys.{below_in}
use Rattle.store_files.proofs.file_tree.Pairs.{InOrder, AreFrom}
use Rattle.store_files.proofs.file_tree.rename.files_from.Given as goal

abbrev pub invariant-loop-key : goal.invariant-loop-key
invariant-loop-key l =
    (goal.iterator-loop-key).can_next l.key-iterator ×
    (goal.iterator-loop-key).is_finite l.key-iterator ×
    ((g : ℕ) → below_in (string_bytes l.fn.front) l.fn.paths.entries g
    ≡ (has g l.files.items || below_in (string_bytes l.fn.front) l.key-iterator g)) ×
    InOrder l.key-iterator × AreFrom (string_bytes l.fn.front) l.key-iterator
