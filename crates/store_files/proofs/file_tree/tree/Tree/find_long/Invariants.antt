use Rattle.std.proofs.Common.{◌≡◌}
use Rattle.std.specs.BTreeMap.{get_by_text}
use Rattle.std.specs.Map.{lookup}
use Rattle.std.specs.Ordering.{is_eq, nat_cmp}
use Rattle.std.specs.Cmp.Lexicographic.{slice_cmp}
use Rattle.std.specs.String.{string_bytes}
use Rattle.store_files.specs.file_tree.Shown.{folded}
use Rattle.store_files.proofs.file_tree.tree.Tree.find_long.Given as goal

abbrev pub invariant-loop-key : goal.invariant-loop-key
invariant-loop-key l =
    (goal.iterator-loop-key).can_next l.key-iterator ×
    (goal.iterator-loop-key).is_finite l.key-iterator ×
    (get_by_text l.fn.self.paths (folded l.fn.path)
    ≡ lookup (λ k. is_eq (slice_cmp nat_cmp (folded l.fn.path) (string_bytes k))) l.key-iterator)
