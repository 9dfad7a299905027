use Rattle.std.specs.BTreeMap.{get_by_text}
use Rattle.store_files.proofs.file_tree.Spelled.{Spells}
use Rattle.store_files.proofs.file_tree.tree.Tree.spelled.Given as goal

abbrev pub invariant-loop-file : goal.invariant-loop-file
invariant-loop-file l =
    (goal.iterator-loop-file).can_next l.file-iterator ×
    (goal.iterator-loop-file).is_finite l.file-iterator ×
    Spells l.fn.self l.file-iterator (λ p. get_by_text l.spelled p)
