use Rattle.std.proofs.Common.{◌≡◌, ◌++◌}
use Rattle.store_files.proofs.file_tree.ByPath.{numbers}
use Rattle.store_files.proofs.file_tree.tree.Tree.by_path.Given as goal

abbrev pub invariant-loop-file : goal.invariant-loop-file
invariant-loop-file l =
    (goal.iterator-loop-file).can_next l.file-iterator ×
    (goal.iterator-loop-file).is_finite l.file-iterator ×
    (l.order.items ++ numbers l.file-iterator ≡ numbers l.fn.self.paths.entries)
