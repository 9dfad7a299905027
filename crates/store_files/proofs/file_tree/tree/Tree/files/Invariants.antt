use Rattle.spec_exchange.specs.State.{Server}
use Rattle.store_files.specs.file_tree.Shown.{ShowsFiles}
use Rattle.store_files.proofs.file_tree.Pairs.{at_text}
use Rattle.store_files.proofs.file_tree.Taking.{AllFound}
use Rattle.store_files.proofs.file_tree.Spelled.{Gathers}
use Rattle.store_files.proofs.file_tree.tree.Tree.files.Given as goal

abbrev pub invariant-loop-path : goal.invariant-loop-path
invariant-loop-path l =
    (goal.iterator-loop-path).can_next l.path-iterator ×
    (goal.iterator-loop-path).is_finite l.path-iterator ×
    AllFound (at_text l.initial.path-iterator) l.path-iterator ×
    ((s : Server) → ShowsFiles l.fn.self s → Gathers s l.initial.path-iterator l.path-iterator l.files.items)
