use Rattle.std.proofs.Common.{◌≡◌, ◌==◌, ℕ, false, List, ◌∷◌, length, take}
use Rattle.spec_exchange.specs.State.{Server}
use Rattle.spec_exchange.specs.Table.{has}
use Rattle.store_files.specs.file_tree.Shown.{ShowsFiles}
use Rattle.store_files.specs.file_tree.Moved.{AreMovedNames, AreWithin, has_name}
use Rattle.store_files.proofs.file_tree.tree.Tree.names_behind.Given as goal

abbrev pub invariant-loop-i : goal.invariant-loop-i
invariant-loop-i l = (s : Server) (old : List ℕ) → ShowsFiles l.fn.self s → (length old == 0) ≡ false → l.fn.front
    ≡ length old → AreWithin (l.fn.file ∷ l.fn.below) s old
    → AreMovedNames l.names.items s.entries s.directory old l.fn.to
    × ((g : ℕ) → has_name l.names.items g ≡ has g (l.fn.file ∷ take l.i l.fn.below))
