use Rattle.std.proofs.Common.{◌≡◌, ◌-◌, ◌≤◌, length, drop}
use Rattle.std.specs.Str.{bytes_eq}
use Rattle.store_files.specs.file_tree.Shown.{folded}
use Rattle.store_files.proofs.file_tree.find.is_upper_of.Given as goal

abbrev pub invariant-loop-i : goal.invariant-loop-i
invariant-loop-i l =
    (length l.key ≡ length l.path) × (l.i ≤ length l.key)
    × (bytes_eq (folded l.path) l.key ≡ bytes_eq (drop l.i (folded l.path)) (drop l.i l.key))

abbrev pub decreases-loop-i : goal.decreases-loop-i
decreases-loop-i l = length l.key - l.i
