-- All snapshots together have few bytes.
use Rattle.std.proofs.Common.{ℕ, ◌+◌, ◌*◌, ◌≤◌, List, [], ◌∷◌, arith}
use Rattle.law_snapshots.specs.drafts.Cost.{AreWorthwhile, Rewriting, all_appended, all_snapshots}

one_more : (last new appended snapshots rest : ℕ) → 3 * new ≤ 2 * (last + appended) → snapshots ≤ 2 * (new + rest)
    → new + snapshots ≤ 2 * (last + (appended + rest))
one_more last new appended snapshots rest a b = omega (arith, a, b)

none_yet : (last : ℕ) → 0 ≤ 2 * (last + 0)
none_yet last = omega arith

pub twice : (last : ℕ) (xs : List Rewriting) → AreWorthwhile last xs → all_snapshots xs ≤ 2 * (last + all_appended xs)
twice last [] h = none_yet last
twice last (x ∷ xs) h =
    one_more last x.snapshot x.appended (all_snapshots xs) (all_appended xs) h.0 (twice x.snapshot xs h.1)
