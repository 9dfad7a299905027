use Rattle.std.proofs.Common.{◌≡◌, ◌-◌, ◌≤◌, ◌<◌, ℕ, [], length, get_or}
use Rattle.access_lists.specs.Index.{reached}
use Rattle.access_lists.proofs.rules.places_of.Given as goal

abbrev pub invariant-loop-place : goal.invariant-loop-place
invariant-loop-place l =
    (l.place ≤ 64) × (length l.places ≡ l.place) × ((h : ℕ) → h < l.place → get_or l.places h [] ≡ reached h 0 l.rules)

abbrev pub decreases-loop-place : goal.decreases-loop-place
decreases-loop-place l = 64 - l.place
