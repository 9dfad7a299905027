use Rattle.std.proofs.Common.{◌≡◌, ◌-◌, ◌≤◌, [], length, take, drop}
use Rattle.spec_exchange.specs.Texts.{components_from}
use Rattle.store_files.proofs.names.names.are_components.Given as goal

abbrev pub invariant-loop-i : goal.invariant-loop-i
invariant-loop-i l =
    (l.first ≤ l.i) × (l.i ≤ length l.path)
    × (components_from [] l.path ≡ components_from (take (l.i - l.first) (drop l.first l.path)) (drop l.i l.path))

abbrev pub decreases-loop-i : goal.decreases-loop-i
decreases-loop-i l = length l.path - l.i
