use Rattle.std.proofs.Common.{◌≡◌, ◌<◌, length}
use Rattle.base_lists.specs.watch_lists.Listed.{watches}
use Rattle.base_lists.proofs.watch_lists.links.place_of.Given as goal

abbrev pub invariant-loop-at : goal.invariant-loop-at
invariant-loop-at l = record { watch : watches l.links l.at ≡ l.holder; higher : l.index < l.at; inside : l.at < length l.links }

abbrev pub decreases-loop-at : goal.decreases-loop-at
decreases-loop-at l = l.at
