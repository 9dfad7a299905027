use Rattle.std.proofs.Common.{◌≡◌, ◌++◌}
use Rattle.store_opens.proofs.open_table.table.Opens.guids.Given as goal

abbrev pub invariant-loop-pair : goal.invariant-loop-pair
invariant-loop-pair l = l.guids.items ++ l.pair-iterator ≡ l.self.expired.keys
