use Rattle.std.proofs.Common.{◌≡◌, ◌++◌}
use Rattle.store_opens.proofs.open_table.told.listed.Given as goal

abbrev pub invariant-loop-id : goal.invariant-loop-id
invariant-loop-id l = l.ids.items ++ l.id-iterator ≡ l.kept.keys
