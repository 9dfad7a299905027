use Rattle.std.proofs.Common.{◌≡◌, ◌++◌}
use Rattle.spec_exchange.specs.State.{Server}
use Rattle.spec_exchange.specs.Effects.{tree_opens_in}
use Rattle.store_opens.specs.open_table.Shown.{ShowsOpens}
use Rattle.store_opens.proofs.open_table.table.Opens.all_of_tree.Given as goal

abbrev pub invariant-loop-id : goal.invariant-loop-id
invariant-loop-id l = (s : Server) → ShowsOpens l.self s → l.found.items
    ++ tree_opens_in s l.session l.tree l.id-iterator ≡ tree_opens_in s l.session l.tree l.opens.keys
