use Rattle.std.proofs.Common.{◌≡◌, drop}
use Rattle.spec_exchange.specs.CheckSetup.{tree_in}
use Rattle.server_checks.proofs.session_table.look.pipes_of.Given as goal

abbrev pub invariant-loop-one : goal.invariant-loop-one
invariant-loop-one l = tree_in (drop l.one-index l.trees) l.tree ≡ tree_in l.trees l.tree
