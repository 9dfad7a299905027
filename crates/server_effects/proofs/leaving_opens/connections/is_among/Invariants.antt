use Rattle.std.proofs.Common.{◌≡◌, drop}
use Rattle.spec_exchange.specs.Table.{has}
use Rattle.server_effects.proofs.leaving_opens.connections.is_among.Given as goal

abbrev pub invariant-loop-one : goal.invariant-loop-one
invariant-loop-one l = has l.connection (drop l.one-index l.connections) ≡ has l.connection l.connections
