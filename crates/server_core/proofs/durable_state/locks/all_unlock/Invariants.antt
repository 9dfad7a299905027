use Rattle.std.proofs.Common.{◌≡◌, drop}
use Rattle.spec_exchange.specs.Commands.{all_unlock}
use Rattle.server_core.proofs.durable_state.locks.all_unlock.Given as goal

abbrev pub invariant-loop-one : goal.invariant-loop-one
invariant-loop-one l = all_unlock (drop l.one-index l.elements) ≡ all_unlock l.elements
