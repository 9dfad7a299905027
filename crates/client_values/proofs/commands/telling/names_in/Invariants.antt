use Rattle.std.proofs.Common.{◌≡◌, map}
use Rattle.spec_exchange.specs.Operations.{names_in}
use Rattle.wire_commands.specs.values.Meaning.{named_of}
use Rattle.client_values.proofs.commands.telling.names_in.Given as goal

abbrev pub invariant-loop-entry : goal.invariant-loop-entry
invariant-loop-entry l = l.names ≡ names_in (map named_of l.yielded)
