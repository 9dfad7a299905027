-- The lengths of numbers that are written.
use Rattle.std.proofs.Common.{arith, length-append}
use Rattle.spec_wire.proofs.messages.Numbers.{length-le}

pub ruleset lengths = (arith, length-append, length-le)
