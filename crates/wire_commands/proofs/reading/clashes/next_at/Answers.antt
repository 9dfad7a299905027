use Rattle.std.proofs.Common.{arith}
use Rattle.wire_commands.proofs.reading.Clashing.{first_is_long}
use Rattle.wire_commands.proofs.reading.clashes.next_at.Goals as goal

pub u32_at-requires : goal.u32_at-requires
u32_at-requires c = omega (arith, first_is_long c.args.m.now c.requires)
