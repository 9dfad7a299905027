-- Bytes of numbers that are drawn from.
use Rattle.std.proofs.Common.{arith}
use Rattle.std.proofs.lemmas.List.{append-nil}
use Rattle.wire_bytes.proofs.byte_lists.Endian.{le_4, le_8}

pub ruleset numbers_drawn = (arith, le_4, le_8, append-nil)
