use Rattle.std.proofs.Common.{refl}
use Rattle.spec_wire.specs.messages.Places.{le}
use Rattle.spec_journal.specs.Castagnoli.{coefficients, times_x, times_power, behind_byte, behind_bytes, crc32c}
use Rattle.law_snapshots.proofs.checksums.summed_example.Goals as goal

pub returns : goal.returns
unfolding coefficients times_x times_power behind_byte behind_bytes crc32c le
returns c = refl
