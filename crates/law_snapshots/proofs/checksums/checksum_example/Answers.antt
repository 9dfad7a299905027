use Rattle.std.proofs.Common.{refl}
use Rattle.spec_journal.specs.Castagnoli.{coefficients, times_x, times_power, behind_byte, behind_bytes, crc32c}
use Rattle.law_snapshots.proofs.checksums.checksum_example.Goals as goal

pub returns : goal.returns
unfolding coefficients times_x times_power behind_byte behind_bytes crc32c
returns c = record { text = refl; zeros = refl; ones = refl; rising = refl; falling = refl; command = refl }
