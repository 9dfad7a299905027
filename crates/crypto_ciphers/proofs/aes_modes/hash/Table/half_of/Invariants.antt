use Rattle.std.proofs.Common.{◌≡◌, ◌+◌, ◌-◌, ◌*◌}
use Rattle.spec_crypto.specs.ciphers.Ghash.{bits_of, sum_at}
use Rattle.crypto_ciphers.specs.aes_modes.Sums.{raised}
use Rattle.crypto_ciphers.proofs.aes_modes.hash.Table.half_of.Given as goal

abbrev pub invariant-loop-i : goal.invariant-loop-i
invariant-loop-i l = l.z ≡ sum_at (bits_of (4 * l.i) l.half) (raised (4 * (l.last + 1 - l.i)) l.self.h)
