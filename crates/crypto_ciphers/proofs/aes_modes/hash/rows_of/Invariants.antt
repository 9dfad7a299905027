use Rattle.std.proofs.Common.{◌≡◌, ◌<◌, ◌*◌, ℕ, [], length, get_or}
use Rattle.crypto_ciphers.specs.aes_modes.Sums.{raised, IsProductRow}
use Rattle.crypto_ciphers.proofs.aes_modes.hash.rows_of.Given as goal

abbrev pub invariant-loop-j : goal.invariant-loop-j
invariant-loop-j l = record {
  element : l.v ≡ raised (4 * l.j) l.h;
  known : (k : ℕ) → k < l.j → IsProductRow (get_or l.rows k []) (raised (4 * k) l.h);
  len : length l.rows ≡ 32;
}
