use Rattle.std.proofs.Common.{◌≡◌, ◌<◌, ℕ, [], length, get_or}
use Rattle.crypto_ciphers.specs.aes_block.Planes.{ArePlanesOfKey}
use Rattle.crypto_ciphers.proofs.aes_block.eight.plane_keys_of.Given as goal

abbrev pub invariant-loop-r : goal.invariant-loop-r
invariant-loop-r l = record {
  known : (k : ℕ) → k < l.r → ArePlanesOfKey l.words k (get_or l.keys k []);
  len : length l.keys ≡ 15;
}
