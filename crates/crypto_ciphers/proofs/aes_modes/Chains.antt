-- One more block of a chain or of a hash.
use Rattle.std.proofs.Common.{◌≡◌, ℕ, suc, ◌+◌, List, [], refl, arith}
use Rattle.std.specs.Int.Bits.{bit_xor}
use Rattle.std.specs.Int.{w128, from_be_bytes}
use Rattle.spec_crypto.specs.ciphers.Aes.{cipher, block_sum}
use Rattle.spec_crypto.specs.ciphers.Blocks.{block_at, block_count, chained}
use Rattle.spec_crypto.specs.ciphers.Ccm.{prefixed}
use Rattle.spec_crypto.specs.ciphers.Ghash.{product, hashed}

pub chained_none : (ws : List (List ℕ)) (y m : List ℕ) → y ≡ chained ws y m 0
unfolding chained
chained_none ws y m = refl

pub chained_more : (ws : List (List ℕ)) (y m : List ℕ) (i : ℕ) → cipher ws (block_sum (chained ws y m i) (block_at m i))
    ≡ chained ws y m (i + 1)
unfolding chained
chained_more ws y m i = let k : i + 1 ≡ suc i = omega arith in rw k refl

pub hashed_none : (h y : ℕ) (m : List ℕ) → y ≡ hashed h y m 0
unfolding hashed
hashed_none h y m = refl

pub hashed_more : (h y : ℕ) (m : List ℕ) (i : ℕ) → product (bit_xor (hashed h y m i) (from_be_bytes w128 (block_at m
    i))) h ≡ hashed h y m (i + 1)
unfolding hashed
hashed_more h y m i = let k : i + 1 ≡ suc i = omega arith in rw k refl

-- without additional data nothing is chained
pub prefixed_none : (ws : List (List ℕ)) (y added : List ℕ) → added ≡ [] → y ≡ chained ws y (prefixed added) (block_count (prefixed added))
unfolding chained prefixed
prefixed_none ws y added e = rw e refl
