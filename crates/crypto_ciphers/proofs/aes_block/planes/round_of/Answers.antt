use Rattle.std.proofs.Common.{map}
use Rattle.std.specs.Int.Bits.{bit_xor}
use lib.Lanes.{zip2}
use Rattle.spec_crypto.specs.ciphers.Field.{sbox}
use Rattle.crypto_ciphers.specs.aes_block.Rounds.{block_round}
use Rattle.crypto_ciphers.specs.aes_block.Planes.{rows, mixed_by_pairs}
use Rattle.crypto_ciphers.proofs.aes_block.PlaneRounds.{vectors_of, substituted_vector, rows_vector, mixed_vector, planes_same, plane_round}
use Rattle.crypto_ciphers.proofs.aes_block.planes.round_of.Goals as goal

pub returns : goal.returns
returns c =
    λ s k v pk hq hk.
    let v1 = vectors_of (map sbox) s v substituted_vector in
    let v2 = vectors_of (λ x. rows (map sbox x)) s v (λ x p. rows_vector (map sbox x) (substituted_vector x p)) in
    let vk = vectors_of (λ x. k) s v (λ x p. pk) in
    let replaced = c.rows_of.ensures s (map sbox) v1 (c.substituted.ensures s v hq) in
    let v3 = vectors_of (λ x. mixed_by_pairs (rows (map sbox x))) s v (λ x p. mixed_vector (rows (map sbox x)) (rows_vector (map sbox x)
    (substituted_vector x p))) in
    let mixes = c.mixed_of.ensures s (λ x. rows (map sbox x)) v2 replaced in
    planes_same _ s (λ x. zip2 bit_xor (mixed_by_pairs (rows (map sbox x))) k) (λ x. block_round x k) v (λ x p. plane_round x k p pk)
    (c.sums_of.ensures s (λ x. mixed_by_pairs (rows (map sbox x))) (λ x. k) v3 vk mixes hk)
