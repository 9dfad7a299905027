-- Published values, computed in the checker, so that a wrong constant, step, order or padding in a definition does not check.
use Rattle.std.proofs.Common.{◌≡◌, [], ◌∷◌, map, codes, refl}
use Rattle.spec_crypto.specs.ciphers.Md4.{block_words, rounds, compress, hash_after, digest_bytes, md4, column_place, reversed_place}
use Rattle.spec_crypto.specs.ciphers.Rc4.{scheduled, opened, enciphered}

-- the orders of RFC 1320, 3.4
pub columns_are : map column_place (0 ∷ 1 ∷ 2 ∷ 3 ∷ 4 ∷ 5 ∷ 6 ∷ 7 ∷ 8 ∷ 9 ∷ 10 ∷ 11 ∷ 12 ∷ 13 ∷ 14 ∷ 15 ∷ [])
    ≡ 0 ∷ 4 ∷ 8 ∷ 12 ∷ 1 ∷ 5 ∷ 9 ∷ 13 ∷ 2 ∷ 6 ∷ 10 ∷ 14 ∷ 3 ∷ 7 ∷ 11 ∷ 15 ∷ []
columns_are = refl

pub reversed_are : map reversed_place (0 ∷ 1 ∷ 2 ∷ 3 ∷ 4 ∷ 5 ∷ 6 ∷ 7 ∷ 8 ∷ 9 ∷ 10 ∷ 11 ∷ 12 ∷ 13 ∷ 14 ∷ 15 ∷ [])
    ≡ 0 ∷ 8 ∷ 4 ∷ 12 ∷ 2 ∷ 10 ∷ 6 ∷ 14 ∷ 1 ∷ 9 ∷ 5 ∷ 13 ∷ 3 ∷ 11 ∷ 7 ∷ 15 ∷ []
reversed_are = refl

-- RFC 1320, A.5
pub digest_of_abc : md4 (codes "abc") ≡ 164 ∷ 72 ∷ 1 ∷ 122 ∷ 175 ∷ 33 ∷ 216 ∷ 82 ∷ 95 ∷ 193 ∷ 10 ∷ 232 ∷ 122 ∷ 166 ∷ 114 ∷ 157 ∷ []
unfolding block_words rounds compress hash_after digest_bytes md4
digest_of_abc = refl

-- 62 bytes, which the padding carries into a second block
pub digest_of_two_blocks : md4 (codes "ABCDEFGHIJKLMNOPQRSTUVWXYZabcdefghijklmnopqrstuvwxyz0123456789")
    ≡ 4 ∷ 63 ∷ 133 ∷ 130 ∷ 242 ∷ 65 ∷ 219 ∷ 53 ∷ 28 ∷ 230 ∷ 39 ∷ 225 ∷ 83 ∷ 231 ∷ 240 ∷ 228 ∷ []
unfolding block_words rounds compress hash_after digest_bytes md4
digest_of_two_blocks = refl

-- the stream of the key `Key`
pub enciphered_plaintext : enciphered (opened (codes "Key")) (codes "Plaintext") ≡ 187 ∷ 243 ∷ 22 ∷ 232 ∷ 217 ∷ 64 ∷ 175 ∷ 10 ∷ 211 ∷ []
unfolding scheduled
enciphered_plaintext = refl
