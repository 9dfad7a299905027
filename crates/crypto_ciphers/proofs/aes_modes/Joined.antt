-- Chains, hashes and last blocks of a message in two pieces, of which the first fills whole blocks.
use Rattle.std.proofs.Common.{◌≡◌, ℕ, zero, suc, ◌+◌, ◌*◌, ◌^◌, ◌≤◌, ◌<◌, List, [], ◌∷◌, ◌++◌, length, drop, get_or}
use Rattle.std.proofs.Common.{length-append, refl, ap, ◌∙◌, arith}
use Rattle.std.proofs.lemmas.List.{append-nil, get_or-append-add}
use Rattle.std.specs.Int.Bits.{bit_xor}
use Rattle.spec_crypto.specs.ciphers.Aes.{sixteen, cipher, block_sum}
use Rattle.spec_crypto.specs.ciphers.Blocks.{block_at, block_count, chained}
use Rattle.spec_crypto.specs.ciphers.Cmac.{zeros, before_last, rest_of, last_block, cmac}
use Rattle.spec_crypto.specs.ciphers.Ghash.{product, hashed, hashed_all, ghash}

pub same_sixteen : (f g : ℕ → ℕ) → ((k : ℕ) → k < 16 → f k ≡ g k) → sixteen f ≡ sixteen g
same_sixteen f g h =
    let h0 = h 0 (omega arith) in let h1 = h 1 (omega arith) in let h2 = h 2 (omega arith) in let h3 = h 3 (omega arith) in
    let h4 = h 4 (omega arith) in let h5 = h 5 (omega arith) in let h6 = h 6 (omega arith) in let h7 = h 7 (omega arith) in
    let h8 = h 8 (omega arith) in let h9 = h 9 (omega arith) in let h10 = h 10 (omega arith) in let h11 = h 11 (omega arith) in
    let h12 = h 12 (omega arith) in let h13 = h 13 (omega arith) in let h14 = h 14 (omega arith) in let h15 = h 15 (omega arith) in
    λ t. h0 t ∷ h1 t ∷ h2 t ∷ h3 t ∷ h4 t ∷ h5 t ∷ h6 t ∷ h7 t ∷ h8 t ∷ h9 t ∷ h10 t ∷ h11 t ∷ h12 t ∷ h13 t ∷ h14 t ∷ h15 t ∷ []

front_byte : (a b : List ℕ) (i : ℕ) → i < length a → get_or (a ++ b) i 0 ≡ get_or a i 0
front_byte [] b i lt = absurd (omega arith)
front_byte (x ∷ a) b zero lt = refl
front_byte (x ∷ a) b (suc i) lt = front_byte a b i (omega arith)

drop_behind : (a b : List ℕ) (n : ℕ) → drop (length a + n) (a ++ b) ≡ drop n b
drop_behind [] b n = let e : 0 + n ≡ n = omega arith in rw e refl
drop_behind (x ∷ a) b n = let e : suc (length a) + n ≡ suc (length a + n) = omega arith in rw e (drop_behind a b n)

front_block : (a b : List ℕ) (i : ℕ) → 16 * i + 16 ≤ length a → block_at (a ++ b) i ≡ block_at a i
unfolding block_at
front_block a b i fit = same_sixteen (λ k. get_or (a ++ b) (16 * i + k) 0) (λ k. get_or a (16 * i + k) 0) (λ k lt.
    front_byte a b (16 * i + k) (omega arith))

pub back_block : (a b : List ℕ) (n j : ℕ) → length a ≡ 16 * n → block_at (a ++ b) (n + j) ≡ block_at b j
unfolding block_at
back_block a b n j whole =
    same_sixteen (λ k. get_or (a ++ b) (16 * (n + j) + k) 0) (λ k. get_or b (16 * j + k) 0)
    (λ k lt. let e : 16 * (n + j) + k ≡ length a + (16 * j + k) = omega arith in ap (λ (i : ℕ). get_or (a ++ b) i 0) e ∙
    get_or-append-add a b (16 * j + k) 0)

front_chain : (ws : List (List ℕ)) (y a b : List ℕ) (i : ℕ) → 16 * i ≤ length a → chained ws y (a ++ b) i ≡ chained ws y a i
unfolding chained
front_chain ws y a b zero fit = refl
front_chain ws y a b (suc i) fit = rw (front_chain ws y a b i (omega arith), front_block a b i (omega arith)) refl

both_chain : (ws : List (List ℕ)) (y a b : List ℕ) (n k : ℕ) → length a ≡ 16 * n → chained ws y (a ++ b) (n + k) ≡
    chained ws (chained ws y a n) b k
unfolding chained
both_chain ws y a b n zero whole = let e : n + 0 ≡ n = omega arith in rw e (front_chain ws y a b n (omega arith))
both_chain ws y a b n (suc k) whole =
    let e : n + suc k ≡ suc (n + k) = omega arith in
    rw (e, both_chain ws y a b n k whole, back_block a b n k whole) refl

front_hash : (h y : ℕ) (a b : List ℕ) (i : ℕ) → 16 * i ≤ length a → hashed h y (a ++ b) i ≡ hashed h y a i
unfolding hashed
front_hash h y a b zero fit = refl
front_hash h y a b (suc i) fit = rw (front_hash h y a b i (omega arith), front_block a b i (omega arith)) refl

both_hash : (h y : ℕ) (a b : List ℕ) (n k : ℕ) → length a ≡ 16 * n → hashed h y (a ++ b) (n + k) ≡ hashed h (hashed h y a n) b k
unfolding hashed
both_hash h y a b n zero whole = let e : n + 0 ≡ n = omega arith in rw e (front_hash h y a b n (omega arith))
both_hash h y a b n (suc k) whole =
    let e : n + suc k ≡ suc (n + k) = omega arith in
    rw (e, both_hash h y a b n k whole, back_block a b n k whole) refl

last_behind : (ws : List (List ℕ)) (f r : List ℕ) → length f ≡ 64 → 0 < length r → last_block ws (f ++ r) ≡ last_block ws r
unfolding last_block
last_behind ws f r whole some =
    let long = length-append f r in
    let e : 16 * before_last (f ++ r) ≡ length f + 16 * before_last r = omega arith in
    let rest : rest_of (f ++ r) ≡ rest_of r = ap (λ (n : ℕ). drop n (f ++ r)) e ∙ drop_behind f r (16 * before_last r) in
    rw rest refl

pub cmac_parts : (ws : List (List ℕ)) (f r : List ℕ) → length f ≡ 64 → 0 < length r → cipher ws (block_sum (chained ws
    (chained ws zeros f 4) r (before_last r)) (last_block ws r)) ≡ cmac ws (f ++ r)
unfolding cmac
cmac_parts ws f r whole some =
    let long = length-append f r in
    let count : before_last (f ++ r) ≡ 4 + before_last r = omega arith in
    rw (last_behind ws f r whole some, count, both_chain ws zeros f r 4 (before_last r) (omega arith)) refl

pub cmac_front : (ws : List (List ℕ)) (f r : List ℕ) → length r ≡ 0 → cmac ws f ≡ cmac ws (f ++ r)
cmac_front ws f [] none = rw (append-nil f) refl
cmac_front ws f (x ∷ r) none = absurd (omega arith)

pub ghash_parts : (h : ℕ) (f r : List ℕ) → length f ≡ 64 → product (bit_xor (hashed_all h (hashed_all h (hashed_all h 0
    f) r) []) (8 * (64 + length r) * 2 ^ 64)) h ≡ ghash h (f ++ r) []
unfolding ghash
ghash_parts h f r whole =
    let long = length-append f r in
    let count : block_count (f ++ r) ≡ 4 + block_count r = omega arith in
    let four : block_count f ≡ 4 = omega arith in
    let bits : 8 * length (f ++ r) * 2 ^ 64 + 8 * 0 ≡ 8 * (64 + length r) * 2 ^ 64 = omega arith in
    rw (bits, count, both_hash h 0 f r 4 (block_count r) (omega arith), four) refl
