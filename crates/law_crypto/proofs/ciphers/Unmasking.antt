-- Masking twice gives the text again, so what is sealed opens to its text, and nothing else opens.
use Rattle.std.proofs.Common.{◌≡◌, ℕ, zero, suc, ◌+◌, ◌-◌, ◌≤◌, ◌<◌, List, [], ◌∷◌, ◌++◌, length, take, drop, get_or}
use Rattle.std.proofs.Common.{refl, ap, ◌∙◌, length-append, arith, inl, inr}
use Rattle.std.proofs.Math.Seq.{take-suc}
use Rattle.std.proofs.lemmas.List.{take_all, take_at, drop_at, get_or_append_left, get_or_at, length_push}
use Rattle.std.proofs.lemmas.Bool.{cases_lt}
use Rattle.std.specs.Int.Bits.{bit_xor, xor_self, xor_assoc, xor_zero_r}
use Rattle.spec_crypto.specs.ciphers.Blocks.{masked, stream_byte}

pub masked_length : (ws : List (List ℕ)) (f : ℕ → List ℕ) (text : List ℕ) (n : ℕ) → length (masked ws f text n) ≡ n
unfolding masked
masked_length ws f text zero = refl
masked_length ws f text (suc n) =
    let p : length (masked ws f text n ++ bit_xor (get_or text n 0) (stream_byte ws f n) ∷ []) ≡ length (masked ws f
    text n) + 1 = length_push (masked ws f text n) (bit_xor (get_or text n 0) (stream_byte ws f n)) in
    let e : length (masked ws f text n) ≡ n = masked_length ws f text n in
    omega arith

masked_at : (ws : List (List ℕ)) (f : ℕ → List ℕ) (text : List ℕ) (n j : ℕ) → j < n → get_or (masked ws f text n) j 0 ≡
    bit_xor (get_or text j 0) (stream_byte ws f j)
unfolding masked
masked_at ws f text zero j lt = absurd (omega arith)
masked_at ws f text (suc n) j lt =
    let len : length (masked ws f text n) ≡ n = masked_length ws f text n in
    elim (cases_lt j n) [
      | inl below ↦
          get_or_append_left (masked ws f text n) (bit_xor (get_or text n 0) (stream_byte ws f n) ∷ []) 0 j (omega
          arith) ∙ masked_at ws f text n j below
      | inr above ↦
          let same : j ≡ n = omega arith in
          let here : get_or (masked ws f text n ++ bit_xor (get_or text n 0) (stream_byte ws f n) ∷ []) n 0 ≡ bit_xor
          (get_or text n 0) (stream_byte ws f n) =
          get_or_at (masked ws f text n) (bit_xor (get_or text n 0) (stream_byte ws f n)) [] 0 n len in
          rw same here
    ]

xor_twice : (a b : ℕ) → bit_xor (bit_xor a b) b ≡ a
xor_twice a b = xor_assoc a b b ∙ ap (λ (x : ℕ). bit_xor a x) (xor_self b) ∙ xor_zero_r a

masked_front_twice : (ws : List (List ℕ)) (f : ℕ → List ℕ) (text : List ℕ) (n k : ℕ) → k ≤ n → n ≤ length text → masked
    ws f (masked ws f text n) k ≡ take k text
unfolding masked
masked_front_twice ws f text n zero le fit = refl
masked_front_twice ws f text n (suc k) le fit =
    let here : bit_xor (get_or (masked ws f text n) k 0) (stream_byte ws f k) ≡ get_or text k 0 =
    ap (λ (x : ℕ). bit_xor x (stream_byte ws f k)) (masked_at ws f text n k (omega arith)) ∙ xor_twice (get_or text k 0)
    (stream_byte ws f k) in
    let more : take (suc k) text ≡ take k text ++ get_or text k 0 ∷ [] = take-suc text k 0 (omega arith) in
    rw (masked_front_twice ws f text n k (omega arith) fit, here, more) refl

pub masked_twice : (ws : List (List ℕ)) (f : ℕ → List ℕ) (text c : List ℕ) → c ≡ masked ws f text (length text) → masked
    ws f c (length c) ≡ text
masked_twice ws f text c is =
    let len : length c ≡ length text = ap length is ∙ masked_length ws f text (length text) in
    rw (len, is, masked_front_twice ws f text (length text) (length text) (omega arith) (omega arith)) (take_all (length
    text) text (omega arith))

-- what stands before the last n bytes, and those
pub front_of : (c t : List ℕ) (n : ℕ) → length t ≡ n → take (length (c ++ t) - n) (c ++ t) ≡ c
front_of c t n len =
    let e : length (c ++ t) ≡ length c + length t = length-append c t in
    let k : length (c ++ t) - n ≡ length c = omega arith in
    rw k (take_at c t (length c) refl)

pub back_of : (c t : List ℕ) (n : ℕ) → length t ≡ n → drop (length (c ++ t) - n) (c ++ t) ≡ t
back_of c t n len =
    let e : length (c ++ t) ≡ length c + length t = length-append c t in
    let k : length (c ++ t) - n ≡ length c = omega arith in
    rw k (drop_at c t (length c) refl)
