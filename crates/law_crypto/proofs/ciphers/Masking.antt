-- A text masked block by block is masked byte by byte.
use Rattle.std.proofs.Common.{◌≡◌, ℕ, zero, suc, ◌+◌, ◌-◌, ◌*◌, ◌/◌, ◌%◌, ◌≤◌, ◌<◌, min, List, [], ◌∷◌, ◌++◌, length}
use Rattle.std.proofs.Common.{take, drop, get_or, refl, sym, ap, ◌∙◌, append_assoc, arith}
use Rattle.std.proofs.Math.Seq.{take-suc}
use Rattle.std.proofs.lemmas.List.{append-nil, take_all, drop-drop}
use Rattle.std.specs.Int.Bits.{bit_xor}
use Rattle.spec_crypto.specs.ciphers.Aes.{cipher, sixteen, block_sum}
use Rattle.spec_crypto.specs.ciphers.Blocks.{block_at, masked, stream_byte}

sixteen_at : (h : ℕ → ℕ) (c : ℕ) → c < 16 → get_or (sixteen h) c 0 ≡ h c
sixteen_at h zero lt = refl
sixteen_at h (suc zero) lt = refl
sixteen_at h (suc (suc zero)) lt = refl
sixteen_at h (suc (suc (suc zero))) lt = refl
sixteen_at h (suc (suc (suc (suc zero)))) lt = refl
sixteen_at h (suc (suc (suc (suc (suc zero))))) lt = refl
sixteen_at h (suc (suc (suc (suc (suc (suc zero)))))) lt = refl
sixteen_at h (suc (suc (suc (suc (suc (suc (suc zero))))))) lt = refl
sixteen_at h (suc (suc (suc (suc (suc (suc (suc (suc zero)))))))) lt = refl
sixteen_at h (suc (suc (suc (suc (suc (suc (suc (suc (suc zero))))))))) lt = refl
sixteen_at h (suc (suc (suc (suc (suc (suc (suc (suc (suc (suc zero)))))))))) lt = refl
sixteen_at h (suc (suc (suc (suc (suc (suc (suc (suc (suc (suc (suc zero))))))))))) lt = refl
sixteen_at h (suc (suc (suc (suc (suc (suc (suc (suc (suc (suc (suc (suc zero)))))))))))) lt = refl
sixteen_at h (suc (suc (suc (suc (suc (suc (suc (suc (suc (suc (suc (suc (suc zero))))))))))))) lt = refl
sixteen_at h (suc (suc (suc (suc (suc (suc (suc (suc (suc (suc (suc (suc (suc (suc zero)))))))))))))) lt = refl
sixteen_at h (suc (suc (suc (suc (suc (suc (suc (suc (suc (suc (suc (suc (suc (suc (suc zero))))))))))))))) lt = refl
sixteen_at h (suc (suc (suc (suc (suc (suc (suc (suc (suc (suc (suc (suc (suc (suc (suc (suc c)))))))))))))))) lt = absurd (omega arith)

sum_byte : (s t : List ℕ) (c : ℕ) → c < 16 → get_or (block_sum s t) c 0 ≡ bit_xor (get_or s c 0) (get_or t c 0)
unfolding block_sum
sum_byte s t c lt = sixteen_at (λ k. bit_xor (get_or s k 0) (get_or t k 0)) c lt

pub sum_length : (s t : List ℕ) → length (block_sum s t) ≡ 16
unfolding block_sum
sum_length s t = refl

block_byte : (m : List ℕ) (i c : ℕ) → c < 16 → get_or (block_at m i) c 0 ≡ get_or m (16 * i + c) 0
unfolding block_at
block_byte m i c lt = sixteen_at (λ k. get_or m (16 * i + k) 0) c lt

masked_more : (ws : List (List ℕ)) (f : ℕ → List ℕ) (text : List ℕ) (i c : ℕ) → c < 16
    → masked ws f text (suc (16 * i + c)) ≡ masked ws f text (16 * i + c) ++ bit_xor (get_or text (16 * i + c) 0)
    (get_or (cipher ws (f i)) c 0) ∷ []
unfolding masked stream_byte
masked_more ws f text i c lt =
    let q : (16 * i + c) / 16 ≡ i = omega arith in
    let r : (16 * i + c) % 16 ≡ c = omega arith in
    rw (q, r) refl

-- the first c bytes of block i
pub masked_block : (ws : List (List ℕ)) (f : ℕ → List ℕ) (text : List ℕ) (i c : ℕ) → c ≤ 16
    → masked ws f text (16 * i + c) ≡ masked ws f text (16 * i) ++ take c (block_sum (block_at text i) (cipher ws (f i)))
masked_block ws f text i zero le =
    let z : 16 * i + 0 ≡ 16 * i = omega arith in
    rw z (sym (append-nil (masked ws f text (16 * i))))
masked_block ws f text i (suc c) le =
    let k : 16 * i + suc c ≡ suc (16 * i + c) = omega arith in
    let len : length (block_sum (block_at text i) (cipher ws (f i))) ≡ 16 = sum_length (block_at text i) (cipher ws (f i)) in
    let here : get_or (block_sum (block_at text i) (cipher ws (f i))) c 0 ≡ bit_xor (get_or text (16 * i + c) 0) (get_or
    (cipher ws (f i)) c 0) =
    sum_byte (block_at text i) (cipher ws (f i)) c (omega arith) ∙ ap (λ (x : ℕ). bit_xor x (get_or (cipher ws (f i)) c
    0)) (block_byte text i c (omega arith)) in
    let front : take (suc c) (block_sum (block_at text i) (cipher ws (f i))) ≡ take c (block_sum (block_at text i)
    (cipher ws (f i))) ++ get_or (block_sum (block_at text i) (cipher ws (f i))) c 0 ∷ [] =
    take-suc (block_sum (block_at text i) (cipher ws (f i))) c 0 (omega arith) in
    rw (k, masked_more ws f text i c (omega arith), masked_block ws f text i c (omega arith), front, here)
    (append_assoc (masked ws f text (16 * i)) (take c (block_sum (block_at text i) (cipher ws (f i)))) (bit_xor (get_or
    text (16 * i + c) 0) (get_or (cipher ws (f i)) c 0) ∷ []))

pub masked_none : (ws : List (List ℕ)) (f : ℕ → List ℕ) (text : List ℕ) → [] ≡ masked ws f text (min (16 * 0) (length text))
unfolding masked
masked_none ws f text = let z : min (16 * 0) (length text) ≡ 0 = omega arith in rw z refl

-- one turn of the loop over the blocks
pub masked_step : (ws : List (List ℕ)) (f : ℕ → List ℕ) (text out key : List ℕ) (i : ℕ) → 16 * i < length text → out ≡
    masked ws f text (min (16 * i) (length text)) → key ≡ cipher ws (f i)
    → out ++ take (min (length text - 16 * i) 16) (block_sum (block_at text i) key) ≡ masked ws f text (min (16 * (i + 1)) (length text))
masked_step ws f text out key i lt so_far is =
    let a : min (16 * i) (length text) ≡ 16 * i = omega arith in
    let e : min (16 * (i + 1)) (length text) ≡ 16 * i + min (length text - 16 * i) 16 = omega arith in
    rw (so_far, a, is, e) (sym (masked_block ws f text i (min (length text - 16 * i) 16) (omega arith)))

pub masked_end : (ws : List (List ℕ)) (f : ℕ → List ℕ) (text out : List ℕ) (n : ℕ) → length text ≤ 16 * n → out ≡ masked
    ws f text (min (16 * n) (length text)) → out ≡ masked ws f text (length text)
masked_end ws f text out n le so_far =
    let e : min (16 * n) (length text) ≡ length text = omega arith in
    rw e at so_far

-- a text of one block
pub masked_front : (ws : List (List ℕ)) (f : ℕ → List ℕ) (m : List ℕ) (n : ℕ) → n ≤ 16 → take n (block_sum (block_at m
    0) (cipher ws (f 0))) ≡ masked ws f m n
unfolding masked
masked_front ws f m n le =
    let e : masked ws f m (16 * 0 + n) ≡ take n (block_sum (block_at m 0) (cipher ws (f 0))) = masked_block ws f m 0 n le in
    let z : 16 * 0 + n ≡ n = omega arith in
    sym (ap (λ (j : ℕ). masked ws f m j) (sym z) ∙ e)

-- a whole block, written over the one that stood there
pub whole_put : (text key : List ℕ) (i : ℕ) → take (16 * i) text ++ (block_sum (block_at text i) key ++ drop 16 (drop (16
    * i) text)) ≡ take (16 * i) text ++ (take 16 (block_sum (block_at text i) key) ++ drop (16 * i + 16) text)
whole_put text key i =
    let len : length (block_sum (block_at text i) key) ≡ 16 = sum_length (block_at text i) key in
    let all : take 16 (block_sum (block_at text i) key) ≡ block_sum (block_at text i) key = take_all 16 (block_sum
    (block_at text i) key) (omega arith) in
    rw (all, drop-drop 16 (16 * i) text) refl
