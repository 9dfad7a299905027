-- A mixed column with one of its four terms added later, and two rounds that have all but one byte in common.
use Rattle.std.proofs.Common.{◌≡◌, ℕ, ◌+◌, ◌*◌, ◌%◌, ◌<◌, List, ◌∷◌, [], get_or, refl, sym, subst, ap, ◌∙◌, arith}
use Rattle.std.specs.Int.Bits.{bit_xor, xor_assoc, xor_zero_l, xor_zero_r}
use Rattle.std.proofs.lemmas.Nat.{xor_comm, xor_lt}
use Rattle.spec_crypto.specs.ciphers.Field.{doubled, sbox}
use Rattle.spec_crypto.specs.ciphers.Aes.{mixed, sixteen, word, replaced, mixed_columns, block_sum, round_key, after}
use Rattle.crypto_ciphers.specs.aes_block.Columns.{row0, row1, row2, row3, state, IsMixedColumn}
use Rattle.crypto_ciphers.specs.aes_block.Fronts.{block_nothing, WithRow0, WithRow1, WithRow2, WithRow3, AreBehind, with_last, IsBlockFront}
use Rattle.crypto_ciphers.proofs.aes_block.Rounds.{round_is, same_sum}
use Rattle.crypto_ciphers.proofs.aes_block.Sums.{moved, row0-xor, row1-xor, row2-xor, row3-xor}
use Rattle.crypto_ciphers.proofs.aes_block.Table.{HasRows, tripled}

-- ---- a term that was nothing, added behind the key

fill0 : (a b c d k : ℕ) → bit_xor (bit_xor (mixed 0 b c d) k) (doubled a) ≡ bit_xor (mixed a b c d) k
fill0 a b c d k =
    let s : ℕ = doubled a in
    let t : ℕ = doubled b in
    let x1 : ℕ = bit_xor 0 t in
    let x2 : ℕ = bit_xor x1 b in
    let x3 : ℕ = bit_xor x2 c in
    let first : bit_xor x1 s ≡ bit_xor s t = ap (λ (x : ℕ). bit_xor x s) (xor_zero_l t) ∙ xor_comm t s in
    moved (bit_xor x3 d) k s ∙ ap (λ (x : ℕ). bit_xor x k) (
    moved x3 d s ∙ ap (λ (x : ℕ). bit_xor x d) (
    moved x2 c s ∙ ap (λ (x : ℕ). bit_xor x c) (
    moved x1 b s ∙ ap (λ (x : ℕ). bit_xor x b) first)))

fill1 : (a b c d k : ℕ) → bit_xor (bit_xor (mixed a 0 c d) k) (tripled b) ≡ bit_xor (mixed a b c d) k
fill1 a b c d k =
    let s : ℕ = doubled a in
    let t : ℕ = tripled b in
    let x1 : ℕ = bit_xor (bit_xor s 0) 0 in
    let x2 : ℕ = bit_xor x1 c in
    let none : x1 ≡ s = xor_zero_r (bit_xor s 0) ∙ xor_zero_r s in
    let first : bit_xor x1 t ≡ bit_xor (bit_xor s (doubled b)) b = ap (λ (x : ℕ). bit_xor x t) none ∙ sym (xor_assoc s
    (doubled b) b) in
    moved (bit_xor x2 d) k t ∙ ap (λ (x : ℕ). bit_xor x k) (
    moved x2 d t ∙ ap (λ (x : ℕ). bit_xor x d) (
    moved x1 c t ∙ ap (λ (x : ℕ). bit_xor x c) first))

fill2 : (a b c d k : ℕ) → bit_xor (bit_xor (mixed a b 0 d) k) c ≡ bit_xor (mixed a b c d) k
fill2 a b c d k =
    let x1 : ℕ = bit_xor (bit_xor (doubled a) (doubled b)) b in
    let none : bit_xor x1 0 ≡ x1 = xor_zero_r x1 in
    moved (bit_xor (bit_xor x1 0) d) k c ∙ ap (λ (x : ℕ). bit_xor x k) (
    moved (bit_xor x1 0) d c ∙ ap (λ (x : ℕ). bit_xor (bit_xor x c) d) none)

fill3 : (a b c d k : ℕ) → bit_xor (bit_xor (mixed a b c 0) k) d ≡ bit_xor (mixed a b c d) k
fill3 a b c d k =
    let x1 : ℕ = bit_xor (bit_xor (bit_xor (doubled a) (doubled b)) b) c in
    let none : bit_xor x1 0 ≡ x1 = xor_zero_r x1 in
    moved (bit_xor x1 0) k d ∙ ap (λ (x : ℕ). bit_xor (bit_xor x d) k) none

vanishes : sbox 82 ≡ 0
unfolding sbox
vanishes = refl

pub put0 : (v e x : ℕ) → HasRows e (doubled (sbox x)) (sbox x) (sbox x) (tripled (sbox x)) → WithRow0 v x (bit_xor v e)
put0 v e x h = λ a b c d key is p.
    let sb : ℕ = sbox (row1 b) in
    let sc : ℕ = sbox (row2 c) in
    let sd : ℕ = sbox (row3 d) in
    record {
      at0 = row0-xor v e ∙ rw (p.at0, h.at0, vanishes, is) (fill0 (sbox x) sb sc sd (row0 key));
      at1 = row1-xor v e ∙ rw (p.at1, h.at1, vanishes, is) (fill3 sb sc sd (sbox x) (row1 key));
      at2 = row2-xor v e ∙ rw (p.at2, h.at2, vanishes, is) (fill2 sc sd (sbox x) sb (row2 key));
      at3 = row3-xor v e ∙ rw (p.at3, h.at3, vanishes, is) (fill1 sd (sbox x) sb sc (row3 key));
    }

pub put1 : (v e x : ℕ) → HasRows e (tripled (sbox x)) (doubled (sbox x)) (sbox x) (sbox x) → WithRow1 v x (bit_xor v e)
put1 v e x h = λ a b c d key is p.
    let sa : ℕ = sbox (row0 a) in
    let sc : ℕ = sbox (row2 c) in
    let sd : ℕ = sbox (row3 d) in
    record {
      at0 = row0-xor v e ∙ rw (p.at0, h.at0, vanishes, is) (fill1 sa (sbox x) sc sd (row0 key));
      at1 = row1-xor v e ∙ rw (p.at1, h.at1, vanishes, is) (fill0 (sbox x) sc sd sa (row1 key));
      at2 = row2-xor v e ∙ rw (p.at2, h.at2, vanishes, is) (fill3 sc sd sa (sbox x) (row2 key));
      at3 = row3-xor v e ∙ rw (p.at3, h.at3, vanishes, is) (fill2 sd sa (sbox x) sc (row3 key));
    }

pub put2 : (v e x : ℕ) → HasRows e (sbox x) (tripled (sbox x)) (doubled (sbox x)) (sbox x) → WithRow2 v x (bit_xor v e)
put2 v e x h = λ a b c d key is p.
    let sa : ℕ = sbox (row0 a) in
    let sb : ℕ = sbox (row1 b) in
    let sd : ℕ = sbox (row3 d) in
    record {
      at0 = row0-xor v e ∙ rw (p.at0, h.at0, vanishes, is) (fill2 sa sb (sbox x) sd (row0 key));
      at1 = row1-xor v e ∙ rw (p.at1, h.at1, vanishes, is) (fill1 sb (sbox x) sd sa (row1 key));
      at2 = row2-xor v e ∙ rw (p.at2, h.at2, vanishes, is) (fill0 (sbox x) sd sa sb (row2 key));
      at3 = row3-xor v e ∙ rw (p.at3, h.at3, vanishes, is) (fill3 sd sa sb (sbox x) (row3 key));
    }

pub put3 : (v e x : ℕ) → HasRows e (sbox x) (sbox x) (tripled (sbox x)) (doubled (sbox x)) → WithRow3 v x (bit_xor v e)
put3 v e x h = λ a b c d key is p.
    let sa : ℕ = sbox (row0 a) in
    let sb : ℕ = sbox (row1 b) in
    let sc : ℕ = sbox (row2 c) in
    record {
      at0 = row0-xor v e ∙ rw (p.at0, h.at0, vanishes, is) (fill3 sa sb sc (sbox x) (row0 key));
      at1 = row1-xor v e ∙ rw (p.at1, h.at1, vanishes, is) (fill2 sb sc (sbox x) sa (row1 key));
      at2 = row2-xor v e ∙ rw (p.at2, h.at2, vanishes, is) (fill1 sc (sbox x) sa sb (row2 key));
      at3 = row3-xor v e ∙ rw (p.at3, h.at3, vanishes, is) (fill0 (sbox x) sa sb sc (row3 key));
    }

-- ---- a column of which one row counts

same0 : (a b c d e k w : ℕ) → row0 e ≡ row0 a → IsMixedColumn a b c d k w → IsMixedColumn e b c d k w
same0 a b c d e k w is p = record { at0 = rw is p.at0; at1 = rw is p.at1; at2 = rw is p.at2; at3 = rw is p.at3 }

same1 : (a b c d e k w : ℕ) → row1 e ≡ row1 b → IsMixedColumn a b c d k w → IsMixedColumn a e c d k w
same1 a b c d e k w is p = record { at0 = rw is p.at0; at1 = rw is p.at1; at2 = rw is p.at2; at3 = rw is p.at3 }

same2 : (a b c d e k w : ℕ) → row2 e ≡ row2 c → IsMixedColumn a b c d k w → IsMixedColumn a b e d k w
same2 a b c d e k w is p = record { at0 = rw is p.at0; at1 = rw is p.at1; at2 = rw is p.at2; at3 = rw is p.at3 }

-- ---- the sum of a block with another last byte

abbrev key_byte : List (List ℕ) → ℕ
key_byte ws = get_or (word ws 3) 3 0

key_small : (ws : List (List ℕ)) (a b c d : ℕ) → state a b c d ≡ round_key ws 0 → key_byte ws < 256
unfolding state round_key
key_small ws a b c d e =
    let same : row3 d ≡ key_byte ws = ap (λ (l : List ℕ). get_or l 15 0) e in
    rw (sym same) (omega arith)

sum_last : (ws : List (List ℕ)) (block : List ℕ) (a b c d e y : ℕ) → state a b c d ≡ block_sum block (round_key ws 0)
    → row0 e ≡ row0 d → row1 e ≡ row1 d → row2 e ≡ row2 d → row3 e ≡ bit_xor y (key_byte ws)
    → state a b c e ≡ block_sum (with_last block y) (round_key ws 0)
unfolding state round_key block_sum with_last
sum_last ws block a b c d e y is q0 q1 q2 q3 =
    let at : (k : ℕ) → get_or (state a b c d) k 0 ≡ get_or (block_sum block (round_key ws 0)) k 0 = λ k.
    ap (λ (l : List ℕ). get_or l k 0) is in
    let p0 = at 0 in let p1 = at 1 in let p2 = at 2 in let p3 = at 3 in
    let p4 = at 4 in let p5 = at 5 in let p6 = at 6 in let p7 = at 7 in
    let p8 = at 8 in let p9 = at 9 in let p10 = at 10 in let p11 = at 11 in
    let p12 = q0 ∙ at 12 in let p13 = q1 ∙ at 13 in let p14 = q2 ∙ at 14 in
    λ t. p0 t ∷ p1 t ∷ p2 t ∷ p3 t ∷ p4 t ∷ p5 t ∷ p6 t ∷ p7 t ∷ p8 t ∷ p9 t ∷ p10 t ∷ p11 t ∷ p12 t ∷ p13 t ∷ p14 t ∷ q3 t ∷ []

-- ---- two rounds

one_round : (ws : List (List ℕ)) (block : List ℕ) (a b c d ka kb kc kd w x y z : ℕ) → state a b c d ≡ block_sum block (round_key ws 0)
    → state ka kb kc kd ≡ round_key ws 1 → state w x y z ≡ block_sum (mixed_columns (replaced (state a b c d))) (state ka kb kc kd)
    → state w x y z ≡ after ws block 1
unfolding after
one_round ws block a b c d ka kb kc kd w x y z before key e = e ∙ rw (before, key) refl

two_rounds : (ws : List (List ℕ)) (block : List ℕ) (a b c d ka kb kc kd w x y z : ℕ) → state a b c d ≡ after ws block 1
    → state ka kb kc kd ≡ round_key ws 2 → state w x y z ≡ block_sum (mixed_columns (replaced (state a b c d))) (state ka kb kc kd)
    → state w x y z ≡ after ws block 2
unfolding after
two_rounds ws block a b c d ka kb kc kd w x y z before key e = e ∙ rw (before, key) refl

pub front_is : (ws : List (List ℕ)) (block : List ℕ) (ja jb jc jd sa sb sc sd ka kb kc kd la lb lc ld v b c d ra rb rc rd : ℕ)
    → state ja jb jc jd ≡ round_key ws 0
    → state sa sb sc sd ≡ block_sum block (round_key ws 0)
    → state ka kb kc kd ≡ round_key ws 1
    → state la lb lc ld ≡ round_key ws 2
    → IsMixedColumn sa sb sc block_nothing ka v
    → IsMixedColumn sb sc sd sa kb b
    → IsMixedColumn sc sd sa sb kc c
    → IsMixedColumn sd sa sb sc kd d
    → IsMixedColumn block_nothing b c d la ra
    → IsMixedColumn b c d block_nothing lb rb
    → IsMixedColumn c d block_nothing b lc rc
    → IsMixedColumn d block_nothing b c ld rd
    → IsBlockFront ws block (v ∷ ra ∷ rb ∷ rc ∷ rd ∷ [])
front_is ws block ja jb jc jd sa sb sc sd ka kb kc kd la lb lc ld v b c d ra rb rc rd key0 sum key1 key2 pv pb pc pd qa qb qc qd =
    λ y wa wb wc wd lt h.
    let x : ℕ = bit_xor y (key_byte ws) in
    let small : x < 256 = xor_lt 8 y (key_byte ws) lt (key_small ws ja jb jc jd key0) in
    let e : ℕ = sd % 16777216 + 16777216 * x in
    let e0 : row0 e ≡ row0 sd = omega arith in
    let e1 : row1 e ≡ row1 sd = omega arith in
    let e2 : row2 e ≡ row2 sd = omega arith in
    let e3 : row3 e ≡ x = omega (arith, small) in
    let first = round_is sa sb sc e ka kb kc kd h.a b c d (h.first sa sb sc e ka e3 pv) (same2 sb sc sd sa e kb b e2 pb)
    (same1 sc sd sa sb e kc c e1 pc) (same0 sd sa sb sc e kd d e0 pd) in
    let one = one_round ws (with_last block y) sa sb sc e ka kb kc kd h.a b c d
    (sum_last ws block sa sb sc sd e y sum e0 e1 e2 e3) key1 first in
    let second = round_is h.a b c d la lb lc ld wa wb wc wd (h.at_a h.a b c d la refl qa) (h.at_b b c d h.a lb refl qb)
    (h.at_c c d h.a b lc refl qc) (h.at_d d h.a b c ld refl qd) in
    two_rounds ws (with_last block y) h.a b c d la lb lc ld wa wb wc wd one key2 second

-- what the code hands on
pub sum_read : (block s a k key : List ℕ) → s ≡ block_sum a k → a ≡ sixteen (λ i. get_or block i 0) → k ≡ key → s ≡ block_sum block key
sum_read block s a k key e p q = e ∙ rw (p, q) (same_sum block key)

pub behind_is : (front : List ℕ) (v ra rb rc rd x a wa wb wc wd : ℕ) → v ∷ ra ∷ rb ∷ rc ∷ rd ∷ [] ≡ front → WithRow3 v x a
    → WithRow0 ra (row0 a) wa → WithRow3 rb (row3 a) wb → WithRow2 rc (row2 a) wc → WithRow1 rd (row1 a) wd → AreBehind front x wa wb wc wd
behind_is front v ra rb rc rd x a wa wb wc wd e first p q r s =
    subst (λ (f : List ℕ). AreBehind f x wa wb wc wd) e (record { a = a; first = first; at_a = p; at_b = q; at_c = r; at_d = s })

-- ---- the block's own last byte

pub own_last : (block : List ℕ) (ws : List (List ℕ)) → after ws (with_last block (get_or block 15 0)) 2 ≡ after ws block 2
unfolding after block_sum with_last
own_last block ws = refl
