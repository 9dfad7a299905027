-- The tables are the S-box and its multiples, row by row: all entries, by computation.
use Rattle.std.proofs.Common.{◌≡◌, ℕ, ◌<◌, Bool, true, ◌&&◌, eqb, [], get_or, refl}
use Rattle.std.specs.Int.Bits.{bit_xor}
use Rattle.std.proofs.lemmas.Bool.{eqb-true}
use Rattle.spec_crypto.specs.ciphers.Field.{doubled, sbox}
use Rattle.crypto_ciphers.specs.aes_block.Columns.{row0, row1, row2, row3}
use Rattle.crypto_ciphers.proofs.aes_block.Counted.{all_below, both, at_below}
use Rattle.crypto_ciphers.specs.declared.aes_block.sbox.TheConstants.{SBOX}
use Rattle.crypto_ciphers.specs.declared.aes_block.tables.TheConstants.{TABLES}

table_test : all_below (λ i. eqb (get_or SBOX i 0) (sbox i)) 256 ≡ true
unfolding all_below sbox
table_test = refl

pub table_is : (b : ℕ) → b < 256 → get_or SBOX b 0 ≡ sbox b
table_is b lt = eqb-true (get_or SBOX b 0) (sbox b) (at_below (λ i. eqb (get_or SBOX i 0) (sbox i)) 256 b table_test lt)

pub record HasRows (w a b c d : ℕ) : Type 0 where
  pub at0 : row0 w ≡ a
  pub at1 : row1 w ≡ b
  pub at2 : row2 w ≡ c
  pub at3 : row3 w ≡ d

abbrev has_rows : ℕ → ℕ → ℕ → ℕ → ℕ → Bool
has_rows w a b c d = eqb (row0 w) a && (eqb (row1 w) b && (eqb (row2 w) c && eqb (row3 w) d))

rows_told : (w a b c d : ℕ) → has_rows w a b c d ≡ true → HasRows w a b c d
rows_told w a b c d e =
    let p = both _ _ e in
    let q = both _ _ p.1 in
    let r = both _ _ q.1 in
    record { at0 = eqb-true _ _ p.0; at1 = eqb-true _ _ q.0; at2 = eqb-true _ _ r.0; at3 = eqb-true _ _ r.1 }

abbrev pub tripled : ℕ → ℕ
tripled s = bit_xor (doubled s) s

abbrev pub entry : ℕ → ℕ → ℕ
entry t i = get_or (get_or TABLES t []) i 0

test0 : all_below (λ i. has_rows (entry 0 i) (doubled (sbox i)) (sbox i) (sbox i) (tripled (sbox i))) 256 ≡ true
unfolding all_below sbox
test0 = refl

test1 : all_below (λ i. has_rows (entry 1 i) (tripled (sbox i)) (doubled (sbox i)) (sbox i) (sbox i)) 256 ≡ true
unfolding all_below sbox
test1 = refl

test2 : all_below (λ i. has_rows (entry 2 i) (sbox i) (tripled (sbox i)) (doubled (sbox i)) (sbox i)) 256 ≡ true
unfolding all_below sbox
test2 = refl

test3 : all_below (λ i. has_rows (entry 3 i) (sbox i) (sbox i) (tripled (sbox i)) (doubled (sbox i))) 256 ≡ true
unfolding all_below sbox
test3 = refl

test4 : all_below (λ i. has_rows (entry 4 i) (sbox i) 0 0 0) 256 ≡ true
unfolding all_below sbox
test4 = refl

test5 : all_below (λ i. has_rows (entry 5 i) 0 (sbox i) 0 0) 256 ≡ true
unfolding all_below sbox
test5 = refl

test6 : all_below (λ i. has_rows (entry 6 i) 0 0 (sbox i) 0) 256 ≡ true
unfolding all_below sbox
test6 = refl

test7 : all_below (λ i. has_rows (entry 7 i) 0 0 0 (sbox i)) 256 ≡ true
unfolding all_below sbox
test7 = refl

pub entry0 : (i : ℕ) → i < 256 → HasRows (entry 0 i) (doubled (sbox i)) (sbox i) (sbox i) (tripled (sbox i))
entry0 i lt = rows_told _ _ _ _ _
    (at_below (λ i. has_rows (entry 0 i) (doubled (sbox i)) (sbox i) (sbox i) (tripled (sbox i))) 256 i test0 lt)

pub entry1 : (i : ℕ) → i < 256 → HasRows (entry 1 i) (tripled (sbox i)) (doubled (sbox i)) (sbox i) (sbox i)
entry1 i lt = rows_told _ _ _ _ _ (at_below (λ i. has_rows (entry 1 i) (tripled (sbox i)) (doubled (sbox i)) (sbox i)
    (sbox i)) 256 i test1 lt)

pub entry2 : (i : ℕ) → i < 256 → HasRows (entry 2 i) (sbox i) (tripled (sbox i)) (doubled (sbox i)) (sbox i)
entry2 i lt = rows_told _ _ _ _ _ (at_below (λ i. has_rows (entry 2 i) (sbox i) (tripled (sbox i)) (doubled (sbox i))
    (sbox i)) 256 i test2 lt)

pub entry3 : (i : ℕ) → i < 256 → HasRows (entry 3 i) (sbox i) (sbox i) (tripled (sbox i)) (doubled (sbox i))
entry3 i lt = rows_told _ _ _ _ _
    (at_below (λ i. has_rows (entry 3 i) (sbox i) (sbox i) (tripled (sbox i)) (doubled (sbox i))) 256 i test3 lt)

pub entry4 : (i : ℕ) → i < 256 → HasRows (entry 4 i) (sbox i) 0 0 0
entry4 i lt = rows_told _ _ _ _ _ (at_below (λ i. has_rows (entry 4 i) (sbox i) 0 0 0) 256 i test4 lt)

pub entry5 : (i : ℕ) → i < 256 → HasRows (entry 5 i) 0 (sbox i) 0 0
entry5 i lt = rows_told _ _ _ _ _ (at_below (λ i. has_rows (entry 5 i) 0 (sbox i) 0 0) 256 i test5 lt)

pub entry6 : (i : ℕ) → i < 256 → HasRows (entry 6 i) 0 0 (sbox i) 0
entry6 i lt = rows_told _ _ _ _ _ (at_below (λ i. has_rows (entry 6 i) 0 0 (sbox i) 0) 256 i test6 lt)

pub entry7 : (i : ℕ) → i < 256 → HasRows (entry 7 i) 0 0 0 (sbox i)
entry7 i lt = rows_told _ _ _ _ _ (at_below (λ i. has_rows (entry 7 i) 0 0 0 (sbox i)) 256 i test7 lt)
