use Rattle.std.proofs.Common.{ℕ, ap, arith}
use Rattle.std.specs.Int.Bits.{bit_xor}
use Rattle.spec_crypto.specs.ciphers.Field.{sbox}
use Rattle.crypto_ciphers.specs.aes_block.Columns.{row0, row1, row2, row3}
use Rattle.crypto_ciphers.proofs.aes_block.Table.{entry0, entry1, entry2, entry3}
use Rattle.crypto_ciphers.proofs.aes_block.Sums.{row0-xor, row1-xor, row2-xor, row3-xor, order0, order1, order2, order3}
use Rattle.crypto_ciphers.proofs.aes_block.columns.mixed_column_of.Goals as goal

pub returns : goal.returns
returns c =
    let a = c.args in
    let p = entry0 (row0 a.a) (omega arith) in
    let q = entry1 (row1 a.b) (omega arith) in
    let r = entry2 (row2 a.c) (omega arith) in
    let s = entry3 (row3 a.d) (omega arith) in
    let sa : ℕ = sbox (row0 a.a) in
    let sb : ℕ = sbox (row1 a.b) in
    let sc : ℕ = sbox (row2 a.c) in
    let sd : ℕ = sbox (row3 a.d) in
    record {
      at0 = simp row0-xor (rw (p.at0, q.at0, r.at0, s.at0) (ap (λ (x : ℕ). bit_xor x (row0 a.key)) (order0 sa sb sc sd)));
      at1 = simp row1-xor (rw (p.at1, q.at1, r.at1, s.at1) (ap (λ (x : ℕ). bit_xor x (row1 a.key)) (order1 sb sc sd sa)));
      at2 = simp row2-xor (rw (p.at2, q.at2, r.at2, s.at2) (ap (λ (x : ℕ). bit_xor x (row2 a.key)) (order2 sc sd sa sb)));
      at3 = simp row3-xor (rw (p.at3, q.at3, r.at3, s.at3) (ap (λ (x : ℕ). bit_xor x (row3 a.key)) (order3 sd sa sb sc)));
    }
