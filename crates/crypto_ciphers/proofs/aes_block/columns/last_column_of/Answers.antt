use Rattle.std.proofs.Common.{refl, arith}
use Rattle.std.specs.Int.Bits.{xor_zero_l, xor_zero_r}
use Rattle.crypto_ciphers.specs.aes_block.Columns.{row0, row1, row2, row3}
use Rattle.crypto_ciphers.proofs.aes_block.Table.{entry4, entry5, entry6, entry7}
use Rattle.crypto_ciphers.proofs.aes_block.Sums.{row0-xor, row1-xor, row2-xor, row3-xor}
use Rattle.crypto_ciphers.proofs.aes_block.columns.last_column_of.Goals as goal

pub returns : goal.returns
returns c =
    let a = c.args in
    let p = entry4 (row0 a.a) (omega arith) in
    let q = entry5 (row1 a.b) (omega arith) in
    let r = entry6 (row2 a.c) (omega arith) in
    let s = entry7 (row3 a.d) (omega arith) in
    record {
      at0 = simp row0-xor (rw (p.at0, q.at0, r.at0, s.at0) (simp (xor_zero_l, xor_zero_r)));
      at1 = simp row1-xor (rw (p.at1, q.at1, r.at1, s.at1) (simp (xor_zero_l, xor_zero_r)));
      at2 = simp row2-xor (rw (p.at2, q.at2, r.at2, s.at2) (simp (xor_zero_l, xor_zero_r)));
      at3 = simp row3-xor (rw (p.at3, q.at3, r.at3, s.at3) refl);
    }
