use Rattle.std.proofs.Common.{◌≡◌, ℕ, ◌<◌, length, slice_index}
use Rattle.spec_crypto.specs.ciphers.Rc4.{scheduled}
use Rattle.crypto_ciphers.proofs.mac_kdf.stream_cipher.Rc4.new.Given as goal

abbrev pub invariant-fill : goal.invariant-fill
invariant-fill l = record {
  len : length l.table ≡ 256;
  filled : (k : ℕ) → k < l.n → slice_index l.table k ≡ k;
}

abbrev pub invariant-schedule : goal.invariant-schedule
invariant-schedule l = record {
  table : l.table ≡ (scheduled l.key l.n).table;
  place : l.j ≡ (scheduled l.key l.n).j;
}
