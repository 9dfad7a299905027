use Rattle.std.proofs.Common.{◌≡◌, ◌++◌, take, drop}
use Rattle.spec_crypto.specs.ciphers.Rc4.{advanced_by, enciphered}
use Rattle.crypto_ciphers.proofs.mac_kdf.stream_cipher.Rc4.apply.Given as goal

abbrev pub invariant-loop-byte : goal.invariant-loop-byte
invariant-loop-byte l = record {
  state : l.self ≡ advanced_by l.initial.self l.byte-index;
  bytes : l.bytes ≡ enciphered l.initial.self (take l.byte-index l.initial.bytes) ++ drop l.byte-index l.initial.bytes;
}
