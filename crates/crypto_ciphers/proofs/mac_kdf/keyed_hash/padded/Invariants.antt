use Rattle.std.proofs.Common.{◌≡◌, length, take}
use Rattle.spec_crypto.specs.ciphers.Hmac.{padded_by}
use Rattle.crypto_ciphers.proofs.mac_kdf.keyed_hash.padded.Given as goal

abbrev pub invariant-join : goal.invariant-join
invariant-join l = record {
  len : length l.joined ≡ 64;
  joined : take l.k l.joined ≡ padded_by l.pad (take l.k l.block);
}
