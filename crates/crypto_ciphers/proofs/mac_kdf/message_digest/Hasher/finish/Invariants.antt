use Rattle.std.proofs.Common.{◌≡◌, ◌*◌, length, take}
use Rattle.spec_crypto.specs.ciphers.Md4.{digest_bytes}
use Rattle.crypto_ciphers.proofs.mac_kdf.message_digest.Hasher.finish.Given as goal

abbrev pub invariant-words : goal.invariant-words
invariant-words l = (length l.out ≡ 16) × (take (4 * l.i) l.out ≡ digest_bytes l.h l.i)
