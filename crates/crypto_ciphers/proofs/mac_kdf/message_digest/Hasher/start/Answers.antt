use Rattle.std.proofs.Common.{rules}
use Rattle.spec_crypto.specs.ciphers.Md4.{hash_after}
use Rattle.crypto_ciphers.specs.mac_kdf.Absorbed.{HasherHolds}
use Rattle.crypto_ciphers.proofs.mac_kdf.message_digest.Hasher.start.Goals as goal

pub returns : goal.returns
unfolding HasherHolds hash_after
returns c = search rules
