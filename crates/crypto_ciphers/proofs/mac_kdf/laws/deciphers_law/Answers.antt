use Rattle.crypto_ciphers.proofs.mac_kdf.Streams.{deciphers}
use Rattle.crypto_ciphers.proofs.mac_kdf.laws.deciphers_law.Goals as goal

pub returns : goal.returns
returns c = deciphers
