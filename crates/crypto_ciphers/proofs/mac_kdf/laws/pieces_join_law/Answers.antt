use Rattle.crypto_ciphers.proofs.mac_kdf.Streams.{pieces_join}
use Rattle.crypto_ciphers.proofs.mac_kdf.laws.pieces_join_law.Goals as goal

pub returns : goal.returns
returns c = pieces_join
