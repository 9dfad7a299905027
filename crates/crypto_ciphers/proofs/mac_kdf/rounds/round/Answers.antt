use Rattle.std.proofs.Common.{refl, slice_index}
use Rattle.crypto_ciphers.proofs.mac_kdf.Steps.{add32_last}
use Rattle.crypto_ciphers.proofs.mac_kdf.rounds.round.Goals as goal

pub returns : goal.returns
returns c = rw (c.rotate_left.ensures, add32_last (slice_index c.args.v 0) c.args.f c.args.k c.args.word) refl
