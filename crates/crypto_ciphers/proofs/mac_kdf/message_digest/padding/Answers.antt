use Rattle.std.proofs.Common.{◌-◌, ◌%◌, arith}
use Rattle.crypto_ciphers.proofs.mac_kdf.Absorbing.{padding-take}
use Rattle.crypto_ciphers.proofs.mac_kdf.message_digest.padding.Goals as goal

pub returns : goal.returns
returns c = padding-take 0x80 0 ((119 - c.args.used) % 64) (omega arith)
