use Rattle.std.proofs.Common.{arith}
use Rattle.crypto_ciphers.proofs.aes_modes.ByFour.{half_none, half_more, half_whole}
use Rattle.crypto_ciphers.proofs.aes_modes.hash.Table.half_of.Goals as goal

pub loop-i-init : goal.loop-i-init
loop-i-init c = half_none c.args.half _

pub loop-i-preserved : goal.loop-i-preserved
loop-i-preserved c = half_more c.args.self.now.rows c.args.half c.args.self.now.h c.loop-i.i c.args.last c.loop-i.z
    c.args.self.now.rows_are (omega arith) c.requires.low c.requires.high c.loop-i.invariant

pub returns : goal.returns
returns c = half_whole c.args.half c.args.self.now.h c.args.last c.loop-i.z c.loop-i.i (omega arith) (omega arith) c.loop-i.invariant
