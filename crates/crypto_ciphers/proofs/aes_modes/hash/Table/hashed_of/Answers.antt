use Rattle.crypto_ciphers.proofs.aes_modes.Chains.{hashed_none, hashed_more}
use Rattle.crypto_ciphers.proofs.aes_modes.hash.Table.hashed_of.Goals as goal

pub loop-i-init : goal.loop-i-init
loop-i-init c = hashed_none c.args.self.now.h c.args.y c.args.m.now

pub loop-i-preserved : goal.loop-i-preserved
loop-i-preserved c = rw (c.product_of-z.ensures, c.from_be_bytes.ensures, c.block_of.ensures, c.loop-i.invariant)
    (hashed_more c.args.self.now.h c.args.y c.args.m.now c.loop-i.i)
