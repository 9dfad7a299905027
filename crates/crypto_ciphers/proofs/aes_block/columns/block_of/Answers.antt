use Rattle.std.proofs.Common.{arith}
use Rattle.crypto_ciphers.proofs.aes_block.Rounds.{block_is}
use Rattle.crypto_ciphers.proofs.aes_block.columns.block_of.Goals as goal

pub returns : goal.returns
returns c = rw (c.to_le_bytes-left.ensures, c.to_le_bytes-right.ensures) (block_is c.args.s.a c.args.s.b c.args.s.c
    c.args.s.d (omega arith) (omega arith))
