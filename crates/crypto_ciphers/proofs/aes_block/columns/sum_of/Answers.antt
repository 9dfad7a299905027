use Rattle.crypto_ciphers.proofs.aes_block.Rounds.{sum_is}
use Rattle.crypto_ciphers.proofs.aes_block.columns.sum_of.Goals as goal

pub returns : goal.returns
returns c = sum_is c.args.s.a c.args.s.b c.args.s.c c.args.s.d c.args.t.a c.args.t.b c.args.t.c c.args.t.d
