use Rattle.std.proofs.Common.{arith}
use Rattle.crypto_ciphers.proofs.aes_block.Table.{table_is}
use Rattle.crypto_ciphers.proofs.aes_block.state.substituted.Goals as goal

pub returns : goal.returns
returns c = table_is c.args.byte (omega arith)
