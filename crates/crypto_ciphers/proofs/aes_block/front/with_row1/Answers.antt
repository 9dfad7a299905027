use Rattle.crypto_ciphers.proofs.aes_block.Fronts.{put1}
use Rattle.crypto_ciphers.proofs.aes_block.Table.{entry1}
use Rattle.crypto_ciphers.proofs.aes_block.front.with_row1.Goals as goal

pub returns : goal.returns
returns c = put1 c.args.column _ c.args.byte (entry1 c.args.byte c.requires)
