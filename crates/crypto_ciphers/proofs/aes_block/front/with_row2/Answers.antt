use Rattle.crypto_ciphers.proofs.aes_block.Fronts.{put2}
use Rattle.crypto_ciphers.proofs.aes_block.Table.{entry2}
use Rattle.crypto_ciphers.proofs.aes_block.front.with_row2.Goals as goal

pub returns : goal.returns
returns c = put2 c.args.column _ c.args.byte (entry2 c.args.byte c.requires)
