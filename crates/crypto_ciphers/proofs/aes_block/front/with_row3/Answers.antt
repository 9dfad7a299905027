use Rattle.crypto_ciphers.proofs.aes_block.Fronts.{put3}
use Rattle.crypto_ciphers.proofs.aes_block.Table.{entry3}
use Rattle.crypto_ciphers.proofs.aes_block.front.with_row3.Goals as goal

pub returns : goal.returns
returns c = put3 c.args.column _ c.args.byte (entry3 c.args.byte c.requires)
