use Rattle.crypto_ciphers.proofs.aes_block.Fronts.{put0}
use Rattle.crypto_ciphers.proofs.aes_block.Table.{entry0}
use Rattle.crypto_ciphers.proofs.aes_block.front.with_row0.Goals as goal

pub returns : goal.returns
returns c = put0 c.args.column _ c.args.byte (entry0 c.args.byte c.requires)
