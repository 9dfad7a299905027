use Rattle.crypto_ciphers.proofs.aes_block.Turns.{low_four, high_four}
use Rattle.crypto_ciphers.proofs.aes_block.turning.turned_by_four.Goals as goal

pub returns-clause-first : goal.returns-clause-first
returns-clause-first c = low_four c.args.a c.args.b c.fits-a c.fits-b

pub returns-clause-second : goal.returns-clause-second
returns-clause-second c = high_four c.args.a c.args.b c.fits-a c.fits-b
