use Rattle.crypto_ciphers.proofs.aes_block.Turns.{low_two, high_two}
use Rattle.crypto_ciphers.proofs.aes_block.turning.turned_by_two.Goals as goal

pub returns-clause-first : goal.returns-clause-first
returns-clause-first c = low_two c.args.a c.args.b c.fits-a c.fits-b

pub returns-clause-second : goal.returns-clause-second
returns-clause-second c = high_two c.args.a c.args.b c.fits-a c.fits-b
