use Rattle.crypto_ciphers.proofs.aes_block.Rounds.{key_is}
use Rattle.crypto_ciphers.proofs.aes_block.columns.key_of.Goals as goal

pub returns : goal.returns
returns c = key_is c.args.words.now c.args.round _ _ _ _ c.key_column_of.ensures c.key_column_of-2.ensures
    c.key_column_of-3.ensures c.key_column_of-4.ensures
