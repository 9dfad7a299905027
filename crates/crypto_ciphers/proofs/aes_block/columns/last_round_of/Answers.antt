use Rattle.crypto_ciphers.proofs.aes_block.Rounds.{last_is}
use Rattle.crypto_ciphers.proofs.aes_block.columns.last_round_of.Goals as goal

pub returns : goal.returns
returns c = last_is _ _ _ _ _ _ _ _ _ _ _ _ c.last_column_of.ensures c.last_column_of-2.ensures
    c.last_column_of-3.ensures c.last_column_of-4.ensures
