use Rattle.crypto_ciphers.proofs.aes_block.Rounds.{round_is}
use Rattle.crypto_ciphers.proofs.aes_block.columns.round_of.Goals as goal

pub returns : goal.returns
returns c = round_is _ _ _ _ _ _ _ _ _ _ _ _ c.mixed_column_of.ensures c.mixed_column_of-2.ensures
    c.mixed_column_of-3.ensures c.mixed_column_of-4.ensures
