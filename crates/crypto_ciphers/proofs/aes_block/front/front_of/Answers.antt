use Rattle.crypto_ciphers.proofs.aes_block.Fronts.{front_is, sum_read}
use Rattle.crypto_ciphers.proofs.aes_block.front.front_of.Goals as goal

pub returns : goal.returns
returns c =
    let sum = sum_read c.args.block.now _ _ _ _ c.sum_of-s.ensures c.columns_of.ensures c.key_of-key.ensures in
    front_is c.args.words.now c.args.block.now _ _ _ _ _ _ _ _ _ _ _ _ _ _ _ _ _ _ _ _ _ _ _ _ c.key_of-key.ensures sum
    c.key_of-first.ensures c.key_of-second.ensures c.mixed_column_of.ensures c.mixed_column_of-b.ensures
    c.mixed_column_of-c.ensures c.mixed_column_of-d.ensures c.mixed_column_of-2.ensures c.mixed_column_of-3.ensures
    c.mixed_column_of-4.ensures c.mixed_column_of-5.ensures
