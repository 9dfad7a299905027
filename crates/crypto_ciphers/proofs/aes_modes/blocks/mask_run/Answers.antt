use Rattle.crypto_ciphers.proofs.aes_modes.InPlace.{run_masked}
use Rattle.crypto_ciphers.proofs.aes_modes.blocks.mask_run.Goals as goal

pub returns : goal.returns
returns c = λ ws f old so_far is. run_masked ws f old c.args.text.now c.mask_block.new.text c.mask_block-2.new.text
    c.mask_block-3.new.text c.mask_block-4.new.text c.args.keys.now c.args.i c.requires so_far is c.mask_block.ensures
    c.mask_block-2.ensures c.mask_block-3.ensures c.mask_block-4.ensures
