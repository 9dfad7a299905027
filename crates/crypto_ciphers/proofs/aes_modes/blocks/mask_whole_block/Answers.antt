use Rattle.std.proofs.Common.{◌≡◌, ◌+◌, ◌-◌, ◌*◌, arith}
use Rattle.law_crypto.proofs.ciphers.Masking.{whole_put}
use Rattle.crypto_ciphers.proofs.aes_modes.blocks.mask_whole_block.Goals as goal

pub returns : goal.returns
returns c =
    let count : 16 * c.args.i + 16 - 16 * c.args.i ≡ 16 = omega arith in
    rw (count, c.copy_from_slice.ensures.after, c.block_sum_of-masked.ensures, c.whole_block_of.ensures) (whole_put
    c.args.text.now c.args.key.now c.args.i)
