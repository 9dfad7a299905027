use Rattle.std.proofs.Common.{◌-◌, length, arith}
use Rattle.crypto_ciphers.proofs.aes_modes.Bytewise.{below_by_shift, shift_by_below}
use Rattle.crypto_ciphers.proofs.aes_modes.ccm.ccm_fits.Goals as goal

pub returns : goal.returns
returns c = (
  λ h. record {
    nonce_long = omega arith;
    nonce_short = omega arith;
    tag_long = omega arith;
    tag_short = omega arith;
    tag_even = omega arith;
    text_counted = below_by_shift c.args.text (15 - length c.args.nonce.now) (omega arith) h;
  },
  λ p. shift_by_below c.args.text (15 - length c.args.nonce.now) (omega arith) p.text_counted,
)
