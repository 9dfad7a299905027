use Rattle.crypto_ciphers.proofs.aes_modes.ByFour.{row_told}
use Rattle.crypto_ciphers.proofs.aes_modes.hash.row_of.Goals as goal

pub returns : goal.returns
returns c = row_told c.args.v c.shifted_of-four.result c.shifted_of-two.result c.shifted_of-one.result
    c.shifted_of-four.ensures c.shifted_of-two.ensures c.shifted_of-one.ensures
