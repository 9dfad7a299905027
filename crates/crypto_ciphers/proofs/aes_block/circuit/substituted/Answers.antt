use Rattle.crypto_ciphers.proofs.aes_block.Wires.{sbox_told}
use Rattle.crypto_ciphers.proofs.aes_block.circuit.substituted.Goals as goal

pub returns : goal.returns
returns c = λ s v planes.
    let ys = c.sums_in-ys.ensures s v planes in
    let us = c.inverse-us.ensures s (c.before_inverse.ensures s ys) in
    sbox_told s c.sums_out.result v (c.sums_out.ensures s v (c.products.ensures s ys us))
