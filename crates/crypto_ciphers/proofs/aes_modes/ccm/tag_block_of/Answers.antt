use Rattle.spec_crypto.specs.ciphers.Ccm.{counter_block, mac}
use Rattle.law_crypto.proofs.ciphers.Masking.{masked_front}
use Rattle.crypto_ciphers.proofs.aes_modes.ccm.tag_block_of.Goals as goal

pub returns : goal.returns
returns c =
    rw (c.block_sum_of.ensures, c.block_of.ensures, c.mac_of-mac.ensures, c.enciphered-mask.ensures, c.counter_block_of.ensures)
    (masked_front c.args.aes.now (λ i. counter_block c.args.nonce.now i) (mac c.args.aes.now c.args.nonce.now
    c.args.added.now c.args.text.now c.args.tag) c.args.tag c.requires.tag)
