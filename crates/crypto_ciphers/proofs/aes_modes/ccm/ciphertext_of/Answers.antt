use Rattle.std.proofs.Common.{◌∙◌, List, ℕ, sym, ap, arith}
use Rattle.std.proofs.lemmas.Grind.{common_steps}
use Rattle.spec_crypto.specs.ciphers.Ccm.{ciphertext}
use Rattle.crypto_ciphers.proofs.aes_modes.InPlace.{written}
use Rattle.crypto_ciphers.proofs.aes_modes.ccm.ciphertext_of.Goals as goal

pub returns : goal.returns
returns c =
    written c.mask.new.text _ _ (sym (c.mask.auto.text ∙ c.as_mut_slice.ensures.len)) ∙ c.mask.ensures
    ∙ ap (λ (x : List ℕ). ciphertext c.args.aes.now c.args.nonce.now x) (c.as_mut_slice.ensures.value ∙ grind (arith, common_steps))
