use Rattle.std.proofs.Common.{ℕ, ◌+◌, ◌∙◌, List, length, sym, ap, arith}
use Rattle.std.proofs.lemmas.Grind.{common_steps}
use Rattle.spec_crypto.specs.ciphers.Gcm.{counter_block, ciphertext}
use Rattle.crypto_ciphers.proofs.aes_modes.InPlace.{written}
use Rattle.law_crypto.proofs.ciphers.Unmasking.{masked_length}
use Rattle.crypto_ciphers.proofs.aes_modes.gcm.ciphertext_of.Goals as goal

pub returns-clause-text : goal.returns-clause-text
returns-clause-text c =
    written c.mask.new.text _ _ (sym (c.mask.auto.text ∙ c.as_mut_slice.ensures.len)) ∙ c.mask.ensures
    ∙ ap (λ (x : List ℕ). ciphertext c.args.aes.now c.args.nonce.now x) (c.as_mut_slice.ensures.value ∙ grind (arith, common_steps))

pub returns-clause-len : goal.returns-clause-len
returns-clause-len c = ap length (returns-clause-text c) ∙ masked_length c.args.aes.now (λ i. counter_block
    c.args.nonce.now (i + 2)) c.args.text.now (length c.args.text.now)
