use Rattle.std.proofs.Common.{◌≡◌, ℕ, List, length, take, refl}
use Rattle.crypto_ciphers.proofs.aes_modes.InPlace.{ccm_stays, ccm_again}
use Rattle.crypto_ciphers.proofs.aes_modes.ccm.ccm_open_in_place.Goals as goal

pub returns-then-not-is_same : goal.returns-then-not-is_same
returns-then-not-is_same c =
    let a = c.args in
    let own : List ℕ = take (length a.tag.now) c.tag_block_of-block.result in
    let differ : own ≡ a.tag.now → ⊥ = λ e. let same = c.is_same.ensures.1 e in let told = c.if-not-is_same.true in cc in (
      ccm_stays a.aes.now a.nonce.now a.added.now a.text.now c.mask.new.text a.tag.now own (length a.tag.now) refl
          c.tag_block_of-block.ensures differ c.mask.ensures,
      ccm_again a.aes.now a.nonce.now a.text.now c.mask.new.text c.mask-then-not-is_same.new.text c.mask.ensures
          c.mask-then-not-is_same.ensures,
    )
