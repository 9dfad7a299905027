use Rattle.std.proofs.Common.{◌≡◌, ◌-◌, ◌/◌, ◌⊎◌, ℕ, length, refl, arith, inl, inr}
use Rattle.crypto_ciphers.proofs.aes_block.Rounds.{all_rounds}
use Rattle.crypto_ciphers.proofs.aes_block.cipher.cipher_of.Goals as goal

pub returns : goal.returns
returns c =
    let n : ℕ = length c.args.words.now / 4 - 1 in
    let either : (n ≡ 10) ⊎ (n ≡ 14) = elim c.requires [
      | inl e ↦ inl (omega arith)
      | inr e ↦ inr (omega arith)
    ] in
    rw (c.ended_of.ensures, c.after_pairs-even.ensures) (all_rounds c.args.words.now c.args.block.now n either refl)
