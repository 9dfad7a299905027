-- A key's block and its pads.
use Rattle.std.proofs.Common.{◌≡◌, ℕ, ◌+◌, ◌<◌, List, [], ◌∷◌, ◌++◌, length, take, get_or, set, ap, sym, ◌∙◌}
use Rattle.std.specs.Prelude.{bit_xor}
use Rattle.std.proofs.lemmas.List.{take_more, take_more_set, map-append}
use Rattle.spec_crypto.specs.ciphers.Hmac.{padded_by}

-- one byte more of a block joined with a pad
pub padded_more : (pad k y : ℕ) (block joined : List ℕ) → k < length block → k < length joined → take k joined
    ≡ padded_by pad (take k block)
    → y ≡ bit_xor (get_or block k 0) pad → take (k + 1) (set joined k y) ≡ padded_by pad (take (k + 1) block)
padded_more pad k y block joined l l' e same =
    take_more_set joined k y l'
    ∙ ((λ i. e i ++ same i ∷ []) ∙ sym (ap (padded_by pad) (take_more block k 0 l) ∙ map-append (λ b. bit_xor b pad)
    (take k block) (get_or block k 0 ∷ [])))
