-- One more power, one more word.
use Rattle.std.proofs.Common.{◌≡◌, ℕ, suc, ◌+◌, ◌<◌, List, [], length, take, refl, ap, ◌∙◌, arith}
use Rattle.std.proofs.Math.ListN.{set}
use Rattle.std.proofs.lemmas.List.{take_more_set, length-take-le}
use Rattle.spec_crypto.specs.ciphers.Field.{doubled}
use Rattle.spec_crypto.specs.ciphers.Aes.{constant, expanded, next_word}

pub constant_none : 1 ≡ constant 0
unfolding constant
constant_none = refl

pub constant_more : (i : ℕ) → doubled (constant i) ≡ constant (i + 1)
unfolding constant
constant_more i = let k : i + 1 ≡ suc i = omega arith in rw k refl

pub expanded_none : (nk : ℕ) (key : List ℕ) → [] ≡ expanded nk key 0
unfolding expanded
expanded_none nk key = refl

-- a word put behind those before it
pub expanded_more : (nk : ℕ) (key : List ℕ) (ws : List (List ℕ)) (i : ℕ) (next : List ℕ) → i < length ws → take i ws ≡ expanded nk key i
    → next ≡ next_word nk key (take i ws) (length (take i ws)) → take (i + 1) (set ws i next) ≡ expanded nk key (i + 1)
unfolding expanded
expanded_more nk key ws i next lt so_far is =
    let k : i + 1 ≡ suc i = omega arith in
    let len : length (take i ws) ≡ i = length-take-le i ws (omega arith) in
    let new : next ≡ next_word nk key (expanded nk key i) i = is ∙ ap (λ (n : ℕ). next_word nk key (take i ws) n) len
    ∙ ap (λ (l : List (List ℕ)). next_word nk key l i) so_far in
    take_more_set ws i next lt ∙ rw (so_far, k, new) refl
