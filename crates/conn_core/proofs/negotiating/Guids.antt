-- A number of 16 bytes by its two halves.
use Rattle.std.proofs.Common.{◌≡◌, ℕ, ◌+◌, ◌*◌, ◌≤◌, List, [], ◌∷◌, length, sym, ap, ◌∙◌, arith}
use Rattle.std.proofs.lemmas.List.{take_all}
use Rattle.spec_wire.specs.messages.Places.{number, number_of, bytes_at}

cut : (m : List ℕ) → 8 ≤ length m → number 16 m 0 ≡ number 8 m 0 + number 8 m 8 * 0x1_0000_0000_0000_0000
unfolding number_of bytes_at
cut [] h = absurd (omega (arith, h))
cut (a ∷ []) h = absurd (omega (arith, h))
cut (a ∷ b ∷ []) h = absurd (omega (arith, h))
cut (a ∷ b ∷ c ∷ []) h = absurd (omega (arith, h))
cut (a ∷ b ∷ c ∷ d ∷ []) h = absurd (omega (arith, h))
cut (a ∷ b ∷ c ∷ d ∷ e ∷ []) h = absurd (omega (arith, h))
cut (a ∷ b ∷ c ∷ d ∷ e ∷ f ∷ []) h = absurd (omega (arith, h))
cut (a ∷ b ∷ c ∷ d ∷ e ∷ f ∷ g ∷ []) h = absurd (omega (arith, h))
cut (a ∷ b ∷ c ∷ d ∷ e ∷ f ∷ g ∷ i ∷ rest) h = omega arith

whole : (m : List ℕ) → length m ≡ 16 → number_of m ≡ number 16 m 0
unfolding bytes_at
whole m h = ap number_of (sym (take_all 16 m (omega (arith, h))))

pub guid_cut : (m : List ℕ) → length m ≡ 16 → number_of m ≡ number 8 m 0 + number 8 m 8 * 0x1_0000_0000_0000_0000
guid_cut m h = whole m h ∙ cut m (omega (arith, h))
