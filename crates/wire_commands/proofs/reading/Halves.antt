-- A number of 16 bytes and its halves.
use Rattle.std.proofs.Common.{◌≡◌, ◌==◌, ℕ, ◌+◌, ◌*◌, ◌/◌, ◌%◌, ◌<◌, if◌then◌else◌, List, [], ◌∷◌, length, get_or, arith, sym, ◌∙◌}
use Rattle.std.proofs.lemmas.Bool.Decides.{nat_tests}
use Rattle.std.specs.Int.{w128, from_le_bytes}
use Rattle.spec_commands.specs.Ids.{file_of, guid_of}
use Rattle.spec_wire.specs.messages.Places.{number, number_of, bytes_at}

-- the number of 16 bytes, by its lower and its upper 8
pub record Halves (m : List ℕ) : Type 0 where
  pub whole : from_le_bytes w128 m ≡ number 16 m 0
  pub split : number 16 m 0 ≡ number 8 m 0 + number 8 m 8 * 18446744073709551616
  pub small : number 8 m 0 < 18446744073709551616

pub halves : (m : List ℕ) → length m ≡ 16 → ((q : ℕ) → get_or m q 0 < 256) → Halves m
unfolding number_of bytes_at
halves [] long small = absurd (omega (arith, long))
halves (_ ∷ []) long small = absurd (omega (arith, long))
halves (_ ∷ _ ∷ []) long small = absurd (omega (arith, long))
halves (_ ∷ _ ∷ _ ∷ []) long small = absurd (omega (arith, long))
halves (_ ∷ _ ∷ _ ∷ _ ∷ []) long small = absurd (omega (arith, long))
halves (_ ∷ _ ∷ _ ∷ _ ∷ _ ∷ []) long small = absurd (omega (arith, long))
halves (_ ∷ _ ∷ _ ∷ _ ∷ _ ∷ _ ∷ []) long small = absurd (omega (arith, long))
halves (_ ∷ _ ∷ _ ∷ _ ∷ _ ∷ _ ∷ _ ∷ []) long small = absurd (omega (arith, long))
halves (_ ∷ _ ∷ _ ∷ _ ∷ _ ∷ _ ∷ _ ∷ _ ∷ []) long small = absurd (omega (arith, long))
halves (_ ∷ _ ∷ _ ∷ _ ∷ _ ∷ _ ∷ _ ∷ _ ∷ _ ∷ []) long small = absurd (omega (arith, long))
halves (_ ∷ _ ∷ _ ∷ _ ∷ _ ∷ _ ∷ _ ∷ _ ∷ _ ∷ _ ∷ []) long small = absurd (omega (arith, long))
halves (_ ∷ _ ∷ _ ∷ _ ∷ _ ∷ _ ∷ _ ∷ _ ∷ _ ∷ _ ∷ _ ∷ []) long small = absurd (omega (arith, long))
halves (_ ∷ _ ∷ _ ∷ _ ∷ _ ∷ _ ∷ _ ∷ _ ∷ _ ∷ _ ∷ _ ∷ _ ∷ []) long small = absurd (omega (arith, long))
halves (_ ∷ _ ∷ _ ∷ _ ∷ _ ∷ _ ∷ _ ∷ _ ∷ _ ∷ _ ∷ _ ∷ _ ∷ _ ∷ []) long small = absurd (omega (arith, long))
halves (_ ∷ _ ∷ _ ∷ _ ∷ _ ∷ _ ∷ _ ∷ _ ∷ _ ∷ _ ∷ _ ∷ _ ∷ _ ∷ _ ∷ []) long small = absurd (omega (arith, long))
halves (_ ∷ _ ∷ _ ∷ _ ∷ _ ∷ _ ∷ _ ∷ _ ∷ _ ∷ _ ∷ _ ∷ _ ∷ _ ∷ _ ∷ _ ∷ []) long small = absurd (omega (arith, long))
halves (a ∷ b ∷ c ∷ d ∷ e ∷ f ∷ g ∷ h ∷ i ∷ j ∷ k ∷ l ∷ m ∷ n ∷ o ∷ p ∷ []) long small =
    let s0 : a < 256 = small 0 in
    let s1 : b < 256 = small 1 in
    let s2 : c < 256 = small 2 in
    let s3 : d < 256 = small 3 in
    let s4 : e < 256 = small 4 in
    let s5 : f < 256 = small 5 in
    let s6 : g < 256 = small 6 in
    let s7 : h < 256 = small 7 in
    record {
      whole = omega arith;
      split = omega arith;
      small = omega arith;
    }
halves (_ ∷ _ ∷ _ ∷ _ ∷ _ ∷ _ ∷ _ ∷ _ ∷ _ ∷ _ ∷ _ ∷ _ ∷ _ ∷ _ ∷ _ ∷ _ ∷ x ∷ rest) long small = absurd (omega (arith, long))

pub lower : (m : List ℕ) (n : ℕ) → Halves m → n ≡ from_le_bytes w128 m → n % 18446744073709551616 ≡ number 8 m 0
lower m n h e = let a = h.whole in let b = h.split in let s = h.small in omega (arith, e, a, b, s)

pub upper : (m : List ℕ) (n : ℕ) → Halves m → n ≡ from_le_bytes w128 m → n / 18446744073709551616 ≡ number 8 m 8
upper m n h e = let a = h.whole in let b = h.split in let s = h.small in omega (arith, e, a, b, s)

same : (a b n : ℕ) → a ≡ b → n ≡ a → n ≡ (if a == b then a else 0)
same a b n e h = grind (arith, nat_tests)

other : (a b : ℕ) → (a ≡ b → ⊥) → 0 ≡ (if a == b then a else 0)
other a b e = grind (arith, nat_tests)

-- of 16 bytes the half that stands there twice
pub named : (m : List ℕ) (n : ℕ) → Halves m → n ≡ from_le_bytes w128 m
    → n % 18446744073709551616 ≡ n / 18446744073709551616 → n % 18446744073709551616 ≡ file_of m
unfolding file_of
named m n h e twice = let low = lower m n h e in let high = upper m n h e in
    same (number 8 m 0) (number 8 m 8) (n % 18446744073709551616) (sym low ∙ (twice ∙ high)) low

pub unnamed : (m : List ℕ) (n : ℕ) → Halves m → n ≡ from_le_bytes w128 m
    → (n % 18446744073709551616 ≡ n / 18446744073709551616 → ⊥) → 0 ≡ file_of m
unfolding file_of
unnamed m n h e twice = let low = lower m n h e in let high = upper m n h e in
    other (number 8 m 0) (number 8 m 8) (λ k. twice (low ∙ (k ∙ sym high)))

pub guid_is : (m : List ℕ) (n : ℕ) → Halves m → n ≡ from_le_bytes w128 m → n ≡ guid_of m
unfolding guid_of
guid_is m n h e = e ∙ h.whole
