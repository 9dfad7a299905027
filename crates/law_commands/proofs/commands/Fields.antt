-- Ids and flags read back.
use Rattle.std.proofs.Common.{◌≡◌, ℕ, ◌+◌, ◌/◌, ◌^◌, ◌<◌, Bool, true, false, List, [], ◌++◌, length, refl, sym, ap, ◌∙◌, arith, length-append}
use Rattle.std.specs.Prelude.{◌==◌, if◌then◌else◌}
use Rattle.std.proofs.lemmas.Grind.{common_steps}
use Rattle.std.proofs.lemmas.List.{append-nil}
use Rattle.spec_wire.specs.messages.Places.{le, number, number_of}
use Rattle.spec_wire.proofs.messages.Numbers.{length-le, number_of-le, bytes_at-behind}
use Rattle.spec_exchange.specs.Commands.{has_bit}
use Rattle.spec_commands.specs.Ids.{file_of, file_id, guid_of, guid_id}
use Rattle.spec_commands.specs.Tables.{bit_if}

-- a number at the end of a front, and at the end of all
pub number_behind : (w n : ℕ) (front rest : List ℕ) (at : ℕ) → at ≡ length front → n < 256 ^ w → number w (front ++ (le w n ++ rest)) at ≡ n
number_behind w n front rest at e fits = ap number_of (bytes_at-behind w front (le w n) rest at e (length-le w n)) ∙ number_of-le w n fits

pub number_last : (w n : ℕ) (front : List ℕ) (at : ℕ) → at ≡ length front → n < 256 ^ w → number w (front ++ le w n) at ≡ n
number_last w n front at e fits = ap (λ (l : List ℕ). number w (front ++ l) at) (sym (append-nil (le w n))) ∙
    number_behind w n front [] at e fits

same_halves : (x y o : ℕ) → x ≡ o → y ≡ o → (if x == y then x else 0) ≡ o
same_halves x y o e f = grind (arith, common_steps)

-- an id below 2^64 is the same in both halves
no_more : (o : ℕ) → o < 256 ^ 8 → o + o / 0x1_0000_0000_0000_0000 ≡ o
no_more o fits = omega (arith, fits)

pub own_halves : (o : ℕ) → o < 256 ^ 8 → file_id o ≡ le 8 o ++ le 8 o
unfolding file_id
own_halves o fits = ap (λ (n : ℕ). le 8 o ++ le 8 n) (no_more o fits)

again_of : (o : ℕ) → o < 256 ^ 8 → file_of (le 8 o ++ le 8 o) ≡ o
unfolding file_of
again_of o fits = same_halves _ _ o (number_behind 8 o [] (le 8 o) 0 refl fits) (number_last 8 o (le 8 o) 8 (sym (length-le 8 o)) fits)

pub file_again : (o : ℕ) → o < 256 ^ 8 → file_of (file_id o) ≡ o
file_again o fits = ap file_of (own_halves o fits) ∙ again_of o fits

pub length-file_id : (o : ℕ) → length (file_id o) ≡ 16
unfolding file_id
length-file_id o = omega (
  arith,
  length-append (le 8 o) (le 8 (o + o / 0x1_0000_0000_0000_0000)),
  length-le 8 o,
  length-le 8 (o + o / 0x1_0000_0000_0000_0000),
)

pub guid_again : (g : ℕ) → g < 256 ^ 16 → guid_of (guid_id g) ≡ g
unfolding guid_of guid_id
guid_again g fits = number_last 16 g [] 0 refl fits

pub length-guid_id : (g : ℕ) → length (guid_id g) ≡ 16
unfolding guid_id
length-guid_id g = length-le 16 g

pub bit_again : (b : Bool) → has_bit (bit_if b 1) 1 ≡ b
unfolding has_bit bit_if
bit_again true = refl
bit_again false = refl

pub bit_small : (b : Bool) → bit_if b 1 < 2
unfolding bit_if
bit_small true = omega arith
bit_small false = omega arith
