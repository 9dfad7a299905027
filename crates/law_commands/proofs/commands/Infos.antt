-- What is told of a file fits its fields.
use Rattle.std.proofs.Common.{◌≡◌, ℕ, ◌+◌, ◌-◌, ◌/◌, ◌%◌, ◌^◌, ◌<◌, ◌≤◌, Bool, true, false, refl, arith}
use Rattle.std.specs.Prelude.{◌==◌, if◌then◌else◌}
use Rattle.std.proofs.lemmas.Grind.{common_steps}
use Rattle.spec_exchange.specs.Commands.{has_bit}
use Rattle.spec_exchange.specs.State.{Info}
use Rattle.spec_commands.specs.Infos.{allocation, attributes_of, without_bit, plain_attributes}

pub allocation_small : (size : ℕ) → size + 4095 < 256 ^ 8 → allocation size < 256 ^ 8
unfolding allocation
allocation_small size fits = omega (arith, fits)

even : (n : ℕ) → (n % 2 == 1) ≡ false → n % 2 ≡ 0
even n e = let m : (n % 2 ≡ 1) → ⊥ = λ odd. not_one (n % 2) odd e in omega (arith, m)
  where
    not_one : (k : ℕ) → k ≡ 1 → (k == 1) ≡ false → ⊥
    not_one k is e = grind (arith, common_steps)

without_small : (n bit : ℕ) → without_bit n bit ≤ n
unfolding without_bit
without_small n bit = by_bit (has_bit n bit)
  where
    by_bit : (b : Bool) → (if b then n - bit else n) ≤ n
    by_bit true = omega arith
    by_bit false = omega arith

-- without DIRECTORY
without_ten : (n : ℕ) → without_bit n 16 / 16 % 2 ≡ 0
unfolding without_bit has_bit
without_ten n = by_bit (n / 16 % 2 == 1) refl
  where
    by_bit : (b : Bool) → (n / 16 % 2 == 1) ≡ b → (if b then n - 16 else n) / 16 % 2 ≡ 0
    by_bit true e = let odd : n / 16 % 2 ≡ 1 = grind (arith, common_steps) in omega (arith, odd)
    by_bit false e = even (n / 16) e

told : (directory none : Bool) (a : ℕ) → a / 16 % 2 ≡ 0 → a < 256 ^ 4 → (if directory then a + 16 else if none then 128 else a) < 256 ^ 4
told true none a bit fits = omega (arith, fits, bit)
told false true a bit fits = omega arith
told false false a bit fits = fits

pub attributes_small : (i : Info) → i.times.attributes < 256 ^ 4 → attributes_of i < 256 ^ 4
unfolding attributes_of
attributes_small i fits =
    let a : ℕ = i.times.attributes in
    told i.is_directory (plain_attributes a == 0) (plain_attributes a) (without_ten (without_bit a 0x80))
    (omega (arith, fits, without_small a 0x80, without_small (without_bit a 0x80) 0x10))
