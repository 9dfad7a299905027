-- Eight steps of the division at once: they see the lowest byte alone.
use Rattle.std.proofs.Common.{◌≡◌, ℕ, zero, suc, ◌+◌, ◌*◌, ◌/◌, ◌%◌, ◌^◌, ◌<◌, ◌==◌, if◌then◌else◌, Bool, true, false}
use Rattle.std.proofs.Common.{List, [], ◌∷◌, ◌++◌, refl, sym, ◌∙◌, ap, arith}
use Rattle.std.specs.Int.Bits.{bit_xor}
use Rattle.std.specs.Int.{bit_at}
use Rattle.std.proofs.lemmas.Nat.{xor_shr, xor_mod, xor_block}
use Rattle.std.proofs.lemmas.Nat.Bits.{bit_at_xor, same_from_bits}
use Rattle.std.specs.Int.Bits.{xor_zero_l, xor_zero_r}
use Rattle.spec_journal.specs.Castagnoli.{coefficients, degrees, times_x, times_power, behind_byte, behind_bytes}

xor_assoc : (a b c : ℕ) → bit_xor (bit_xor a b) c ≡ bit_xor a (bit_xor b c)
xor_assoc a b c = same_from_bits _ _ (λ i.
    let p = bit_at_xor (bit_xor a b) c i in
    let q = bit_at_xor a b i in
    let r = bit_at_xor a (bit_xor b c) i in
    let s = bit_at_xor b c i in
    p ∙ ap (λ (x : ℕ). (x + bit_at c i) % 2) q ∙ sums (bit_at a i) (bit_at b i) (bit_at c i) ∙ sym (r ∙ ap (λ (x : ℕ). (bit_at a i + x) % 2) s))
  where
    sums : (x y z : ℕ) → ((x + y) % 2 + z) % 2 ≡ (x + (y + z) % 2) % 2
    sums x y z = omega arith

-- an even number has no part in a step but by its half
step_over : (h l : ℕ) → times_x (bit_xor (2 * h) l) ≡ bit_xor h (times_x l)
unfolding times_x
step_over h l =
    let half : bit_xor (2 * h) l / 2 ≡ bit_xor h (l / 2) = xor_shr (2 * h) l 1 ∙ ap (λ (x : ℕ). bit_xor x (l / 2)) (halves h) in
    let low : bit_xor (2 * h) l % 2 ≡ l % 2 = xor_mod (2 * h) l 1 ∙ ap (λ (x : ℕ). bit_xor x (l % 2)) (even h) ∙ xor_zero_l (l % 2) in
    ap (λ (x : ℕ). if x == 1 then bit_xor (bit_xor (2 * h) l / 2) (coefficients degrees) else (bit_xor (2 * h) l / 2)) low
    ∙ ap (λ (x : ℕ). if (l % 2) == 1 then bit_xor x (coefficients degrees) else x) half
    ∙ by ((l % 2) == 1)
  where
    halves : (n : ℕ) → (2 * n) / 2 ≡ n
    halves n = omega arith

    even : (n : ℕ) → (2 * n) % 2 ≡ 0
    even n = omega arith

    by : (b : Bool) → (if b then bit_xor (bit_xor h (l / 2)) (coefficients degrees) else bit_xor h (l / 2))
        ≡ bit_xor h (if b then bit_xor (l / 2) (coefficients degrees) else (l / 2))
    by true = xor_assoc h (l / 2) (coefficients degrees)
    by false = refl

-- a number doubled so many times
unfoldable pub doubles : ℕ → ℕ → ℕ
doubles zero h = h
doubles (suc k) h = 2 * doubles k h

pub steps_over : (k h l : ℕ) → times_power k (bit_xor (doubles k h) l) ≡ bit_xor h (times_power k l)
unfolding times_power doubles
steps_over zero h l = refl
steps_over (suc k) h l = ap (λ (x : ℕ). times_power k x) (step_over (doubles k h) l) ∙ steps_over k h (times_x l)

eight : (h : ℕ) → doubles 8 h ≡ h * 2 ^ 8 + 0
unfolding doubles
eight h = omega arith

byte_over : (h l : ℕ) → l < 2 ^ 8 → bit_xor (doubles 8 h) l ≡ h * 256 + l
byte_over h l small =
    let less : 0 < 2 ^ 8 = omega arith in
    let front : l ≡ 0 * 2 ^ 8 + l = omega arith in
    ap (λ (x : ℕ). bit_xor x l) (eight h) ∙ ap (λ (x : ℕ). bit_xor (h * 2 ^ 8 + 0) x) front ∙ xor_block 8 h 0 0 l less small
    ∙ ap (λ (x : ℕ). x * 2 ^ 8 + bit_xor 0 l) (xor_zero_r h) ∙ ap (λ (x : ℕ). h * 256 + x) (xor_zero_l l)

pub split : (x h l : ℕ) → x / 256 ≡ h → x % 256 ≡ l → x ≡ bit_xor (doubles 8 h) l
split x h l e f =
    let whole : x ≡ (x / 256) * 256 + x % 256 = omega arith in
    let small : x % 256 < 256 = omega arith in
    let less : l < 2 ^ 8 = omega (arith, f, small) in
    let parts : x ≡ h * 256 + l = whole ∙ ap (λ (y : ℕ). y * 256 + x % 256) e ∙ ap (λ (y : ℕ). h * 256 + y) f in
    parts ∙ sym (byte_over h l less)

-- a byte more: the higher bytes go on, and the lowest is looked up
pub byte_behind : (r b : ℕ) → b < 256 → behind_byte r b ≡ bit_xor (r / 256) (times_power 8 (bit_xor (r % 256) b))
unfolding behind_byte
byte_behind r b small =
    let low : ℕ = bit_xor (r % 256) b in
    let none : b / 256 ≡ 0 = omega arith in
    let same : b % 256 ≡ b = omega arith in
    let high : bit_xor r b / 256 ≡ r / 256 = xor_shr r b 8 ∙ ap (λ (x : ℕ). bit_xor (r / 256) x) none ∙ xor_zero_r (r / 256) in
    let rest : bit_xor r b % 256 ≡ low = xor_mod r b 8 ∙ ap (λ (x : ℕ). bit_xor (r % 256) x) same in
    ap (λ (x : ℕ). times_power 8 x) (split (bit_xor r b) (r / 256) low high rest) ∙ steps_over 8 (r / 256) low

pub in_parts : (r : ℕ) (a b : List ℕ) → behind_bytes r (a ++ b) ≡ behind_bytes (behind_bytes r a) b
unfolding behind_bytes
in_parts r [] b = refl
in_parts r (x ∷ a) b = in_parts (behind_byte r x) a b
