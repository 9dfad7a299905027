-- Eight bytes at once: what was left and each of them go their own way, and come together at the end.
use Rattle.std.proofs.Common.{◌≡◌, ℕ, zero, suc, ◌+◌, ◌*◌, ◌/◌, ◌%◌, ◌^◌, ◌<◌, ◌==◌, if◌then◌else◌}
use Rattle.std.proofs.Common.{List, [], ◌∷◌, length, get_or, refl, sym, ◌∙◌, ap, arith}
use Rattle.std.specs.Int.Bits.{bit_xor, xor_zero_l, xor_zero_r}
use Rattle.std.specs.Int.{bit_at}
use Rattle.std.proofs.lemmas.Nat.{xor_shr, xor_mod, xor_comm}
use Rattle.std.proofs.lemmas.Nat.Bits.{bit_at_xor, bit_at-lt, same_from_bits}
use Rattle.spec_journal.specs.Castagnoli.{coefficients, degrees, times_x, times_power, behind_byte, behind_bytes}
use Rattle.journal.proofs.checksum.Steps.{doubles, split, steps_over}

-- ---- sums of two

four_sum : (x y z w : ℕ) → ((x + y) % 2 + (z + w) % 2) % 2 ≡ ((x + z) % 2 + (y + w) % 2) % 2
four_sum x y z w = omega arith

-- (a + x) + (b + y) is (a + b) + (x + y)
pub swapped : (a x b y : ℕ) → bit_xor (bit_xor a x) (bit_xor b y) ≡ bit_xor (bit_xor a b) (bit_xor x y)
swapped a x b y = same_from_bits _ _ (λ i.
    let p = bit_at_xor (bit_xor a x) (bit_xor b y) i in
    let q = bit_at_xor a x i in
    let r = bit_at_xor b y i in
    let s = bit_at_xor (bit_xor a b) (bit_xor x y) i in
    let t = bit_at_xor a b i in
    let u = bit_at_xor x y i in
    p ∙ (λ k. (q k + r k) % 2) ∙ four_sum (bit_at a i) (bit_at x i) (bit_at b i) (bit_at y i) ∙ sym (s ∙ (λ k. (t k + u k) % 2)))

same_sum : (x y z : ℕ) → z < 2 → ((x + z) % 2 + (y + z) % 2) % 2 ≡ (x + y) % 2
same_sum x y z l = omega (arith, l)

-- what is added twice goes
twice : (a b c : ℕ) → bit_xor (bit_xor a c) (bit_xor b c) ≡ bit_xor a b
twice a b c = same_from_bits _ _ (λ i.
    let p = bit_at_xor (bit_xor a c) (bit_xor b c) i in
    let q = bit_at_xor a c i in
    let r = bit_at_xor b c i in
    p ∙ (λ k. (q k + r k) % 2) ∙ same_sum (bit_at a i) (bit_at b i) (bit_at c i) (bit_at-lt c i) ∙ sym (bit_at_xor a b i))

one_right : (x y z : ℕ) → ((x + z) % 2 + y) % 2 ≡ ((x + y) % 2 + z) % 2
one_right x y z = omega arith

first_off : (a b c : ℕ) → bit_xor (bit_xor a c) b ≡ bit_xor (bit_xor a b) c
first_off a b c = same_from_bits _ _ (λ i.
    let p = bit_at_xor (bit_xor a c) b i in
    let q = bit_at_xor a c i in
    let r = bit_at_xor (bit_xor a b) c i in
    let s = bit_at_xor a b i in
    p ∙ ap (λ (n : ℕ). (n + bit_at b i) % 2) q ∙ one_right (bit_at a i) (bit_at b i) (bit_at c i)
    ∙ sym (r ∙ ap (λ (n : ℕ). (n + bit_at c i) % 2) s))

one_more : (x y z : ℕ) → (x + (y + z) % 2) % 2 ≡ ((x + y) % 2 + z) % 2
one_more x y z = omega arith

second_off : (a b c : ℕ) → bit_xor a (bit_xor b c) ≡ bit_xor (bit_xor a b) c
second_off a b c = same_from_bits _ _ (λ i.
    let p = bit_at_xor a (bit_xor b c) i in
    let q = bit_at_xor b c i in
    let r = bit_at_xor (bit_xor a b) c i in
    let s = bit_at_xor a b i in
    p ∙ ap (λ (n : ℕ). (bit_at a i + n) % 2) q ∙ one_more (bit_at a i) (bit_at b i) (bit_at c i)
    ∙ sym (r ∙ ap (λ (n : ℕ). (n + bit_at c i) % 2) s))

-- ---- a step of a sum is the sum of steps

low_bit : (n : ℕ) → n % 2 < 2
low_bit n = omega arith

step_sum : (a b : ℕ) → times_x (bit_xor a b) ≡ bit_xor (times_x a) (times_x b)
unfolding times_x
step_sum a b =
    let half : bit_xor a b / 2 ≡ bit_xor (a / 2) (b / 2) = xor_shr a b 1 in
    let low : bit_xor a b % 2 ≡ bit_xor (a % 2) (b % 2) = xor_mod a b 1 in
    ap (λ (x : ℕ). if x == 1 then bit_xor (bit_xor a b / 2) (coefficients degrees) else (bit_xor a b / 2)) low
    ∙ ap (λ (x : ℕ). if bit_xor (a % 2) (b % 2) == 1 then bit_xor x (coefficients degrees) else x) half
    ∙ by (a % 2) (b % 2) (low_bit a) (low_bit b)
  where
    by : (p q : ℕ) → p < 2 → q < 2 → (if bit_xor p q == 1 then bit_xor (bit_xor (a / 2) (b / 2)) (coefficients degrees)
        else bit_xor (a / 2) (b / 2)) ≡ bit_xor (if p == 1 then bit_xor (a / 2) (coefficients degrees) else (a / 2))
        (if q == 1 then bit_xor (b / 2) (coefficients degrees) else (b / 2))
    by zero zero l m = refl
    by (suc zero) zero l m = sym (first_off (a / 2) (b / 2) (coefficients degrees))
    by zero (suc zero) l m = sym (second_off (a / 2) (b / 2) (coefficients degrees))
    by (suc zero) (suc zero) l m = sym (twice (a / 2) (b / 2) (coefficients degrees))
    by (suc (suc p)) q l m = absurd (omega (arith, l))
    by zero (suc (suc q)) l m = absurd (omega (arith, m))
    by (suc zero) (suc (suc q)) l m = absurd (omega (arith, m))

pub power_sum : (k a b : ℕ) → times_power k (bit_xor a b) ≡ bit_xor (times_power k a) (times_power k b)
unfolding times_power
power_sum zero a b = refl
power_sum (suc k) a b = ap (λ (x : ℕ). times_power k x) (step_sum a b) ∙ power_sum k (times_x a) (times_x b)

alone : (k : ℕ) → 0 + k ≡ k
alone k = omega arith

one_up : (j k : ℕ) → suc j + k ≡ suc (j + k)
one_up j k = omega arith

power_more : (j k r : ℕ) → times_power (j + k) r ≡ times_power k (times_power j r)
unfolding times_power
power_more zero k r = ap (λ (n : ℕ). times_power n r) (alone k)
power_more (suc j) k r = ap (λ (n : ℕ). times_power n r) (one_up j k) ∙ power_more j k (times_x r)

step_none : times_x 0 ≡ 0
unfolding times_x
step_none = refl

pub power_none : (k : ℕ) → times_power k 0 ≡ 0
unfolding times_power
power_none zero = refl
power_none (suc k) = ap (λ (x : ℕ). times_power k x) step_none ∙ power_none k

-- ---- bytes in their places

-- each byte behind itself and those that follow
unfoldable pub tabled : List ℕ → ℕ
tabled [] = 0
tabled (b ∷ bs) = bit_xor (times_power (8 * (length bs + 1)) b) (tabled bs)

eight_more : (n : ℕ) → 8 * (n + 1) ≡ 8 + 8 * n
eight_more n = omega arith

nothing : (r : ℕ) → r ≡ bit_xor (times_power 0 r) 0
unfolding times_power
nothing r = sym (xor_zero_r r)

pub in_places : (r : ℕ) (bs : List ℕ) → behind_bytes r bs ≡ bit_xor (times_power (8 * length bs) r) (tabled bs)
unfolding behind_bytes behind_byte tabled
in_places r [] = nothing r
in_places r (b ∷ bs) =
    let n : ℕ = length bs in
    let on : times_power (8 * n) (times_power 8 (bit_xor r b)) ≡ times_power (8 * (n + 1)) (bit_xor r b) =
    sym (power_more 8 (8 * n) (bit_xor r b)) ∙ ap (λ (k : ℕ). times_power k (bit_xor r b)) (sym (eight_more n)) in
    in_places (times_power 8 (bit_xor r b)) bs
    ∙ ap (λ (x : ℕ). bit_xor x (tabled bs)) (on ∙ power_sum (8 * (n + 1)) r b)
    ∙ sym (second_off (times_power (8 * (n + 1)) r) (times_power (8 * (n + 1)) b) (tabled bs))
    ∙ ap (λ (k : ℕ). bit_xor (times_power (8 * k) r) (bit_xor (times_power (8 * (n + 1)) b) (tabled bs))) (suc_is n)
  where
    suc_is : (n : ℕ) → n + 1 ≡ suc n
    suc_is n = omega arith

-- the lowest byte of what is left goes as far as the rest and a byte more
byte_apart : (n r : ℕ) → times_power (8 * (n + 1)) r ≡ bit_xor (times_power (8 * (n + 1)) (r % 256)) (times_power (8 * n) (r / 256))
byte_apart n r =
    let h : ℕ = r / 256 in
    let l : ℕ = r % 256 in
    let eight : times_power 8 (doubles 8 h) ≡ h =
    ap (λ (x : ℕ). times_power 8 x) (sym (xor_zero_r (doubles 8 h))) ∙ steps_over 8 h 0
    ∙ ap (λ (x : ℕ). bit_xor h x) (power_none 8) ∙ xor_zero_r h in
    let far : times_power (8 * (n + 1)) (doubles 8 h) ≡ times_power (8 * n) h =
    ap (λ (k : ℕ). times_power k (doubles 8 h)) (eight_more n) ∙ power_more 8 (8 * n) (doubles 8 h)
    ∙ ap (λ (x : ℕ). times_power (8 * n) x) eight in
    ap (λ (x : ℕ). times_power (8 * (n + 1)) x) (split r h l refl refl) ∙ power_sum (8 * (n + 1)) (doubles 8 h) l
    ∙ ap (λ (x : ℕ). bit_xor x (times_power (8 * (n + 1)) l)) far
    ∙ xor_comm (times_power (8 * n) h) (times_power (8 * (n + 1)) l)

-- a byte of what is left meets the byte of its place
meets : (n r b t : ℕ) → bit_xor (times_power (8 * (n + 1)) r) (bit_xor (times_power (8 * (n + 1)) b) t)
    ≡ bit_xor (times_power (8 * (n + 1)) (bit_xor (r % 256) b)) (bit_xor (times_power (8 * n) (r / 256)) t)
meets n r b t =
    ap (λ (x : ℕ). bit_xor x (bit_xor (times_power (8 * (n + 1)) b) t)) (byte_apart n r)
    ∙ swapped (times_power (8 * (n + 1)) (r % 256)) (times_power (8 * n) (r / 256)) (times_power (8 * (n + 1)) b) t
    ∙ ap (λ (x : ℕ). bit_xor x (bit_xor (times_power (8 * n) (r / 256)) t)) (sym (power_sum (8 * (n + 1)) (r % 256) b))

-- eight of them, as they are looked up
pub at_once : (r a b c d e f g h : ℕ) → r < 2 ^ 32 → behind_bytes r (a ∷ b ∷ c ∷ d ∷ e ∷ f ∷ g ∷ h ∷ [])
    ≡ bit_xor (times_power (8 * (7 + 1)) (bit_xor (r % 256) a)) (bit_xor (times_power (8 * (6 + 1)) (bit_xor (r / 256 % 256) b))
    (bit_xor (times_power (8 * (5 + 1)) (bit_xor (r / 256 / 256 % 256) c)) (bit_xor (times_power (8 * (4 + 1)) (bit_xor (r / 256 / 256 / 256) d))
    (bit_xor (times_power (8 * (3 + 1)) e) (bit_xor (times_power (8 * (2 + 1)) f)
    (bit_xor (times_power (8 * (1 + 1)) g) (times_power (8 * (0 + 1)) h)))))))
unfolding tabled
at_once r a b c d e f g h small =
    let back : ℕ = bit_xor (times_power (8 * (3 + 1)) e) (bit_xor (times_power (8 * (2 + 1)) f) (bit_xor (times_power (8 * (1 + 1)) g)
    (bit_xor (times_power (8 * (0 + 1)) h) 0))) in
    let third : ℕ = r / 256 / 256 / 256 in
    let top : third % 256 ≡ third = omega (arith, small) in
    let over : third / 256 ≡ 0 = omega (arith, small) in
    let none : bit_xor (times_power (8 * 4) (third / 256)) back ≡ back =
    ap (λ (x : ℕ). bit_xor (times_power (8 * 4) x) back) over ∙ ap (λ (x : ℕ). bit_xor x back) (power_none (8 * 4)) ∙ xor_zero_l back in
    let last : back ≡ bit_xor (times_power (8 * (3 + 1)) e) (bit_xor (times_power (8 * (2 + 1)) f)
    (bit_xor (times_power (8 * (1 + 1)) g) (times_power (8 * (0 + 1)) h))) =
    ap (λ (x : ℕ). bit_xor (times_power (8 * (3 + 1)) e) (bit_xor (times_power (8 * (2 + 1)) f) (bit_xor (times_power (8 * (1 + 1)) g) x)))
    (xor_zero_r (times_power (8 * (0 + 1)) h)) in
    let fourth = meets 4 third d back ∙ (λ k. bit_xor (times_power (8 * (4 + 1)) (bit_xor (top k) d)) ((none ∙ last) k)) in
    let rest_c : ℕ = bit_xor (times_power (8 * (4 + 1)) d) back in
    let rest_b : ℕ = bit_xor (times_power (8 * (5 + 1)) c) rest_c in
    let rest_a : ℕ = bit_xor (times_power (8 * (6 + 1)) b) rest_b in
    in_places r (a ∷ b ∷ c ∷ d ∷ e ∷ f ∷ g ∷ h ∷ [])
    ∙ meets 7 r a rest_a
    ∙ ap (λ (x : ℕ). bit_xor (times_power (8 * (7 + 1)) (bit_xor (r % 256) a)) x)
    (meets 6 (r / 256) b rest_b
    ∙ ap (λ (x : ℕ). bit_xor (times_power (8 * (6 + 1)) (bit_xor (r / 256 % 256) b)) x)
    (meets 5 (r / 256 / 256) c rest_c
    ∙ ap (λ (x : ℕ). bit_xor (times_power (8 * (5 + 1)) (bit_xor (r / 256 / 256 % 256) c)) x) fourth))

-- a list of eight is its eight
pub are_eight : (l : List ℕ) → length l ≡ 8 → l ≡ get_or l 0 0 ∷ get_or l 1 0 ∷ get_or l 2 0 ∷ get_or l 3 0 ∷ get_or l 4 0
    ∷ get_or l 5 0 ∷ get_or l 6 0 ∷ get_or l 7 0 ∷ []
are_eight (a ∷ b ∷ c ∷ d ∷ e ∷ f ∷ g ∷ h ∷ []) long = refl
are_eight [] long = absurd (omega (arith, long))
are_eight (a ∷ []) long = absurd (omega (arith, long))
are_eight (a ∷ b ∷ []) long = absurd (omega (arith, long))
are_eight (a ∷ b ∷ c ∷ []) long = absurd (omega (arith, long))
are_eight (a ∷ b ∷ c ∷ d ∷ []) long = absurd (omega (arith, long))
are_eight (a ∷ b ∷ c ∷ d ∷ e ∷ []) long = absurd (omega (arith, long))
are_eight (a ∷ b ∷ c ∷ d ∷ e ∷ f ∷ []) long = absurd (omega (arith, long))
are_eight (a ∷ b ∷ c ∷ d ∷ e ∷ f ∷ g ∷ []) long = absurd (omega (arith, long))
are_eight (a ∷ b ∷ c ∷ d ∷ e ∷ f ∷ g ∷ h ∷ i ∷ l) long = absurd (omega (arith, long))
