-- `shifted` is linear, so the sum can be taken from either end.
use Rattle.std.proofs.Common.{◌≡◌, ℕ, zero, suc, ◌+◌, ◌*◌, ◌/◌, ◌%◌, ◌^◌, ◌<◌, Bool, true, false, cond, eqb, List, []}
use Rattle.std.proofs.Common.{◌∷◌, refl, sym, ap, ◌∙◌, arith}
use Rattle.std.specs.Int.Bits.{bit_xor, xor_assoc, xor_zero_r}
use Rattle.std.proofs.lemmas.Nat.{xor_comm, xor_shr, xor_mod}
use Rattle.spec_crypto.specs.ciphers.Ghash.{shifted, bits_of, sum_at}

pub swapped : (a b c d : ℕ) → bit_xor (bit_xor a b) (bit_xor c d) ≡ bit_xor (bit_xor a c) (bit_xor b d)
swapped a b c d =
    let e : bit_xor b (bit_xor c d) ≡ bit_xor c (bit_xor b d) = sym (xor_assoc b c d) ∙ ap (λ (x : ℕ). bit_xor x d)
    (xor_comm b c) ∙ xor_assoc c b d in
    xor_assoc a b (bit_xor c d) ∙ ap (λ (x : ℕ). bit_xor a x) e ∙ sym (xor_assoc a c (bit_xor b d))

abbrev low : ℕ → ℕ
low i = cond (eqb i 1) (225 * 2 ^ 120) 0

low-xor : (i j : ℕ) → i < 2 → j < 2 → low (bit_xor i j) ≡ bit_xor (low i) (low j)
low-xor zero zero a b = refl
low-xor zero (suc zero) a b = refl
low-xor (suc zero) zero a b = refl
low-xor (suc zero) (suc zero) a b = refl
low-xor (suc (suc i)) j a b = absurd (omega arith)
low-xor zero (suc (suc j)) a b = absurd (omega arith)
low-xor (suc zero) (suc (suc j)) a b = absurd (omega arith)

pub shifted-xor : (a b : ℕ) → shifted (bit_xor a b) ≡ bit_xor (shifted a) (shifted b)
unfolding shifted
shifted-xor a b =
    let half : bit_xor a b / 2 ≡ bit_xor (a / 2) (b / 2) = xor_shr a b 1 in
    let rest : bit_xor a b % 2 ≡ bit_xor (a % 2) (b % 2) = xor_mod a b 1 in
    let lows : low (bit_xor a b % 2) ≡ bit_xor (low (a % 2)) (low (b % 2)) = ap low rest ∙ low-xor (a % 2) (b % 2)
    (omega arith) (omega arith) in
    rw (half, lows) (swapped (a / 2) (b / 2) (low (a % 2)) (low (b % 2)))

pub shifted-cond : (b : Bool) (v : ℕ) → cond b (shifted v) 0 ≡ shifted (cond b v 0)
unfolding shifted
shifted-cond true v = refl
shifted-cond false v = refl

zero_case : 0 ≡ shifted 0
unfolding shifted
zero_case = refl

pub sum_at-shifted : (bs : List Bool) (v : ℕ) → sum_at bs (shifted v) ≡ shifted (sum_at bs v)
unfolding sum_at
sum_at-shifted [] v = zero_case
sum_at-shifted (b ∷ bs) v = rw (sum_at-shifted bs (shifted v), shifted-cond b v) (sym (shifted-xor (cond b v 0) (sum_at bs (shifted v))))

-- one step from the front
pub step : (z v x m k total : ℕ) → k ≡ suc m → bit_xor z (sum_at (bits_of k x) v) ≡ total
    → bit_xor (bit_xor z (cond (eqb (x / 2 ^ m % 2) 1) v 0)) (sum_at (bits_of m x) (shifted v)) ≡ total
unfolding bits_of sum_at
step z v x m k total e so_far =
    let same : bit_xor z (sum_at (bits_of (suc m) x) v) ≡ total = rw e at so_far in
    xor_assoc z (cond (eqb (x / 2 ^ m % 2) 1) v 0) (sum_at (bits_of m x) (shifted v)) ∙ same

-- nothing is left
pub ended : (z v x k total : ℕ) → k ≡ 0 → bit_xor z (sum_at (bits_of k x) v) ≡ total → z ≡ total
unfolding bits_of sum_at
ended z v x k total e so_far =
    let same : bit_xor z (sum_at (bits_of 0 x) v) ≡ total = rw e at so_far in
    sym (xor_zero_r z) ∙ same

-- one step from the end
pub step_back : (x h m z : ℕ) → z ≡ sum_at (bits_of m x) h → bit_xor (cond (eqb (x / 2 ^ m % 2) 1) h 0) (shifted z) ≡
    sum_at (bits_of (m + 1) x) h
unfolding bits_of sum_at
step_back x h m z e =
    let k : m + 1 ≡ suc m = omega arith in
    rw (k, e, sum_at-shifted (bits_of m x) h) refl

pub at_none : (x h : ℕ) → 0 ≡ sum_at (bits_of 0 x) h
unfolding bits_of sum_at
at_none x h = refl
