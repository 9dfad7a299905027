-- How many bytes a body adds.
use Rattle.std.proofs.Common.{◌≡◌, ◌≤◌, ◌<◌, ℕ, ◌+◌, ◌==◌, ◌||◌, nat_le, Bool, true, false, List, [], ◌∷◌, length, arith}
use Rattle.std.proofs.lemmas.Bool.Decides.{nat_tests}
use Rattle.journal_bytes.specs.record_bodies.Body.{added_by, fits_by}

within : (x n : ℕ) → nat_le x n ≡ true → x ≤ n
within x n e = grind (arith, nat_tests)

other : (b c : Bool) → b ≡ false → (b || c) ≡ true → c ≡ true
other true c e h = absurd (cc)
other false c e h = h

pub some_fits : (used n : ℕ) → 0 < n → fits_by used n ≡ true → used + 5 + n ≤ 939524096
some_fits used n l h =
    let some : (n == 0) ≡ false = grind (arith, nat_tests) in
    within (used + 5 + n) 939524096 (other (n == 0) (nat_le (used + 5 + n) 939524096) some h)

pub none_added : (used n : ℕ) (b : List ℕ) → n ≡ 0 → length b ≡ n → used ≡ used + added_by b
none_added used n [] z e = omega arith
none_added used n (c ∷ cs) z e = absurd (omega (arith, z, e))

pub some_added : (used n new : ℕ) (b : List ℕ) → 0 < n → length b ≡ n → new ≡ used + 5 + n → new ≡ used + added_by b
some_added used n new [] l e h = absurd (omega (arith, l, e))
some_added used n new (c ∷ cs) l e h = omega (arith, e, h)
