-- The index of deadlines: pairs in their order, and what a change at one leaves.
use Rattle.std.proofs.Common.{◌≡◌, ◌≤◌, ℕ, ◌==◌, nat_lt, Bool, true, false, ◌&&◌, cond, refl, ◌∙◌, arith}
use Rattle.std.proofs.lemmas.Bool.Decides.{nat_tests}
use Rattle.std.specs.Ordering.{is_gt}
use Rattle.std.specs.BTreeMap.{is_at}
use Rattle.store_opens.specs.open_index.Index.{pair_cmp}

pub pair_at : (a b c d : ℕ) → is_at (pair_cmp (a, b)) (c, d) ≡ ((c == a) && (d == b))
pair_at a b c d = grind (arith, nat_tests)

-- the first pair stands before this one, or is the same
pub first_least : (a b c d : ℕ) → is_gt (pair_cmp (a, b) (c, d)) ≡ false → nat_lt c a ≡ false
first_least a b c d h = grind (arith, nat_tests)

pub none_below : (a c now : ℕ) → nat_lt c a ≡ false → (a ≤ now) ≡ (a ≤ now) → nat_lt now a ≡ true → c ≤ now → nat_lt a a ≡ true
none_below a c now h e l m = absurd (grind (arith, nat_tests))

pub other_pair : (a b c d : ℕ) → (d == b) ≡ false → is_at (pair_cmp (a, b)) (c, d) ≡ false
other_pair a b c d ne = pair_at a b c d ∙ grind arith

-- what is at or below a number isn't there, where the first pair is above it
pub below_first : (a b now c d : ℕ) (there : Bool) → (there ≡ true → is_gt (pair_cmp (a, b) (c, d)) ≡ false)
    → nat_lt now a ≡ true → c ≤ now → there ≡ false
below_first a b now c d true f l m = absurd (let k = first_least a b c d (f refl) in grind (arith, nat_tests))
below_first a b now c d false f l m = refl

-- what is put in keeps what was in
pub or_true : (b there : Bool) → there ≡ true → cond b true there ≡ true
or_true true there h = refl
or_true false there h = h
