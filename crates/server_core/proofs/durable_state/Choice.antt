-- Which of two states stands behind a test.
use Rattle.std.proofs.Common.{◌≡◌, ℕ, ◌≤◌, ◌<◌, ◌==◌, nat_le, nat_lt, Bool, true, false, not, ◌&&◌, ◌||◌, if◌then◌else◌}
use Rattle.std.proofs.Common.{refl, sym, ap, eqb-true, arith}
use Rattle.std.proofs.lemmas.Bool.Decides.{nat_tests}
use Rattle.law_server.proofs.tables.Logic.{either}

pub clash : (b : Bool) → b ≡ false → b ≡ true → ⊥
clash b e f = cc

pub on : {X : Type 0} (P : X → Type 0) (b : Bool) (x y : X) → b ≡ true → P x → P (if b then x else y)
on P b x y e p = either P b x y (λ _. p) (λ f. absurd (clash b f e))

pub off : {X : Type 0} (P : X → Type 0) (b : Bool) (x y : X) → b ≡ false → P y → P (if b then x else y)
off P b x y e p = either P b x y (λ t. absurd (clash b e t)) (λ _. p)

pub first_off : (a b : Bool) → a ≡ false → (a && b) ≡ false
first_off true b e = absurd (cc)
first_off false b e = refl

pub second_off : (a b : Bool) → b ≡ false → (a && b) ≡ false
second_off true b e = e
second_off false b e = refl

pub not_on : (a : Bool) → a ≡ false → not a ≡ true
not_on true e = absurd (cc)
not_on false e = refl

pub not_off : (a : Bool) → a ≡ true → not a ≡ false
not_off true e = refl
not_off false e = absurd (cc)

pub and_on : (a b : Bool) → a ≡ true → b ≡ (a && b)
and_on true b e = refl
and_on false b e = absurd (cc)

pub all_three : (a p o r : Bool) → a ≡ true → p ≡ true → r ≡ o → not r ≡ (a && (p && not o))
all_three true true o r e h k = ap (λ (b : Bool). not b) k
all_three true false o r e h k = absurd (cc)
all_three false p o r e h k = absurd (cc)

pub or_first : (a b : Bool) → a ≡ true → true ≡ (a || b)
or_first true b e = refl
or_first false b e = absurd (cc)

pub or_second : (a b r : Bool) → a ≡ false → r ≡ b → r ≡ (a || b)
or_second true b r e h = absurd (cc)
or_second false b r e h = h

-- ---- tests on numbers

pub eq_on : (a b : ℕ) → a ≡ b → (a == b) ≡ true
eq_on a b e = grind arith

pub eq_off : (a b : ℕ) → (a ≡ b → ⊥) → (a == b) ≡ false
eq_off a b n = grind arith

pub lt_on : (a b : ℕ) → a < b → nat_lt a b ≡ true
lt_on a b l = grind (arith, nat_tests)

pub lt_off : (a b : ℕ) → b ≤ a → nat_lt a b ≡ false
lt_off a b l = grind (arith, nat_tests)

pub le_on : (a b : ℕ) → a ≤ b → nat_le a b ≡ true
le_on a b l = grind (arith, nat_tests)

pub le_off : (a b : ℕ) → b < a → nat_le a b ≡ false
le_off a b l = grind (arith, nat_tests)

pub lt_le : (a b : ℕ) → nat_lt a b ≡ not (nat_le b a)
lt_le a b = grind (arith, nat_tests)

pub le_lt : (a b : ℕ) → nat_le a b ≡ not (nat_lt b a)
le_lt a b = grind (arith, nat_tests)

pub eq_flip : (a b : ℕ) → (a == b) ≡ (b == a)
eq_flip a b = by (a == b) refl
  where
    by : (c : Bool) → (a == b) ≡ c → c ≡ (b == a)
    by true h = sym (eq_on b a (sym (eqb-true a b h)))
    by false h = sym (eq_off b a (λ m. clash (a == b) h (eq_on a b (sym m))))

pub neither : (x y : Bool) → (not x && not y) ≡ not (x || y)
neither true y = refl
neither false y = refl
