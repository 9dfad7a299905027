-- How many connections there are of which something holds: no list of distinct ones is longer.
use Rattle.std.proofs.Common.{◌≡◌, ℕ, suc, ◌+◌, ◌<◌, ◌≤◌, ◌==◌, Bool, true, false, List, [], ◌∷◌, length, refl, subst, eqb-true, arith}

abbrev pub AllOff : ℕ → List ℕ → Type 0
AllOff k [] = Unit {0}
AllOff k (j ∷ js) = ((j == k) ≡ false) × AllOff k js

abbrev pub AreDistinct : List ℕ → Type 0
AreDistinct [] = Unit {0}
AreDistinct (k ∷ ks) = AllOff k ks × AreDistinct ks

abbrev pub AllOf : (ℕ → Type 0) → List ℕ → Type 0
AllOf P [] = Unit {0}
AllOf P (k ∷ ks) = P k × AllOf P ks

-- n and as many as there are of these are at most top
abbrev pub IsFew : (ℕ → Type 0) → ℕ → ℕ → Type 0
IsFew P n top = (ks : List ℕ) → AreDistinct ks → AllOf P ks → n + length ks ≤ top

-- ---- of fewer, and of a higher one

all_by : (P Q : ℕ → Type 0) (ks : List ℕ) → ((j : ℕ) → Q j → P j) → AllOf Q ks → AllOf P ks
all_by P Q [] f h = tt
all_by P Q (k ∷ ks) f h = (f k h.0, all_by P Q ks f h.1)

up_to : (n l top more : ℕ) → n + l ≤ top → top ≤ more → n + l ≤ more
up_to n l top more h i = omega (arith, h, i)

pub few_by : (P Q : ℕ → Type 0) (n top more : ℕ) → ((j : ℕ) → Q j → P j) → top ≤ more → IsFew P n top → IsFew Q n more
few_by P Q n top more f low h ks d a = up_to n (length ks) top more (h ks d (all_by P Q ks f a)) low

-- there are none
pub few_none : (P : ℕ → Type 0) (n top : ℕ) → ((j : ℕ) → P j → ⊥) → n ≤ top → IsFew P n top
few_none P n top off low [] d a = omega (arith, low)
few_none P n top off low (k ∷ ks) d a = absurd (off k a.0)

-- ---- one of them goes, and is counted

all_off_by : (Q : ℕ → Type 0) (k : ℕ) (ks : List ℕ) → ((j : ℕ) → Q j → (j == k) ≡ false) → AllOf Q ks → AllOff k ks
all_off_by Q k [] f a = tt
all_off_by Q k (j ∷ js) f a = (f j a.0, all_off_by Q k js f a.1)

one_up : (n l top : ℕ) → n + suc l ≤ top → (n + 1) + l ≤ top
one_up n l top h = omega (arith, h)

pub few_less : (P Q : ℕ → Type 0) (k n top : ℕ) → P k → ((j : ℕ) → Q j → P j) → ((j : ℕ) → Q j → (j == k) ≡ false) → IsFew P n top
    → IsFew Q (n + 1) top
few_less P Q k n top here f off h ks d a =
    one_up n (length ks) top (h (k ∷ ks) (all_off_by Q k ks off a, d) (here, all_by P Q ks f a))

-- ---- one more

record Rest (P : ℕ → Type 0) (k : ℕ) (ks : List ℕ) : Type 0 where
  rest : List ℕ
  distinct : AreDistinct rest
  all : AllOf P rest
  off : (i : ℕ) → AllOff i ks → AllOff i rest
  length_is : length ks ≤ 1 + length rest

-- those that are another one
all_others : (P Q : ℕ → Type 0) (k : ℕ) (ks : List ℕ) → ((j : ℕ) → (j == k) ≡ false → Q j → P j) → AllOff k ks → AllOf Q ks → AllOf P ks
all_others P Q k [] f off a = tt
all_others P Q k (j ∷ js) f off a = (f j off.0 a.0, all_others P Q k js f off.1 a.1)

longer : (l r : ℕ) → l ≤ 1 + r → suc l ≤ 1 + suc r
longer l r h = omega (arith, h)

no_shorter : (l : ℕ) → suc l ≤ 1 + l
no_shorter l = omega arith

rest_of : (P Q : ℕ → Type 0) (k : ℕ) → ((j : ℕ) → (j == k) ≡ false → Q j → P j) → (ks : List ℕ) → AreDistinct ks → AllOf Q ks → Rest P k ks
rest_of P Q k f [] d a = record { rest = []; distinct = tt; all = tt; off = λ i h. tt; length_is = omega arith }
rest_of P Q k f (j ∷ js) d a = by (rest_of P Q k f js d.1 a.1) (j == k) refl
  where
    by : Rest P k js → (b : Bool) → j == k ≡ b → Rest P k (j ∷ js)
    by r true e =
        let same : j ≡ k = eqb-true j k e in
        let apart : AllOff k js = subst (λ i. AllOff i js) same d.0 in
        record {
          rest = js;
          distinct = d.1;
          all = all_others P Q k js f apart a.1;
          off = λ i h. h.1;
          length_is = no_shorter (length js);
        }
    by r false e =
        record {
          rest = j ∷ r.rest;
          distinct = (r.off j d.0, r.distinct);
          all = (f j e a.0, r.all);
          off = λ i h. (h.0, r.off i h.1);
          length_is = longer (length js) (length r.rest) r.length_is;
        }

one_more : (n l r top more : ℕ) → n + r ≤ top → l ≤ 1 + r → top < more → n + l ≤ more
one_more n l r top more h i low = omega (arith, h, i, low)

pub few_more : (P Q : ℕ → Type 0) (k n top more : ℕ) → ((j : ℕ) → (j == k) ≡ false → Q j → P j) → top < more → IsFew P n top
    → IsFew Q n more
few_more P Q k n top more f low h ks d a =
    let r = rest_of P Q k f ks d a in
    one_more n (length ks) (length r.rest) top more (h r.rest r.distinct r.all) r.length_is low
