-- Names that are equal but for the case of ASCII letters.
use Rattle.std.proofs.Common.{◌≡◌, ◌↔◌, ℕ, ◌+◌, ◌==◌, nat_eq, nat_lt, nat_le, ◌&&◌, Bool, true, false, cond, IsTrue}
use Rattle.std.proofs.Common.{List, [], ◌∷◌, map, bytes_eq, refl, sym, subst, ◌∙◌, eqb-true, arith}
use Rattle.std.proofs.lemmas.Bool.Decides.{nat_tests}
use Rattle.std.specs.Str.{str_eq_ignore_ascii_case}
use Rattle.std.specs.Char.{to_ascii_lowercase}
use Rattle.spec_exchange.specs.Texts.{upper, same_name}
use Rattle.law_server.proofs.tables.Logic.{front_of, back_of}

-- a letter in lower case is its upper case's
lower_of : (x : ℕ) → to_ascii_lowercase x ≡ to_ascii_lowercase (upper x)
unfolding upper
lower_of x = grind arith

-- and no small letter is upper case
not_small : (x : ℕ) → (nat_le 97 (upper x) && nat_le (upper x) 122) ≡ false
unfolding upper
not_small x = grind arith

same_lower : (u v : ℕ) → (nat_le 97 u && nat_le u 122) ≡ false → (nat_le 97 v && nat_le v 122) ≡ false
    → (to_ascii_lowercase u == to_ascii_lowercase v) ≡ (u == v)
same_lower u v k l = by (nat_lt u 65) refl (nat_lt u 91) refl (nat_lt v 65) refl (nat_lt v 91) refl
  where
    by : (a : Bool) → nat_lt u 65 ≡ a → (b : Bool) → nat_lt u 91 ≡ b → (c : Bool) → nat_lt v 65 ≡ c → (d : Bool) → nat_lt v 91 ≡ d
        → (cond a u (cond b (u + 32) u) == cond c v (cond d (v + 32) v)) ≡ (u == v)
    by true e b f true g d h = refl
    by true e b f false g true h = grind (arith, nat_tests)
    by true e b f false g false h = refl
    by false e true f true g d h = grind (arith, nat_tests)
    by false e true f false g true h = grind (arith, nat_tests)
    by false e true f false g false h = grind (arith, nat_tests)
    by false e false f true g d h = refl
    by false e false f false g true h = grind (arith, nat_tests)
    by false e false f false g false h = refl

pub same_letter : (x y : ℕ) → (to_ascii_lowercase x == to_ascii_lowercase y) ≡ (upper x == upper y)
same_letter x y = rw (lower_of x, lower_of y) (same_lower (upper x) (upper y) (not_small x) (not_small y))

pub same_name_is : (a b : List ℕ) → str_eq_ignore_ascii_case a b ≡ same_name a b
unfolding same_name
same_name_is [] [] = refl
same_name_is [] (y ∷ ys) = refl
same_name_is (x ∷ xs) [] = refl
same_name_is (x ∷ xs) (y ∷ ys) = rw (same_letter x y, same_name_is xs ys) refl

bytes_refl : (x : List ℕ) → bytes_eq x x ≡ true
bytes_refl [] = refl
bytes_refl (x ∷ xs) = let e = bytes_refl xs in grind arith

bytes_same : (x y : List ℕ) → bytes_eq x y ≡ true → x ≡ y
bytes_same [] [] e = refl
bytes_same [] (y ∷ ys) e = absurd (cc)
bytes_same (x ∷ xs) [] e = absurd (cc)
bytes_same (x ∷ xs) (y ∷ ys) e =
    let k : x ≡ y = eqb-true x y (front_of (nat_eq x y) (bytes_eq xs ys) e) in
    let l = bytes_same xs ys (back_of (nat_eq x y) (bytes_eq xs ys) e) in
    cc

-- a test by the texts in lower case
pub same_by : (r : Bool) (a b : List ℕ) → (IsTrue r ↔ (map to_ascii_lowercase a ≡ map to_ascii_lowercase b)) → r ≡ same_name a b
same_by true a b h = sym (sym (same_name_is a b) ∙ subst (λ (z : List ℕ). bytes_eq (map to_ascii_lowercase a) z ≡ true)
    (h.0 refl) (bytes_refl (map to_ascii_lowercase a)))
same_by false a b h = by (same_name a b) refl
  where
    by : (v : Bool) → same_name a b ≡ v → false ≡ same_name a b
    by true e = absurd (let k = h.1 (bytes_same (map to_ascii_lowercase a) (map to_ascii_lowercase b) (same_name_is a b ∙ e)) in cc)
    by false e = sym e
