-- What was told, against what was offered.
use Rattle.std.proofs.Common.{◌≡◌, ℕ, suc, ◌==◌, Bool, true, false, not, if◌then◌else◌, List, [], ◌∷◌, length, get_or, Option, Some, None}
use Rattle.std.proofs.Common.{refl, sym, ◌∙◌, arith}
use Rattle.std.proofs.lemmas.Bool.Decides.{nat_tests}
use Rattle.spec_exchange.specs.Operations.{Refusal, BadChoice, NoSha512}
use Rattle.spec_wire.specs.messages.Offer.{has_id}
use Rattle.spec_world.specs.Dialog.{first_or, was_offered}

-- ---- one list

one_number : (n k : ℕ) → (n == k) ≡ true → n ≡ k
one_number n k e = grind (arith, nat_tests)

has_one : (n : ℕ) → (suc n == 0) ≡ true → ⊥
has_one n e = let none : suc n ≡ 0 = one_number (suc n) 0 e in omega (arith, none)

pub of_none : (offered told : List ℕ) → (length told == 0) ≡ true → was_offered offered told ≡ true
of_none offered [] e = refl
of_none offered (x ∷ xs) e = absurd (has_one (length xs) e)

pub of_one : (offered told : List ℕ) → length told ≡ 1 → was_offered offered told ≡ has_id (get_or told 0 0) offered
of_one offered [] e = absurd (omega (arith, e))
of_one offered (x ∷ []) e = refl
of_one offered (x ∷ y ∷ xs) e = absurd (omega (arith, e))

pub of_more : (offered told : List ℕ) → (length told == 0) ≡ false → (length told ≡ 1 → ⊥) → was_offered offered told ≡ false
of_more offered [] some more = absurd cc
of_more offered (x ∷ []) some more = absurd (more refl)
of_more offered (x ∷ y ∷ xs) some more = refl

pub first_none : (other : ℕ) (ids : List ℕ) → (length ids == 0) ≡ true → first_or other ids ≡ other
first_none other [] e = refl
first_none other (x ∷ xs) e = absurd (has_one (length xs) e)

pub first_one : (other : ℕ) (ids : List ℕ) → (length ids == 0) ≡ false → first_or other ids ≡ get_or ids 0 0
first_one other [] some = absurd cc
first_one other (x ∷ xs) some = refl

-- a test of two lists that are those that are meant
pub offered_as : (a b offered told : List ℕ) (r v : Bool) → a ≡ offered → b ≡ told → r ≡ was_offered a b → r ≡ v
    → was_offered offered told ≡ v
offered_as a b offered told r v e f o is = (λ i. was_offered (sym e i) (sym f i)) ∙ (sym o ∙ is)

-- ---- the first fault, by its tests

abbrev pub by_tests : Bool → Bool → Bool → Bool → Bool → Option Refusal
by_tests dialect sha512 one cipher signing =
    if not dialect then Some (BadChoice 1)
    else if not sha512 then Some NoSha512
    else if not one then Some (BadChoice 2)
    else if not cipher then Some (BadChoice 3)
    else if not signing then Some (BadChoice 4)
    else None

pub is_other : (n k : ℕ) → (n ≡ k → ⊥) → (n == k) ≡ false
is_other n k h = grind (arith, nat_tests)

pub is_same : (n k : ℕ) → n ≡ k → (n == k) ≡ true
is_same n k e = grind arith

pub by_dialect : (d s h c g : Bool) → d ≡ false → Some (BadChoice 1) ≡ by_tests d s h c g
by_dialect true s h c g e = absurd cc
by_dialect false s h c g e = refl

pub by_sha512 : (d s h c g : Bool) → d ≡ true → s ≡ false → Some NoSha512 ≡ by_tests d s h c g
by_sha512 false s h c g e f = absurd cc
by_sha512 true true h c g e f = absurd cc
by_sha512 true false h c g e f = refl

pub by_hash : (d s h c g : Bool) → d ≡ true → s ≡ true → h ≡ false → Some (BadChoice 2) ≡ by_tests d s h c g
by_hash d s h c g e f k = sym (λ i. by_tests (e i) (f i) (k i) c g)

pub by_cipher : (d s h c g : Bool) → d ≡ true → s ≡ true → h ≡ true → c ≡ false → Some (BadChoice 3) ≡ by_tests d s h c g
by_cipher d s h c g e f k l = sym (λ i. by_tests (e i) (f i) (k i) (l i) g)

pub by_signing : (d s h c g : Bool) → d ≡ true → s ≡ true → h ≡ true → c ≡ true → g ≡ false
    → Some (BadChoice 4) ≡ by_tests d s h c g
by_signing d s h c g e f k l o = sym (λ i. by_tests (e i) (f i) (k i) (l i) (o i))

pub by_none : (d s h c g : Bool) → d ≡ true → s ≡ true → h ≡ true → c ≡ true → g ≡ true → None ≡ by_tests d s h c g
by_none d s h c g e f k l o = sym (λ i. by_tests (e i) (f i) (k i) (l i) (o i))
