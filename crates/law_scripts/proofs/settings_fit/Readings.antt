-- What a reading gave, from its steps.
use Rattle.std.proofs.Common.{◌≡◌, ℕ, Bool, true, false, not, if◌then◌else◌, List, Result, Ok, Err, refl, ap}
use Rattle.script_words.specs.Outcome.{◌>>=◌}
use Rattle.script_words.specs.Parts.{Reading, said_by}
use Rattle.script_words.specs.declared.values.Code.{Code}

-- both steps gave something
pub steps : {A B E : Type 0} (r : Result A E) (f : A → Result B E) (y : B) → (r >>= f) ≡ Ok y
    → (x : A) × (r ≡ Ok x) × (f x ≡ Ok y)
steps (Ok x) f y e = (x, refl, e)
steps (Err why) f y e = absurd cc

-- one of two readings gave it
pub chosen : {A E C : Type 0} (b : Bool) (r s : Result A E) (x : A) → (if b then r else s) ≡ Ok x
    → (r ≡ Ok x → C) → (b ≡ false → s ≡ Ok x → C) → C
chosen true r s x e f g = f e
chosen false r s x e f g = g refl e

-- what would have been refused wasn't so
pub unrefused : {A E : Type 0} (b : Bool) (why : E) (r : Result A E) (x : A) → (if b then Err why else r) ≡ Ok x → (b ≡ false) × (r ≡ Ok x)
unrefused true why r x e = absurd cc
unrefused false why r x e = (refl, e)

pub passed : {A E : Type 0} (b : Bool) (r : Result A E) (why : E) (x : A) → (if b then r else Err why) ≡ Ok x → (b ≡ true) × (r ≡ Ok x)
passed true r why x e = (refl, e)
passed false r why x e = absurd cc

-- ---- values behind `Ok` and `Some`

abbrev pub value_or : {A E : Type 0} → A → Result A E → A
value_or x (Ok y) = y
value_or x (Err why) = x

abbrev pub coded : {A : Type 0} → A → Result A Code
coded x = Ok x

pub same : {A : Type 0} (x y : A) → coded x ≡ Ok y → x ≡ y
same x y e = ap (value_or x) e

-- the front of what was read
abbrev pub read : {A : Type 0} → A → List (List ℕ) → Reading A
read x more = Ok (x, more)

pub front : {A : Type 0} (x : A) (more : List (List ℕ)) (p : A × List (List ℕ)) → read x more ≡ Ok p → x ≡ p.0
front {A} x more p e = ap (λ (q : Reading A). (value_or p q).0) e

pub spoken : {A : Type 0} (r : Result A Code) (more : List (List ℕ)) (p : A × List (List ℕ)) → said_by r more ≡ Ok p → r ≡ Ok p.0
spoken {A} (Ok x) more p e = ap {B = Result A Code} Ok (front x more p e)
spoken (Err why) more p e = absurd cc

pub not_false : (b : Bool) → not b ≡ false → b ≡ true
not_false true e = refl
not_false false e = absurd cc
