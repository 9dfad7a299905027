-- The form of a LOCK.
use Rattle.std.proofs.Common.{◌≡◌, ◌∙◌, ◌==◌, ◌||◌, if◌then◌else◌, Bool, true, false, ℕ, Option, Some, None, List, []}
use Rattle.std.proofs.Common.{◌∷◌, length, refl, arith}
use Rattle.spec_exchange.specs.Commands.{Element, all_lock, all_unlock, lock_form}

-- by whether all lock or all unlock
abbrev alike : Bool → Option ℕ
alike true = None
alike false = Some 0xc000_000d

alike_is : (b : Bool) → alike b ≡ (if b then None else Some 0xc000_000d)
alike_is true = refl
alike_is false = refl

form_is : (x : Element) (xs : List Element) → alike (all_lock (x ∷ xs) || all_unlock (x ∷ xs)) ≡ lock_form (x ∷ xs)
form_is x xs = alike_is (all_lock (x ∷ xs) || all_unlock (x ∷ xs))

one : (a b : Bool) → a ≡ true → None ≡ alike (a || b)
one true b e = refl
one false b e = absurd (cc)

other : (a b : Bool) → b ≡ true → None ≡ alike (a || b)
other true b e = refl
other false true e = refl
other false false e = absurd (cc)

neither : (a b : Bool) → a ≡ false → b ≡ false → Some 0xc000_000d ≡ alike (a || b)
neither true b e f = absurd (cc)
neither false true e f = absurd (cc)
neither false false e f = refl

pub empty_form : (es : List Element) → (length es == 0) ≡ true → Some 0xc000_000d ≡ lock_form es
empty_form [] e = refl
empty_form (x ∷ xs) e = grind arith

pub locking_form : (es : List Element) → (length es == 0) ≡ false → all_lock es ≡ true → None ≡ lock_form es
locking_form [] f e = grind arith
locking_form (x ∷ xs) f e = one (all_lock (x ∷ xs)) (all_unlock (x ∷ xs)) e ∙ form_is x xs

pub unlocking_form : (es : List Element) → (length es == 0) ≡ false → all_unlock es ≡ true → None ≡ lock_form es
unlocking_form [] f e = grind arith
unlocking_form (x ∷ xs) f e = other (all_lock (x ∷ xs)) (all_unlock (x ∷ xs)) e ∙ form_is x xs

pub mixed_form : (es : List Element) → all_lock es ≡ false → all_unlock es ≡ false → Some 0xc000_000d ≡ lock_form es
mixed_form [] e f = refl
mixed_form (x ∷ xs) e f = neither (all_lock (x ∷ xs)) (all_unlock (x ∷ xs)) e f ∙ form_is x xs
