-- Bools and options, given explicitly, so that no tactic has to find them.
use Rattle.std.proofs.Common.{◌≡◌, ℕ, Bool, true, false, not, ◌&&◌, ◌||◌, if◌then◌else◌, refl, eqb-true, ap, Option, Some, None, is_some}
use Rattle.spec_exchange.specs.Table.{is_at}

pub either : {X : Type 0} (P : X → Type 0) (b : Bool) (x y : X) → (b ≡ true → P x) → (b ≡ false → P y) → P (if b then x else y)
either P true x y f g = f refl
either P false x y f g = g refl

pub front_of : (x y : Bool) → (x && y) ≡ true → x ≡ true
front_of true y e = refl
front_of false y e = e

pub back_of : (x y : Bool) → (x && y) ≡ true → y ≡ true
back_of true y e = e
back_of false y e = absurd (cc)

pub both : (x y : Bool) → x ≡ true → y ≡ true → (x && y) ≡ true
both true y e f = f
both false y e f = e

pub front_off : (x y : Bool) → (x || y) ≡ false → x ≡ false
front_off true y e = e
front_off false y e = refl

pub back_off : (x y : Bool) → (x || y) ≡ false → y ≡ false
back_off true y e = absurd (cc)
back_off false y e = e

-- one of the two is off
pub other_off : (x y : Bool) → (x && y) ≡ false → x ≡ true → y ≡ false
other_off true y e h = e
other_off false y e h = absurd (cc)

pub other_on : (x y : Bool) → (x || y) ≡ true → x ≡ false → y ≡ true
other_on true y e h = absurd (cc)
other_on false y e h = e

pub not_true : (b : Bool) → not b ≡ true → b ≡ false
not_true true e = absurd (cc)
not_true false e = refl

pub not_false : (b : Bool) → not b ≡ false → b ≡ true
not_false true e = refl
not_false false e = absurd (cc)

pub none_of : {X : Type 0} (o : Option X) → is_some o ≡ false → o ≡ None
none_of None e = refl
none_of (Some x) e = absurd (cc)

pub at_of : (n : ℕ) (o : Option ℕ) → is_at n o ≡ true → o ≡ Some n
at_of n None e = absurd (cc)
at_of n (Some i) e = ap Some (eqb-true i n e)
