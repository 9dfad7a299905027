-- A last call whose result is returned as it is, and lookups by name.
use Rattle.std.proofs.Common.{◌≡◌, ◌∙◌, ◌&&◌, ◌||◌, ℕ, Bool, true, false, if◌then◌else◌, refl, Option, Some, None, is_some}
use Rattle.std.specs.Prelude.{Result, IfOk}
use Rattle.std.proofs.lemmas.Result.{IfOk-weaker}

pub passed : {X Y V : Type 0} (r : Result X Y) (g : X → V) (u w : V) → u ≡ w → IfOk r (λ v. g v ≡ u) → IfOk r (λ v. g v ≡ w)
passed r g u w e h = IfOk-weaker r (λ v. g v ≡ u) (λ v. g v ≡ w) (λ v p. p ∙ e) h

-- ---- what can't be

pub no_value : (o : Option ℕ) → o ≡ None → is_some o ≡ true → ⊥
no_value None e h = absurd (cc)
no_value (Some n) e h = absurd (cc)

pub front_on : (x y : Bool) → x ≡ true → (x || y) ≡ false → ⊥
front_on true y e h = absurd (cc)
front_on false y e h = absurd (cc)

pub back_on : (x y : Bool) → y ≡ true → (x || y) ≡ false → ⊥
back_on true y e h = absurd (cc)
back_on false y e h = absurd (cc)

-- ---- choices

pub then_is : {X : Type 0} (b : Bool) (x y : X) → b ≡ true → x ≡ (if b then x else y)
then_is true x y e = refl
then_is false x y e = absurd (cc)

pub else_is : {X : Type 0} (b : Bool) (x y : X) → b ≡ false → y ≡ (if b then x else y)
else_is true x y e = absurd (cc)
else_is false x y e = refl

pub front_out : (x y : Bool) → x ≡ false → false ≡ (x && y)
front_out true y e = absurd (cc)
front_out false y e = refl

pub back_is : (x y z : Bool) → x ≡ true → y ≡ z → y ≡ (x && z)
back_is true y z e f = f
back_is false y z e f = absurd (cc)
