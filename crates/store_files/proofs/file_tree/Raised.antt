-- Text stays UTF-8 when its letters a to z become A to Z.
use mathlib.Core.Path.{◌≡◌, refl, sym, ap, ◌∙◌}
use mathlib.Core.Bool.{Bool, true, false, cond, ◌&&◌}
use mathlib.Core.Logic.{⊎_elim}
use mathlib.Core.List.{List, [], ◌∷◌, ◌++◌, map}
use Prim.Native.Nat.{ℕ, ◌-◌, ◌≤◌, ◌<◌}
use native.Mathlib.Omega.{arith}
use lib.Dec.{ltb}
use lib.Utf8.{scalar, scalars, encode, encodes, scalar_cases, low_scalar}
use borrow.Author.Tests.{le-ltb}
use Rattle.std.specs.Str.{IsUtf8}
use Rattle.std.specs.Char.{to_ascii_uppercase}
use Rattle.std.proofs.str.Laws.{Shape, of1, of2, of3, of4, shape, one, both, order}

map-append : (f : ℕ → ℕ) (xs ys : List ℕ) → map f (xs ++ ys) ≡ map f xs ++ map f ys
map-append f [] ys = refl
map-append f (x ∷ xs) ys = ap (λ l. f x ∷ l) (map-append f xs ys)

module _ (f : ℕ → ℕ) (low : (b : ℕ) → b < 128 → f b < 128) (high : (b : ℕ) → 128 ≤ b → f b ≡ b) where
  wide : (c : ℕ) (bs : List ℕ) → 128 ≤ c → encode c ≡ bs → map f bs ≡ bs → map f (encode c) ≡ encode (f c)
  wide c bs le e same = ap (map f) e ∙ same ∙ sym e ∙ ap encode (sym (high c le))

  long : (c : ℕ) → 128 ≤ c → Shape c → map f (encode c) ≡ encode (f c)
  long c le (of1 h e) = absurd (omega arith)
  long c le (of2 a b p q u v e) = wide c _ le e (λ i. high a (omega arith) i ∷ high b u.0 i ∷ [])
  long c le (of3 a b d p q u u' v e) = wide c _ le e (λ i. high a (omega arith) i ∷ high b u.0 i ∷ high d u'.0 i ∷ [])
  long c le (of4 a b d k p q u u' u'' v e) = wide c _ le e (λ i. high a (omega arith) i ∷ high b u.0 i ∷ high d u'.0 i ∷
      high k u''.0 i ∷ [])

  letter : (c : ℕ) → Shape c → map f (encode c) ≡ encode (f c)
  letter c s = ⊎_elim (λ h. ap (map f) (one c h) ∙ sym (one (f c) (low c h))) (λ h. long c h s) (order c 128)

  stays : (c : ℕ) → scalar c ≡ true → scalar (f c) ≡ true
  stays c e = ⊎_elim (λ h. let k = low c h in low_scalar (f c) (omega arith)) (λ h. ap scalar (high c h) ∙ e) (order c 128)

  letters : (cs : List ℕ) → scalars cs ≡ true → (scalars (map f cs) ≡ true) × (encodes (map f cs) ≡ map f (encodes cs))
  letters [] e = (refl, refl)
  letters (c ∷ cs) e =
      let are = both (scalar c) (scalars cs) e in
      let rest = letters cs are.1 in (
        ap (λ y. y && scalars (map f cs)) (stays c are.0) ∙ rest.0,
        (λ i. sym (letter c (shape c (scalar_cases c are.0))) i ++ rest.1 i)
            ∙ sym (map-append f (encode c) (encodes cs)),
      )

  pub changed : (bs : List ℕ) → IsUtf8 bs → IsUtf8 (map f bs)
  changed bs u = let on = letters u.0 u.1.0 in (map f u.0, (on.0, on.1 ∙ ap (map f) u.1.1))

small : (x y : Bool) (b v : ℕ) → b < 128 → (y ≡ true → v < 128) → cond x b (cond y v b) < 128
small true y b v h k = h
small false true b v h k = k refl
small false false b v h k = h

kept : (x y : Bool) (b v : ℕ) → y ≡ false → cond x b (cond y v b) ≡ b
kept true y b v e = refl
kept false y b v e = ap (λ z. cond z v b) e

pub raised : (bs : List ℕ) → IsUtf8 bs → IsUtf8 (map to_ascii_uppercase bs)
raised = changed to_ascii_uppercase (λ b h. small (ltb b 97) (ltb b 123) b (b - 32) h (λ _. omega arith))
    (λ b h. kept (ltb b 97) (ltb b 123) b (b - 32) (le-ltb b 123 (omega arith)))
