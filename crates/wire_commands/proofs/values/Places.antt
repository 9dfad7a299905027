-- An element of a list and those behind it.
use Rattle.std.proofs.Common.{◌≡◌, ℕ, suc, ◌+◌, ◌<◌, List, ◌∷◌, length, drop, map, get_or, sym, ap, ◌∙◌, arith, drop-cons}
use Rattle.std.proofs.Math.ListN.{get_or-map}
use Rattle.std.proofs.lemmas.List.{length-map}

pub front_at : {A B : Type 0} (f : A → B) (xs : List A) (i : ℕ) (d : A) → i < length xs
    → drop i (map f xs) ≡ f (get_or xs i d) ∷ drop (i + 1) (map f xs)
front_at {A} {B} f xs i d inside =
    let cut : drop i (map f xs) ≡ get_or (map f xs) i (f d) ∷ drop (suc i) (map f xs) = drop-cons (map f xs) i (f d)
    (omega (arith, length-map xs f)) in
    let got : get_or (map f xs) i (f d) ≡ f (get_or xs i d) = get_or-map f xs i d in
    let next : suc i ≡ i + 1 = omega arith in
    cut ∙ ap (λ (b : B). b ∷ drop (suc i) (map f xs)) got ∙ ap (λ (n : ℕ). f (get_or xs i d) ∷ drop n (map f xs)) next

pub front_is : {A B : Type 0} (f : A → B) (xs : List A) (i : ℕ) (x : A) → x ≡ get_or xs i x → i < length xs
    → drop i (map f xs) ≡ f x ∷ drop (i + 1) (map f xs)
front_is {A} {B} f xs i x is inside = front_at f xs i x inside ∙ ap (λ (a : A). f a ∷ drop (i + 1) (map f xs)) (sym is)
