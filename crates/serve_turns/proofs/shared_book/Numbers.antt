-- Lists of numbers of which none comes twice, and the numbers that a seat holds.
use Rattle.std.proofs.Common.{◌≡◌, ◌≢◌, ◌⊎◌, inl, inr, ℕ, List, [], ◌∷◌, ◌++◌, Some, None, Bool, true, refl, sym, ap, ◌∙◌}
use Rattle.std.proofs.Common.{subst, ⊎_elim, append_assoc}
use Rattle.std.specs.Prelude.{Option as Perhaps}
use Rattle.serve_turns.specs.declared.shared_book.view.Entry.{Entry}
use Rattle.serve_turns.specs.declared.shared_book.view.View.{View}
use Rattle.serve_turns.specs.shared_book.Histories.{HaveAll}
use Rattle.serve_turns.specs.shared_book.Numbers.{AreApart, IsOneOf, held_numbers, number_if, number_in, numbers_in, numbers_of, seated_numbers}
use Rattle.serve_turns.specs.shared_book.Turns.{rejoined}
use Rattle.serve_turns.proofs.shared_book.Histories.{entries_of-other}

pub among_left : (n : ℕ) (xs ys : List ℕ) → IsOneOf n xs → IsOneOf n (xs ++ ys)
among_left n [] ys h = absurd h
among_left n (x ∷ xs) ys h = ⊎_elim (λ (e : n ≡ x). inl e) (λ (t : IsOneOf n xs). inr (among_left n xs ys t)) h

pub among_right : (n : ℕ) (xs ys : List ℕ) → IsOneOf n ys → IsOneOf n (xs ++ ys)
among_right n [] ys h = h
among_right n (x ∷ xs) ys h = inr (among_right n xs ys h)

pub among_both : (n : ℕ) (xs ys : List ℕ) → IsOneOf n (xs ++ ys) → IsOneOf n xs ⊎ IsOneOf n ys
among_both n [] ys h = inr h
among_both n (x ∷ xs) ys h = ⊎_elim (λ (e : n ≡ x). inl (inl e))
    (λ (t : IsOneOf n (xs ++ ys)). ⊎_elim (λ (a : IsOneOf n xs). inl (inr a)) (λ (b : IsOneOf n ys). inr b) (among_both n xs ys t)) h

pub apart_both : (xs ys : List ℕ) → AreApart xs → AreApart ys → ((n : ℕ) → IsOneOf n xs → IsOneOf n ys → ⊥) → AreApart (xs ++ ys)
apart_both [] ys first second none = second
apart_both (x ∷ xs) ys first second none = (
  (λ h. ⊎_elim (λ (l : IsOneOf x xs). first.0 l) (λ (r : IsOneOf x ys). none x (inl refl) r) (among_both x xs ys h)),
  apart_both xs ys first.1 second (λ n l r. none n (inr l) r),
)

pub apart_right : (xs ys : List ℕ) → AreApart (xs ++ ys) → AreApart ys
apart_right [] ys all = all
apart_right (x ∷ xs) ys all = apart_right xs ys all.1

pub apart_none : (xs ys : List ℕ) → AreApart (xs ++ ys) → (n : ℕ) → IsOneOf n xs → IsOneOf n ys → ⊥
apart_none [] ys all n l r = l
apart_none (x ∷ xs) ys all n l r =
    ⊎_elim (λ (e : n ≡ x). all.0 (among_right x xs ys (subst (λ m. IsOneOf m ys) e r)))
    (λ (t : IsOneOf n xs). apart_none xs ys all.1 n t r) l

own_if : (b : Bool) (n : ℕ) → b ≡ true → IsOneOf n (number_if b n)
own_if b n is = subst (λ x. IsOneOf n (number_if x n)) (sym is) (inl refl)

pub one_number : (x y : ℕ) → Some x ≡ Some y → x ≡ y
one_number x y e = cc

pub drawn_in : (x : Perhaps ℕ) (n : ℕ) → x ≡ Some n → IsOneOf n (number_in x)
drawn_in x n is = subst (λ d. IsOneOf n (number_in d)) (sym is) (inl refl)

pub none_drawn : (x : Perhaps ℕ) (ns : List ℕ) (n : ℕ) → x ≡ None → IsOneOf n (number_in x ++ ns) → IsOneOf n ns
none_drawn x ns n is h = subst (λ d. IsOneOf n (number_in d ++ ns)) is h

-- of these the drawn one is left out
pub other_drawn : (x : Perhaps ℕ) (ns : List ℕ) (d n : ℕ) → x ≡ Some d → n ≢ d → IsOneOf n (number_in x ++ ns) → IsOneOf n ns
other_drawn x ns d n is other h =
    let t : (n ≡ d) ⊎ IsOneOf n ns = subst (λ y. IsOneOf n (number_in y ++ ns)) is h in
    ⊎_elim (λ (e : n ≡ d). absurd (other e)) (λ (r : IsOneOf n ns). r) t

module _ {E R : Type 0} where
  pub numbers_in-append : (xs ys : List (ℕ × List (ℕ × Entry E R))) → numbers_in (xs ++ ys) ≡ numbers_in xs ++ numbers_in ys
  numbers_in-append [] ys = refl
  numbers_in-append (x ∷ xs) ys = ap (λ ns. x.0 ∷ ns) (numbers_in-append xs ys)

  pub HaveAll-append : (log : List (Entry E R)) (xs ys : List (ℕ × List (ℕ × Entry E R))) → HaveAll log xs → HaveAll log ys
      → HaveAll log (xs ++ ys)
  HaveAll-append log [] ys first second = second
  HaveAll-append log (x ∷ xs) ys first second = (first.0, HaveAll-append log xs ys first.1 second)

  -- an entry of none of these numbers adds none
  pub HaveAll-grown : (log : List (Entry E R)) (e : Entry E R) (xs : List (ℕ × List (ℕ × Entry E R)))
      → ((n : ℕ) → IsOneOf n (numbers_in xs) → e.seat ≢ n) → HaveAll log xs → HaveAll (log ++ e ∷ []) xs
  HaveAll-grown log e [] others all = tt
  HaveAll-grown log e (x ∷ xs) others all = (
    all.0 ∙ sym (entries_of-other x.0 log e (others x.0 (inl refl))),
    HaveAll-grown log e xs (λ n h. others n (inr h)) all.1,
  )

module _ {B E R : Type 0} where
  -- a numbered seat's own number stands with those of the seats that were joined to it
  pub seated_of : (v : View B E R) (n : ℕ) → v.numbered ≡ true → IsOneOf n (numbers_of v) → IsOneOf n (seated_numbers v)
  seated_of v n is h = subst (λ b. IsOneOf n (number_if b v.number ++ numbers_in v.ended)) (sym is) h

  pub of_seated : (v : View B E R) (n : ℕ) → v.numbered ≡ true → IsOneOf n (seated_numbers v) → IsOneOf n (numbers_of v)
  of_seated v n is h = subst (λ b. IsOneOf n (number_if b v.number ++ numbers_in v.ended)) is h

  pub own_seated : (v : View B E R) → v.numbered ≡ true → IsOneOf v.number (seated_numbers v)
  own_seated v is = seated_of v v.number is (inl refl)

  pub seated_held : (v : View B E R) (n : ℕ) → IsOneOf n (seated_numbers v) → IsOneOf n (held_numbers v)
  seated_held v n h = among_right n (number_in v.drawn) (seated_numbers v) h

  pub ended_held : (v : View B E R) (n : ℕ) → IsOneOf n (numbers_in v.ended) → IsOneOf n (held_numbers v)
  ended_held v n h = seated_held v n (among_right n (number_if v.numbered v.number) (numbers_in v.ended) h)

  pub drawn_held : (v : View B E R) (n : ℕ) → v.drawn ≡ Some n → IsOneOf n (held_numbers v)
  drawn_held v n is = among_left n (number_in v.drawn) (seated_numbers v) (drawn_in v.drawn n is)

  pub apart_seated : (v : View B E R) → AreApart (held_numbers v) → AreApart (seated_numbers v)
  apart_seated v all = apart_right (number_in v.drawn) (seated_numbers v) all

  pub apart_of : (v : View B E R) → v.numbered ≡ true → AreApart (held_numbers v) → AreApart (numbers_of v)
  apart_of v is all = subst (λ b. AreApart (number_if b v.number ++ numbers_in v.ended)) is (apart_seated v all)

  -- a number that was drawn is not yet a seat's
  pub drawn_apart : (v : View B E R) (n m : ℕ) → AreApart (held_numbers v) → v.drawn ≡ Some n → IsOneOf m (seated_numbers v) → m ≢ n
  drawn_apart v n m all is seated same =
      apart_none (number_in v.drawn) (seated_numbers v) all n (drawn_in v.drawn n is) (subst (λ k. IsOneOf k (seated_numbers v)) same seated)

  pub own_apart : (v : View B E R) (n : ℕ) → v.numbered ≡ true → AreApart (held_numbers v) → IsOneOf n (numbers_in v.ended) → v.number ≢ n
  own_apart v n is all ended same =
      apart_none (number_if v.numbered v.number) (numbers_in v.ended) (apart_seated v all) v.number (own_if v.numbered v.number is)
      (subst (λ k. IsOneOf k (numbers_in v.ended)) (sym same) ended)

  -- what a seat holds that took in another
  pub seated_rejoined : (v u : View B E R) → seated_numbers (rejoined v u) ≡ seated_numbers v ++ numbers_of u
  seated_rejoined v u =
      let own : List ℕ = number_if v.numbered v.number in
      ap (λ ns. own ++ ns) (numbers_in-append v.ended ((u.number, u.own) ∷ u.ended))
      ∙ sym (append_assoc own (numbers_in v.ended) (numbers_of u))

  pub held_rejoined : (v u : View B E R) → held_numbers (rejoined v u) ≡ held_numbers v ++ numbers_of u
  held_rejoined v u =
      let drawn : List ℕ = number_in v.drawn in
      ap (λ ns. drawn ++ ns) (seated_rejoined v u) ∙ sym (append_assoc drawn (seated_numbers v) (numbers_of u))
