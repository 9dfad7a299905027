-- The numbers of seats.
use Rattle.std.specs.Prelude.{◌≡◌, ℕ, Bool, true, false, List, [], ◌∷◌, ◌++◌, ◌⊎◌, Some, None, Option as Perhaps}
use Rattle.serve_turns.specs.declared.shared_book.view.Entry.{Entry}
use Rattle.serve_turns.specs.declared.shared_book.view.View.{View}

abbrev pub IsOneOf : ℕ → List ℕ → Type 0
IsOneOf n [] = ⊥
IsOneOf n (m ∷ ms) = (n ≡ m) ⊎ IsOneOf n ms

-- no number comes twice
abbrev pub AreApart : List ℕ → Type 0
AreApart [] = Unit {0}
AreApart (m ∷ ms) = (IsOneOf m ms → ⊥) × AreApart ms

abbrev pub number_if : Bool → ℕ → List ℕ
number_if true n = n ∷ []
number_if false n = []

abbrev pub number_in : Perhaps ℕ → List ℕ
number_in (Some n) = n ∷ []
number_in None = []

module _ {E R : Type 0} where
  -- the numbers of seats that have ended
  abbrev pub numbers_in : List (ℕ × List (ℕ × Entry E R)) → List ℕ
  numbers_in [] = []
  numbers_in (x ∷ xs) = x.0 ∷ numbers_in xs

module _ {B E R : Type 0} where
  -- a seat's own number, and those of the seats that were joined to it
  abbrev pub numbers_of : View B E R → List ℕ
  numbers_of v = v.number ∷ numbers_in v.ended

  -- the same, where it may have none of its own
  abbrev pub seated_numbers : View B E R → List ℕ
  seated_numbers v = number_if v.numbered v.number ++ numbers_in v.ended

  -- and with the one that was drawn for a further seat
  abbrev pub held_numbers : View B E R → List ℕ
  held_numbers v = number_in v.drawn ++ seated_numbers v

  -- It has the first number, and each seat that was made from it, or from one that was joined to it, has been joined to it.
  abbrev pub IsWhole : View B E R → Type 0
  IsWhole v = IsOneOf 0 (numbers_of v) × ((n : ℕ) → IsOneOf n v.made → IsOneOf n (numbers_of v))
