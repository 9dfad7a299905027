-- Seats that are made for channels, and taken in when they have ended.
use Rattle.std.proofs.Common.{◌≡◌, ℕ, ◌-◌, List, [], ◌∷◌, ◌++◌, length, map, reverse, inl, inr, refl, sym, ap}
use Rattle.std.proofs.Common.{subst, ◌∙◌}
use Rattle.std.proofs.lemmas.List.{append-nil, append_assoc, length-map, length-reverse, map-append, reverse-append}
use Rattle.serve_turns.specs.declared.shared_book.view.Entry.{Entry}
use Rattle.serve_turns.specs.declared.shared_book.view.View.{View}
use Rattle.serve_turns.specs.shared_book.Numbers.{IsOneOf, IsWhole, numbers_in}
use Rattle.serve_turns.specs.shared_book.Turns.{made_with, rejoined, with_made}
use Rattle.client_channels.specs.channel_threads.Seating.{EachAt, IsAlone, KeepsOwn, seat_told}
use Rattle.client_channels.proofs.channel_threads.Each.{each_map, each_reverse}

-- a list with one more, the other way round
pub one_more : {X Y : Type 0} (f : X → Y) (xs : List X) (x : X) → reverse (map f (xs ++ x ∷ [])) ≡ f x ∷ reverse (map f xs)
one_more f xs x = ap (λ (l : List _). reverse l) (map-append f xs (x ∷ [])) ∙ reverse-append (map f xs) (f x ∷ [])

module _ {E R : Type 0} where
  pub numbers_append : (xs ys : List (ℕ × List (ℕ × Entry E R))) → numbers_in (xs ++ ys) ≡ numbers_in xs ++ numbers_in ys
  numbers_append [] ys = refl
  numbers_append (x ∷ xs) ys = ap (λ (l : List ℕ). x.0 ∷ l) (numbers_append xs ys)

module _ {B E R : Type 0} where
  -- a seat from which another was made, and the one that was made
  pub keeps_made : (v w : View B E R) (n : ℕ) → w ≡ with_made n v → KeepsOwn v w × (w.ended ≡ v.ended)
  keeps_made v w n is = (
    (ap (λ (x : View B E R). x.opening) is, ap (λ (x : View B E R). x.number) is, ap (λ (x : View B E R). x.own) is),
    ap (λ (x : View B E R). x.ended) is,
  )

  pub makes_one : (v w : View B E R) (n : ℕ) → w ≡ with_made n v → w.made ≡ n ∷ v.made
  makes_one v w n is = ap (λ (x : View B E R). x.made) is

  pub new_alone : (v w : View B E R) (n : ℕ) → w ≡ made_with n v → IsAlone w
  new_alone v w n is = (ap (λ (x : View B E R). x.ended) is, ap (λ (x : View B E R). x.made) is)

  pub new_own : (v w : View B E R) (n : ℕ) → w ≡ made_with n v → w.own ≡ []
  new_own v w n is = ap (λ (x : View B E R). x.own) is

  -- a seat to which another was joined
  pub keeps_joined : (v w u : View B E R) → w ≡ rejoined v u → KeepsOwn v w
  keeps_joined v w u is = (ap (λ (x : View B E R). x.opening) is, ap (λ (x : View B E R). x.number) is, ap (λ (x : View B E R). x.own) is)

  -- a seat that ended is taken in: what was taken, in front of what is left
  pub takes_in : {X : Type 0} (f : X → View B E R) (v w : View B E R) (left rest : List X) (x : X) (all : List (ℕ × List (ℕ × Entry E R)))
      → left ≡ rest ++ x ∷ [] → IsAlone (f x) → w ≡ rejoined v (f x)
      → v.ended ++ reverse (map (λ y. seat_told (f y)) left) ≡ all → w.ended ++ reverse (map (λ y. seat_told (f y)) rest) ≡ all
  takes_in {X} f v w left rest x all is alone joined so =
      let due : List (ℕ × List (ℕ × Entry E R)) = reverse (map (λ (y : X). seat_told (f y)) rest) in
      ap (λ (u : View B E R). u.ended ++ due) joined
      ∙ ap (λ (l : List (ℕ × List (ℕ × Entry E R))). (v.ended ++ seat_told (f x) ∷ l) ++ due) alone.0
      ∙ append_assoc v.ended (seat_told (f x) ∷ []) due
      ∙ sym (ap (λ (l : List (ℕ × List (ℕ × Entry E R))). v.ended ++ l)
      (ap (λ (l : List X). reverse (map (λ (y : X). seat_told (f y)) l)) is ∙ one_more (λ (y : X). seat_told (f y)) rest x))
      ∙ so

  -- none was made from it
  pub makes_none : (v w u : View B E R) → IsAlone u → w ≡ rejoined v u → w.made ≡ v.made
  makes_none v w u alone joined =
      ap (λ (x : View B E R). x.made) joined ∙ ap (λ (l : List ℕ). v.made ++ l) alone.1 ∙ append-nil v.made

  -- the seats that were made are those that have ended
  pub all_ended : {X : Type 0} (f : X → View B E R) (ws : List X) → numbers_in (reverse (map (λ w. seat_told (f w)) ws)) ≡ reverse
      (map (λ w. (f w).number) ws)
  all_ended f [] = refl
  all_ended {X} f (w ∷ ws) =
      let told : X → ℕ × List (ℕ × Entry E R) = λ y. seat_told (f y) in
      let number : X → ℕ = λ y. (f y).number in
      ap (λ (l : List (ℕ × List (ℕ × Entry E R))). numbers_in l) (reverse-append (told w ∷ []) (map told ws))
      ∙ numbers_append (reverse (map told ws)) (told w ∷ [])
      ∙ ap (λ (l : List ℕ). l ++ number w ∷ []) (all_ended f ws)
      ∙ sym (reverse-append (number w ∷ []) (map number ws))

  -- the first seat, where those that were made from it have ended
  pub is_whole : (v : View B E R) → v.number ≡ 0 → v.made ≡ numbers_in v.ended → IsWhole v
  is_whole v first made = (
    inl (sym first),
    λ n is. inr (subst (λ (l : List ℕ). IsOneOf n l) made is),
  )

-- what holds of each channel holds of its seat, the last one's first
pub of_seats : {X Y : Type 0} (f : X → Y) (P : ℕ → Y → Type 0) (xs : List X) (count : ℕ) (seats : List Y) → length xs ≡ count
    → seats ≡ reverse (map f xs) → EachAt (λ k x. P k (f x)) xs
    → (length seats ≡ count) × EachAt (λ k y. P (count - 1 - k) y) seats
of_seats {X} {Y} f P xs count seats long is h =
    let same : length (map f xs) ≡ count = length-map xs f ∙ long in
    let each : EachAt (λ k y. P (length (map f xs) - 1 - k) y) (reverse (map f xs)) = each_reverse P (map f xs) (each_map f P xs h) in (
      ap (λ (l : List Y). length l) is ∙ length-reverse (map f xs) ∙ same,
      subst (λ (l : List Y). EachAt (λ k y. P (count - 1 - k) y) l) (sym is)
          (subst (λ (n : ℕ). EachAt (λ k y. P (n - 1 - k) y) (reverse (map f xs))) same each),
    )
