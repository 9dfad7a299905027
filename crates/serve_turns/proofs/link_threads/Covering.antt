-- What stays covered where a link begins to be served, and where one has ended.
use Rattle.std.proofs.Common.{◌≡◌, ℕ, ◌+◌, ◌<◌, ◌⊎◌, List, [], ◌∷◌, ◌++◌, length, get_or, Option, None, Contains}
use Rattle.std.proofs.Common.{swap_remove, slice_index_or}
use Rattle.std.proofs.Common.{sym, ap, ◌∙◌, subst, arith, inl, inr}
use Rattle.std.proofs.lemmas.List.Elements.{Contains-append_cases, Contains-append_left, Contains-push, Contains-push_cases}
use Rattle.std.proofs.lemmas.List.Sorted.{Contains-permutation, IsPermutation-swap_remove}
use Rattle.serve_turns.specs.link_threads.Covering.{AreCovered, HasEnd, IsLinkServed}

ways : (x y : ℕ) → (x ≡ y) ⊎ (x ≡ y → ⊥)
ways x y = grind arith

below_or_last : (at count : ℕ) → at < count + 1 → (at < count) ⊎ (at ≡ count)
below_or_last at count low = grind arith

module _ {R : Type 0} where
  pub popped : (old new : List R) (child : R) → old ≡ new ++ child ∷ [] → (r : R) → Contains old r → (child ≡ r) ⊎ Contains new r
  popped old new child is r has = turned (Contains-push_cases new child r (subst (λ (l : List R). Contains l r) is has))
    where
      turned : Contains new r ⊎ (child ≡ r) → (child ≡ r) ⊎ Contains new r
      turned (inl stays) = inr stays
      turned (inr same) = inl same

  alone : (child r : R) → Contains (child ∷ []) r → child ≡ r
  alone child r has = only (Contains-push_cases [] child r has)
    where
      only : Contains [] r ⊎ (child ≡ r) → child ≡ r
      only (inl none) = absurd (let low = none.1 in omega (arith, low))
      only (inr same) = same

  pub swapped : (old new : List R) (at : ℕ) (child : R) → at < length old → child ≡ slice_index_or old at child
      → new ≡ swap_remove old at child → (r : R) → Contains old r → (child ≡ r) ⊎ Contains new r
  swapped old new at child low is swaps r has =
      either (Contains-append_cases (child ∷ []) (swap_remove old at child) r
      (Contains-permutation old (child ∷ swap_remove old at child) r (IsPermutation-swap_remove old at child low is) has))
    where
      either : Contains (child ∷ []) r ⊎ Contains (swap_remove old at child) r → (child ≡ r) ⊎ Contains new r
      either (inl first) = inl (alone child r first)
      either (inr rest) = inr (subst (λ (l : List R). Contains l r) (sym swaps) rest)

module _ {X R : Type 0} (place_of : R → ℕ) where
  -- the same links in another list
  pub same_covered : (count : ℕ) (ends : List (Option X)) (running same : List R) → same ≡ running → AreCovered place_of count ends running
      → AreCovered place_of count ends same
  same_covered count ends running same is covered = subst (λ (l : List R). AreCovered place_of count ends l) (sym is) covered

  pub none_covered : (ends : List (Option X)) (running : List R) (at : ℕ) → at < 0 → at < length ends
      → HasEnd ends at ⊎ IsLinkServed place_of running at
  none_covered ends running at low inside = absurd (omega (arith, low))

  -- one that was running has ended: its end stands at its place, and the ends at other places stay
  pub left_covered : (count : ℕ) (old new : List (Option X)) (running rest : List R) (child : R)
      → ((r : R) → Contains running r → (child ≡ r) ⊎ Contains rest r) → (place_of child < length old → HasEnd new (place_of child))
      → ((at : ℕ) → (at ≡ place_of child → ⊥) → get_or new at None ≡ get_or old at None) → length new ≡ length old
      → AreCovered place_of count old running → (at : ℕ) → at < count → at < length new → HasEnd new at ⊎ IsLinkServed place_of rest at
  left_covered count old new running rest child goes told others size covered at low inside =
      let within : at < length old = omega (arith, inside, size) in
      by_way (ways at (place_of child)) (covered at low within) within
    where
      by_child : (at ≡ place_of child → ⊥) → (r : R) → place_of r ≡ at → (child ≡ r) ⊎ Contains rest r
          → HasEnd new at ⊎ IsLinkServed place_of rest at
      by_child away r is (inl same) = absurd (away (sym is ∙ ap place_of (sym same)))
      by_child away r is (inr stays) = inr (r, stays, is)

      by_way : (at ≡ place_of child) ⊎ (at ≡ place_of child → ⊥) → HasEnd old at ⊎ IsLinkServed place_of running at → at < length old
          → HasEnd new at ⊎ IsLinkServed place_of rest at
      by_way (inl here) was inside =
          subst (λ (n : ℕ). HasEnd new n ⊎ IsLinkServed place_of rest n) (sym here)
          (inl (told (subst (λ (n : ℕ). n < length old) here inside)))
      by_way (inr away) (inl end) inside = inl (end.0, others at away ∙ end.1)
      by_way (inr away) (inr served) inside = by_child away served.0 served.2 (goes served.0 served.1)

  -- the next link begins to be served
  pub begun_covered : (count : ℕ) (ends : List (Option X)) (running : List R) (child : R) → place_of child ≡ count
      → AreCovered place_of count ends running → (at : ℕ) → at < count + 1 → at < length ends
      → HasEnd ends at ⊎ IsLinkServed place_of (running ++ child ∷ []) at
  begun_covered count ends running child is covered at low inside = by_way (below_or_last at count low)
    where
      more : HasEnd ends at ⊎ IsLinkServed place_of running at → HasEnd ends at ⊎ IsLinkServed place_of (running ++ child ∷ []) at
      more (inl end) = inl end
      more (inr served) = inr (served.0, Contains-append_left running (child ∷ []) served.0 served.1, served.2)

      by_way : (at < count) ⊎ (at ≡ count) → HasEnd ends at ⊎ IsLinkServed place_of (running ++ child ∷ []) at
      by_way (inl below) = more (covered at below inside)
      by_way (inr last) = inr (child, Contains-push running child, is ∙ sym last)

  -- the next link was served at once: its end stands at its place, and the ends at other places stay
  pub ended_covered : (count : ℕ) (old new : List (Option X)) (running : List R) → (count < length old → HasEnd new count)
      → ((at : ℕ) → (at ≡ count → ⊥) → get_or new at None ≡ get_or old at None) → length new ≡ length old
      → AreCovered place_of count old running → (at : ℕ) → at < count + 1 → at < length new
      → HasEnd new at ⊎ IsLinkServed place_of running at
  ended_covered count old new running told others size covered at low inside =
      let within : at < length old = omega (arith, inside, size) in by_way (below_or_last at count low) (ways at count) within
    where
      more : (at ≡ count → ⊥) → HasEnd old at ⊎ IsLinkServed place_of running at → HasEnd new at ⊎ IsLinkServed place_of running at
      more away (inl end) = inl (end.0, others at away ∙ end.1)
      more away (inr served) = inr served

      by_way : (at < count) ⊎ (at ≡ count) → (at ≡ count) ⊎ (at ≡ count → ⊥) → at < length old
          → HasEnd new at ⊎ IsLinkServed place_of running at
      by_way _ (inl here) inside =
          subst (λ (n : ℕ). HasEnd new n ⊎ IsLinkServed place_of running n) (sym here)
          (inl (told (subst (λ (n : ℕ). n < length old) here inside)))
      by_way (inl below) (inr away) inside = more away (covered at below inside)
      by_way (inr last) (inr away) inside = absurd (away last)

  -- where none runs any more, each has its end
  pub all_ended : (count : ℕ) (ends : List (Option X)) (running : List R) → length running ≡ 0 → AreCovered place_of count ends running
      → (at : ℕ) → at < count → at < length ends → HasEnd ends at
  all_ended count ends running none covered at low inside = by_way (covered at low inside)
    where
      by_way : HasEnd ends at ⊎ IsLinkServed place_of running at → HasEnd ends at
      by_way (inl end) = end
      by_way (inr served) = absurd (let low = served.1.1 in omega (arith, low, none))
