-- The first equal range is taken by its place.
use Rattle.std.proofs.Common.{◌≡◌, ℕ, nat_lt, Bool, true, false, cond, if◌then◌else◌, List, [], ◌∷◌, length, Option, Some, None, refl, ap}
use Rattle.std.proofs.Common.{subst, ◌+◌, ◌∙◌, arith}
use Rattle.std.proofs.lemmas.List.Recursion.{is_position_or_len}
use Rattle.std.proofs.lemmas.Grind.{common_steps}
use Rattle.std.specs.List.{position_or_len, remove}
use Rattle.store_opens.specs.declared.share_modes.lists.Range.{Range}
use Rattle.store_opens.specs.share_modes.Locking.{without_first, with_first, is_equal}

-- the same place, counted by a recursion of its own
place_in : (Range → Bool) → List Range → ℕ
place_in p [] = 0
place_in p (r ∷ rs) = cond (p r) 0 (1 + place_in p rs)

place_is : (p : Range → Bool) (rs : List Range) → place_in p rs ≡ position_or_len p rs
unfolding place_in
place_is p rs = is_position_or_len (place_in p) p refl (λ r more. refl) rs

outcome : List Range → ℕ → Option (List Range)
outcome rs i = cond (nat_lt i (length rs)) (Some (remove rs i)) None

moved_on : (r : Range) (rs : List Range) (i : ℕ) → outcome (r ∷ rs) (1 + i) ≡ with_first r (outcome rs i)
unfolding outcome
moved_on r rs i = grind (arith, common_steps)

first_out : (r : Range) (rs : List Range) → outcome (r ∷ rs) 0 ≡ Some rs
unfolding outcome
first_out r rs = grind (arith, common_steps)

step : (b : Bool) (r : Range) (rs : List Range) (i : ℕ) (rest : Option (List Range)) → outcome rs i ≡ rest
    → outcome (r ∷ rs) (cond b 0 (1 + i)) ≡ (if b then Some rs else with_first r rest)
step true r rs i rest h = first_out r rs
step false r rs i rest h = moved_on r rs i ∙ ap (λ (x : Option (List Range)). with_first r x) h

taken_there : (w : Range) (rs : List Range) → outcome rs (place_in (λ r. is_equal r w) rs) ≡ without_first rs w
unfolding place_in outcome
taken_there w [] = refl
taken_there w (r ∷ rs) = step (is_equal r w) r rs (place_in (λ r. is_equal r w) rs) (without_first rs w) (taken_there w rs)

pub taken : (w : Range) (rs : List Range) → cond (nat_lt (position_or_len (λ r. is_equal r w) rs) (length rs))
    (Some (remove rs (position_or_len (λ r. is_equal r w) rs))) None ≡ without_first rs w
unfolding outcome
taken w rs = subst (λ i. outcome rs i ≡ without_first rs w) (place_is (λ r. is_equal r w) rs) (taken_there w rs)
