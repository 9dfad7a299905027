-- The rules that are looked at in a place.
use Rattle.std.proofs.Common.{◌≡◌, ◌==◌, ◌<◌, ◌≤◌, ◌+◌, ℕ, Bool, true, false, List, [], ◌∷◌, ◌++◌, length, get_or, drop}
use Rattle.std.proofs.Common.{refl, sym, arith}
use Rattle.std.proofs.lemmas.List.{drop_more, drop_all, append_assoc, append-nil}
use Rattle.std.proofs.lemmas.Bool.Decides.{nat_tests}
use Rattle.access_lists.specs.declared.rules.Rule.{Rule}
use Rattle.access_lists.specs.Index.{place_of, is_reached, reached}
use Rattle.access_lists.specs.Walk.{no_rule}

pub root_reached : (path : List ℕ) (h : ℕ) → (length path == 0) ≡ true → is_reached path h ≡ true
unfolding is_reached
root_reached [] h e = refl
root_reached (c ∷ cs) h e = absurd (grind (arith, nat_tests))

pub other_reached : (path : List ℕ) (h : ℕ) → (length path == 0) ≡ false → is_reached path h ≡ (place_of path == h)
unfolding is_reached
other_reached [] h e = absurd (grind (arith, nat_tests))
other_reached (c ∷ cs) h e = refl

pub reached_here : (h i : ℕ) (rules : List Rule) → i < length rules → is_reached (get_or rules i no_rule).path h ≡ true
    → reached h i (drop i rules) ≡ i ∷ reached h (i + 1) (drop (i + 1) rules)
unfolding reached
reached_here h i rules l e = rw (drop_more rules i no_rule l, e) refl

pub not_here : (h i : ℕ) (rules : List Rule) → i < length rules → is_reached (get_or rules i no_rule).path h ≡ false
    → reached h i (drop i rules) ≡ reached h (i + 1) (drop (i + 1) rules)
unfolding reached
not_here h i rules l e = rw (drop_more rules i no_rule l, e) refl

pub none_behind : (h i : ℕ) (rules : List Rule) → length rules ≤ i → reached h i (drop i rules) ≡ []
unfolding reached
none_behind h i rules l = rw (drop_all i rules l) refl

pub none_left : (h i : ℕ) (rules : List Rule) (numbers : List ℕ) → length rules ≤ i → numbers ≡ numbers ++ reached h i (drop i rules)
none_left h i rules numbers l = rw (none_behind h i rules l) (sym (append-nil numbers))

-- one rule more was looked at
pub one_more : (h i : ℕ) (rules : List Rule) (numbers more : List ℕ) (b : Bool) → i < length rules
    → b ≡ is_reached (get_or rules i no_rule).path h → (b ≡ true → more ≡ numbers ++ i ∷ []) → (b ≡ false → more ≡ numbers)
    → more ++ reached h (i + 1) (drop (i + 1) rules) ≡ numbers ++ reached h i (drop i rules)
one_more h i rules numbers more true l is there not =
    rw (there refl, reached_here h i rules l (sym is)) (append_assoc numbers (i ∷ []) (reached h (i + 1) (drop (i + 1) rules)))
one_more h i rules numbers more false l is there not = rw (not refl, not_here h i rules l (sym is)) refl
