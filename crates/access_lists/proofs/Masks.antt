-- What is left of the greatest access mask.
use Rattle.std.proofs.Common.{◌≡◌, ◌≤◌, ℕ, Bool, true, false, List, Option, Some, None, is_some, refl, ap, arith}
use Rattle.access_lists.specs.declared.rules.Rule.{Rule}
use Rattle.access_lists.specs.Decide.{has_right, denial, least, decided, is_denied, without}

pub first_left : (a : Bool) → 262 ≤ without a 0x21 0x1f01ff
unfolding without
first_left false = omega arith
first_left true = omega arith

pub second_left : (a b : Bool) → 65600 ≤ without b 0x106 (without a 0x21 0x1f01ff)
unfolding without
second_left false false = omega arith
second_left false true = omega arith
second_left true false = omega arith
second_left true true = omega arith

nothing_more : (o : Option ℕ) → least o None ≡ o
unfolding least
nothing_more None = refl
nothing_more (Some x) = refl

pub denied_read : (rules : List Rule) (name path : List ℕ) → is_some (decided rules name path 1) ≡ is_denied rules name path 0
unfolding decided is_denied has_right denial least
denied_read rules name path = ap is_some (nothing_more (denial 1 rules name path 0 true))

pub denied_write : (rules : List Rule) (name path : List ℕ) → is_some (decided rules name path 2) ≡ is_denied rules name path 1
unfolding decided is_denied has_right denial least
denied_write rules name path = ap is_some (nothing_more (denial 1 rules name path 1 true))

pub denied_delete : (rules : List Rule) (name path : List ℕ) → is_some (decided rules name path 4) ≡ is_denied rules name path 2
unfolding decided is_denied has_right denial least
denied_delete rules name path = refl
