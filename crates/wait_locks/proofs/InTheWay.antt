-- What keeps a LOCK waiting, by the ranges of its file and by the tests in front of them.
use Rattle.std.proofs.Common.{◌≡◌, ℕ, ◌+◌, ◌==◌, ◌<◌, ◌≤◌, Bool, true, false, not, nat_lt, ◌&&◌, ◌||◌, if◌then◌else◌, List, [], ◌∷◌, map, Option, Some, None}
use Rattle.std.proofs.Common.{refl, ap, sym, ◌∙◌, arith}
use Rattle.std.specs.Prelude.{option_map}
use Rattle.std.proofs.lemmas.Bool.Decides.{nat_tests}
use Rattle.law_waiting.specs.held.Held.{first_in_the_way}
use Rattle.spec_exchange.specs.Ranges.{count_owned, overlaps, wraps}
use Rattle.spec_exchange.specs.State as model
use Rattle.store_opens.specs.declared.share_modes.lists.Range.{Range}
use Rattle.store_opens.specs.share_modes.Locking.{first_conflict, locking_count_owned, locking_overlaps, range_of}
use Rattle.wait_locks.specs.Kept.{in_the_way}

owned_is : (o : ℕ) (rs : List Range) → count_owned o (map range_of rs) ≡ locking_count_owned o rs
unfolding count_owned
owned_is o [] = refl
owned_is o (r ∷ rs) = ap (λ n. (if r.owner == o then 1 else 0) + n) (owned_is o rs)

found : (b : Bool) (r : Range) (o : Option Range) (x : Option model.Range) → option_map range_of o ≡ x
    → option_map range_of (if b then Some r else o) ≡ (if b then Some (range_of r) else x)
found true r o x h = refl
found false r o x h = h

first_is : (rs : List Range) (w : Range) → option_map range_of (first_conflict rs w) ≡ first_in_the_way (map range_of rs) (range_of w)
unfolding first_in_the_way overlaps
first_is [] w = refl
first_is (r ∷ rs) w = found (locking_overlaps r w && (r.exclusive || w.exclusive)) r (first_conflict rs w)
    (first_in_the_way (map range_of rs) (range_of w)) (first_is rs w)

by_tests : (few ends : Bool) (x : Option model.Range) → few ≡ false → (if not few && not ends then x else None) ≡ (if not ends then x else None)
by_tests true ends x h = absurd (cc)
by_tests false ends x h = refl

none_many : (few ends : Bool) (x : Option model.Range) → few ≡ true → (if not few && not ends then x else None) ≡ None
none_many true ends x h = refl
none_many false ends x h = absurd (cc)

none_wraps : (few ends : Bool) (x : Option model.Range) → ends ≡ true → (if not few && not ends then x else None) ≡ None
none_wraps true true x h = refl
none_wraps false true x h = refl
none_wraps few false x h = absurd (cc)

all_pass : (few ends : Bool) (x : Option model.Range) → few ≡ false → ends ≡ false → (if not few && not ends then x else None) ≡ x
all_pass false false x h i = refl
all_pass true ends x h i = absurd (cc)
all_pass false true x h i = absurd (cc)

module _ (rs : List Range) (w : Range) where
  pub many : 1024 ≤ locking_count_owned w.owner rs → in_the_way (map range_of rs) (range_of w) ≡ None
  many h =
      let e : count_owned w.owner (map range_of rs) ≡ locking_count_owned w.owner rs = owned_is w.owner rs in
      none_many (nat_lt 1024 (count_owned w.owner (map range_of rs) + 1)) (wraps (range_of w)) (first_in_the_way (map range_of rs) (range_of w))
      (grind (arith, nat_tests))

  pub wrapping : true ≡ wraps (range_of w) → in_the_way (map range_of rs) (range_of w) ≡ None
  wrapping h =
      none_wraps (nat_lt 1024 (count_owned w.owner (map range_of rs) + 1)) (wraps (range_of w)) (first_in_the_way (map range_of rs) (range_of w))
      (sym h)

  pub passing : locking_count_owned w.owner rs < 1024 → false ≡ wraps (range_of w)
      → option_map range_of (first_conflict rs w) ≡ in_the_way (map range_of rs) (range_of w)
  passing h i =
      let e : count_owned w.owner (map range_of rs) ≡ locking_count_owned w.owner rs = owned_is w.owner rs in
      first_is rs w
      ∙ sym (all_pass (nat_lt 1024 (count_owned w.owner (map range_of rs) + 1)) (wraps (range_of w)) (first_in_the_way (map range_of rs) (range_of w))
      (grind (arith, nat_tests)) (sym i))

-- ---- the tests in front of them

pub not_owed : (o r : Bool) (x : Option model.Range) → false ≡ o → (if o && r then x else None) ≡ None
not_owed true r x h = absurd (cc)
not_owed false r x h = refl

pub not_on_file : (o f r : Bool) (x : Option model.Range) → false ≡ f → (if o && (f && r) then x else None) ≡ None
not_on_file true true r x h = absurd (cc)
not_on_file false true r x h = absurd (cc)
not_on_file true false r x h = refl
not_on_file false false r x h = refl

pub owed_on_file : (o f r : Bool) (x : Option model.Range) → true ≡ o → true ≡ f → (if o && (f && r) then x else None) ≡ (if r then x else None)
owed_on_file true true r x h i = refl
owed_on_file false f r x h i = absurd (cc)
owed_on_file true false r x h i = absurd (cc)
