-- Lists of orders of which one grows, and the walk over the places.
use Rattle.std.proofs.Common.{◌≡◌, ℕ, zero, suc, ◌+◌, ◌<◌, nat_le, true, false, refl, sym, ap, subst, ◌∙◌, arith}
use Rattle.std.proofs.Common.{List, [], ◌∷◌, ◌++◌, length, set, get_or, slice_get, Option, Some, None, Result, Ok, Err, OnOk}
use Rattle.std.proofs.Math.ListN.{length-set}
use Rattle.std.proofs.lemmas.Option.{slice_get_read, slice_get_within}
use Rattle.spec_exchange.specs.Runs.{account}
use Rattle.spec_world.specs.Settings.{WorldSettings}
use Rattle.spec_world.specs.World as bytes
use Rattle.world_ends.specs.results.Ended.{ShowsEnded}
use Rattle.world_ends.specs.results.Listing.{AddsAt, AreBare, AreOrders, AreOrdersTo, ListingNotes, NotesAll}
use Rattle.world_ends.specs.results.Listing.{ListingPuts, ListingTellsOpen, born_in}
use Rattle.world_ends.specs.declared.results.ending.EndedWorld.{EndedWorld}
use Rattle.world_ends.specs.declared.results.ordering.Order.{Order}
use Rattle.world_ends.proofs.results.Entered.{birth_is}
use Rattle.world_ends.proofs.results.Growing.{begun, none_added, not_born, one_added}

pub on_ok : {T E P Q : Type 0} (r : Result T E) → (P → Q) → OnOk r P → OnOk r Q
on_ok (Ok x) f h = f h
on_ok (Err e) f h = tt

none_of : {X : Type 0} (x : X) → None ≡ Some x → ⊥
none_of x e = absurd (cc)

some_of : {X : Type 0} (x y : X) → Some x ≡ Some y → x ≡ y
some_of x y e = cc

-- ---- one grows

set_here : (xs : List Order) (k : ℕ) (v x : Order) → slice_get xs k ≡ Some x → slice_get (set xs k v) k ≡ Some v
set_here [] k v x e = absurd (none_of x e)
set_here (y ∷ xs) zero v x e = refl
set_here (y ∷ xs) (suc k) v x e = set_here xs k v x e

set_there : (xs : List Order) (k j : ℕ) (v : Order) → (j ≡ k → ⊥) → slice_get (set xs k v) j ≡ slice_get xs j
set_there [] k j v other = refl
set_there (y ∷ xs) zero zero v other = absurd (other refl)
set_there (y ∷ xs) zero (suc j) v other = refl
set_there (y ∷ xs) (suc k) zero v other = refl
set_there (y ∷ xs) (suc k) (suc j) v other = set_there xs k j v (λ e. other (ap suc e))

-- what was lent of it has one number more
pub one_lent : (xs : List Order) (k g : ℕ) (v u : Order) → u ≡ get_or xs k u → k < length xs
    → v.numbers.items ≡ u.numbers.items ++ g ∷ [] → AddsAt k g xs (set xs k v)
one_lent xs k g v u e l more =
    let was : slice_get xs k ≡ Some u = slice_get_read xs (length xs) k u refl l e in
    record {
      counted = length-set xs k v;
      here = λ y d. (
        u,
        was,
        (subst (λ (o : Order). o.numbers.items ≡ u.numbers.items ++ g ∷ [])
            (some_of v y (sym (set_here xs k v u was) ∙ d)) more),
      );
      there = λ j other. set_there xs k j v other;
    }

pub none_lent : (xs : List Order) (k g : ℕ) → (k < length xs → ⊥) → AddsAt k g xs xs
none_lent xs k g past = record {
  counted = refl;
  here = λ y d. absurd (past (slice_get_within xs k y d));
  there = λ j other. refl;
}

-- ---- so many without an operation

more_each : (xs : List Order) (y : Order) → y.numbers.items ≡ []
    → ((o : ℕ) (x : Order) → slice_get xs o ≡ Some x → x.numbers.items ≡ [])
    → (o : ℕ) (x : Order) → slice_get (xs ++ y ∷ []) o ≡ Some x → x.numbers.items ≡ []
more_each [] y c h zero x e = subst (λ (v : Order). v.numbers.items ≡ []) (some_of y x e) c
more_each [] y c h (suc k) x e = absurd (none_of x e)
more_each (v ∷ xs) y c h zero x e = h zero x e
more_each (v ∷ xs) y c h (suc k) x e = more_each xs y c (λ j u d. h (suc j) u d) k x e

one_longer : (xs : List Order) (y : Order) → length (xs ++ y ∷ []) ≡ length xs + 1
one_longer [] y = refl
one_longer (x ∷ xs) y =
    let e : suc (length (xs ++ y ∷ [])) ≡ suc (length xs) + 1 = (let d = one_longer xs y in omega (arith, d)) in e

pub one_bare : (n : ℕ) (xs : List Order) (y : Order) → y.numbers.items ≡ [] → AreBare n xs → AreBare (n + 1) (xs ++ y ∷ [])
one_bare n xs y c h = record {
  counted = one_longer xs y ∙ ap (λ (m : ℕ). m + 1) h.counted;
  each = more_each xs y c h.each;
}

pub none_bare : AreBare 0 []
none_bare = record { counted = refl; each = λ k x e. absurd (none_of x e) }

-- ---- a message

pub puts_none : (v : EndedWorld) (n g : ℕ) (xs : List Order) → ListingPuts v n g None xs xs
puts_none v n g xs = record {
  counted = refl;
  goes_on = λ z w h t who o. none_added (account w.values) n g xs t who o;
}

-- by whether the create acted before it
pub puts_born : (v : EndedWorld) (n g c : ℕ) (xs ys : List Order) → nat_le (born_in (slice_get v.places.marks.items c)) n ≡ true
    → AddsAt c g xs ys → ListingPuts v n g (Some c) xs ys
puts_born v n g c xs ys born d = record {
  counted = d.counted;
  goes_on = λ z w h t who o. one_added (account w.values) n g c xs ys t who
      (ap (λ (b : ℕ). nat_le b n) (birth_is z v w c h) ∙ born) d o;
}

pub puts_unborn : (v : EndedWorld) (n g c : ℕ) (xs : List Order) → nat_le (born_in (slice_get v.places.marks.items c)) n ≡ false
    → ListingPuts v n g (Some c) xs xs
puts_unborn v n g c xs off = record {
  counted = refl;
  goes_on = λ z w h t who o. not_born (account w.values) n g c xs t who (ap (λ (b : ℕ). nat_le b n) (birth_is z v w c h) ∙ off) o;
}

pub notes_told : (v : EndedWorld) (n g : ℕ) (told : Option ℕ) (xs ys : List Order)
    → ((z : WorldSettings) (w : bytes.World) → ShowsEnded z v w → ListingTellsOpen (account w.values) g n told)
    → ListingPuts v n g told xs ys
    → ListingNotes v n g xs ys
notes_told v n g told xs ys t p = record {
  counted = p.counted;
  goes_on = λ z w h who o. p.goes_on z w h (t z w h) who o;
}

-- ---- the walk, as far as a place

pub record NotesTo (v : EndedWorld) (n : ℕ) (xs ys : List Order) : Type 0 where
  pub counted : length ys ≡ length xs
  pub so_far : (z : WorldSettings) (w : bytes.World) → ShowsEnded z v w → AreOrdersTo (account w.values) 0 xs
      → AreOrdersTo (account w.values) n ys

pub walk_begins : (v : EndedWorld) (xs : List Order) → NotesTo v 0 xs xs
walk_begins v xs = record { counted = refl; so_far = λ z w h o. o }

pub walk_goes : (v : EndedWorld) (served : List ℕ) (n : ℕ) (xs ys zs : List Order) → served ≡ v.places.served.items → n < length served
    → NotesTo v n xs ys → ListingNotes v n (get_or served n 0) ys zs → NotesTo v (n + 1) xs zs
walk_goes v served n xs ys zs same l i r = record {
  counted = r.counted ∙ i.counted;
  so_far = λ z w h o. r.goes_on z w h
      (h.places.who_is n (subst (λ (s : List ℕ). n < length s) same l) ∙ ap (λ (s : List ℕ). get_or s n 0) (sym same))
      (i.so_far z w h o);
}

pub walk_ends : (v : EndedWorld) (served : List ℕ) (n : ℕ) (xs ys : List Order) → served ≡ v.places.served.items → n ≡ length served
    → NotesTo v n xs ys → NotesAll v xs ys
walk_ends v served n xs ys same e i = record {
  counted = i.counted;
  all = λ z w h o. subst (λ (m : ℕ). AreOrdersTo (account w.values) m ys)
      (e ∙ (ap (λ (s : List ℕ). length s) same ∙ sym h.places.places_are)) (i.so_far z w h o);
}

-- ---- the whole

pub all_orders : (v : EndedWorld) (n : ℕ) (xs ys : List Order) → n ≡ length v.places.marks.items → AreBare n xs → NotesAll v xs ys
    → (z : WorldSettings) (w : bytes.World) → ShowsEnded z v w → AreOrders w.values.client.taken (account w.values) ys
all_orders v n xs ys e b r z w h = record {
  counted = r.counted ∙ (b.counted ∙ (e ∙ h.places.counted));
  each = λ o x d. r.all z w h (begun (account w.values) n xs b) o x d;
}
