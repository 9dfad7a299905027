-- The place of the message whose reply settled an operation.
use Rattle.std.proofs.Common.{◌≡◌, ℕ, zero, suc, ◌+◌, ◌<◌, ◌==◌, nat_lt, Bool, true, false, if◌then◌else◌, refl, sym, ap, subst, ◌∙◌, arith}
use Rattle.std.proofs.Common.{List, [], ◌∷◌, ◌++◌, length, set, get_or, Option, Some, ◌⊎◌, inl, inr}
use Rattle.std.proofs.Math.ListN.{length-set}
use Rattle.std.proofs.lemmas.Bool.Decides.{nat_tests}
use Rattle.std.specs.Prelude.{slice_index}
use Rattle.client_events.specs.world_law.Settled.{ClientSettles, SettlesNone}
use Rattle.spec_exchange.specs.Client.{Client}
use Rattle.spec_exchange.specs.Table.{put}
use Rattle.world_ends.specs.Places.{ChannelShowsPlaces, marks_at, no_marks}
use Rattle.world_ends.specs.declared.world.Marks.{Marks}
use Rattle.world_ends.specs.declared.world.Places.{Places}
use Rattle.world_steps.specs.taking.Replies.{TakeNotes, TakeNotesBy}

-- ---- one of a list is set

none_below : (k : ℕ) → k < 0 → ⊥
none_below k l = omega (arith, l)

one_less : (k n : ℕ) → suc k < suc n → k < n
one_less k n l = omega (arith, l)

here : (xs : List Marks) (k : ℕ) (v d : Marks) → k < length xs → get_or (set xs k v) k d ≡ v
here [] k v d l = absurd (none_below k l)
here (x ∷ xs) zero v d l = refl
here (x ∷ xs) (suc k) v d l = here xs k v d (one_less k (length xs) l)

there : (xs : List Marks) (k j : ℕ) (v d : Marks) → (j ≡ k → ⊥) → get_or (set xs k v) j d ≡ get_or xs j d
there [] k j v d other = refl
there (x ∷ xs) zero zero v d other = absurd (other refl)
there (x ∷ xs) zero (suc j) v d other = refl
there (x ∷ xs) (suc k) zero v d other = refl
there (x ∷ xs) (suc k) (suc j) v d other = there xs k j v d (λ e. other (ap suc e))

any_default : (xs : List Marks) (k : ℕ) (d e : Marks) → k < length xs → get_or xs k d ≡ get_or xs k e
any_default [] k d e l = absurd (none_below k l)
any_default (x ∷ xs) zero d e l = refl
any_default (x ∷ xs) (suc k) d e l = any_default xs k d e (one_less k (length xs) l)

abbrev by_place : Marks → ℕ → Marks
by_place m place = record m { by = Some place }

pub notes_one : (x y : Places) (g place : ℕ) (v u : Marks) → g < length x.marks.items → u ≡ get_or x.marks.items g u
    → v ≡ record u { by = Some place } → y.served.items ≡ x.served.items → y.marks.items ≡ set x.marks.items g v → TakeNotes x g place y
notes_one x y g place v u l lent is served marks = record {
  served = served;
  counted = ap (λ (ms : List Marks). length ms) marks ∙ length-set x.marks.items g v;
  here = ap (λ (ms : List Marks). marks_at ms g) marks
      ∙ (here x.marks.items g v no_marks l
      ∙ (is ∙ ap (λ (m : Marks). by_place m place) (lent ∙ any_default x.marks.items g u no_marks l)));
  there = λ j other. ap (λ (ms : List Marks). marks_at ms j) marks ∙ there x.marks.items g j v no_marks other;
}

-- ---- what is shown of them

same_number : (n k : ℕ) → (n == k) ≡ true → n ≡ k
same_number n k h = grind (arith, nat_tests)

other_number : (n k : ℕ) → (n == k) ≡ false → n ≡ k → ⊥
other_number n k h e = grind (arith, nat_tests)

by_at : (b : Bool) (g j place : ℕ) (by : ℕ → Option ℕ) (p q : Places) → (b ≡ true → j ≡ g) → (b ≡ false → j ≡ g → ⊥) → TakeNotes p g place q
    → by j ≡ (marks_at p.marks.items j).by → (if b then Some place else by j) ≡ (marks_at q.marks.items j).by
by_at true g j place by p q is other n e =
    subst (λ (i : ℕ). Some place ≡ (marks_at q.marks.items i).by) (sym (is refl)) (sym (ap (λ (m : Marks). m.by) n.here))
by_at false g j place by p q is other n e = e ∙ sym (ap (λ (m : Marks). m.by) (n.there j (other refl)))

first_at : (b : Bool) (g j place : ℕ) (p q : Places) → (b ≡ true → j ≡ g) → (b ≡ false → j ≡ g → ⊥) → TakeNotes p g place q
    → (marks_at p.marks.items j).first ≡ (marks_at q.marks.items j).first
first_at true g j place p q is other n =
    subst (λ (i : ℕ). (marks_at p.marks.items i).first ≡ (marks_at q.marks.items i).first) (sym (is refl))
    (sym (ap (λ (m : Marks). m.first) n.here))
first_at false g j place p q is other n = sym (ap (λ (m : Marks). m.first) (n.there j (other refl)))

birth_at : (b : Bool) (g j place : ℕ) (p q : Places) → (b ≡ true → j ≡ g) → (b ≡ false → j ≡ g → ⊥) → TakeNotes p g place q
    → (marks_at p.marks.items j).birth ≡ (marks_at q.marks.items j).birth
birth_at true g j place p q is other n =
    subst (λ (i : ℕ). (marks_at p.marks.items i).birth ≡ (marks_at q.marks.items i).birth) (sym (is refl))
    (sym (ap (λ (m : Marks). m.birth) n.here))
birth_at false g j place p q is other n = sym (ap (λ (m : Marks). m.birth) (n.there j (other refl)))

module _ (p q : Places) (g place t : ℕ) (by : ℕ → Option ℕ) (places : ℕ) (who : ℕ → ℕ) (first : ℕ → Option ℕ) (birth : ℕ → ℕ)
    (h : ChannelShowsPlaces p t by places who first birth) where
  noted_one : TakeNotes p g place q → ChannelShowsPlaces q t (put by g (Some place)) places who first birth
  noted_one n = record {
    places_are = h.places_are ∙ ap (λ (v : List ℕ). length v) (sym n.served);
    who_is = subst (λ (v : List ℕ). (i : ℕ) → i < length v → who i ≡ slice_index v i) (sym n.served) h.who_is;
    counted = n.counted ∙ h.counted;
    first_is = λ j. h.first_is j ∙ first_at (j == g) g j place p q (same_number j g) (other_number j g) n;
    by_is = λ j. by_at (j == g) g j place by p q (same_number j g) (other_number j g) n (h.by_is j);
    birth_is = λ j. h.birth_is j ∙ birth_at (j == g) g j place p q (same_number j g) (other_number j g) n;
  }

  not_less : (n m : ℕ) → m ≡ n → nat_lt n m ≡ false
  not_less n m e = grind (arith, nat_tests)

  is_less : (n m : ℕ) → m ≡ n + 1 → nat_lt n m ≡ true
  is_less n m e = grind (arith, nat_tests)

  one_longer : (xs : List ℕ) → length (xs ++ g ∷ []) ≡ length xs + 1
  one_longer [] = refl
  one_longer (x ∷ xs) = let e : suc (length (xs ++ g ∷ [])) ≡ suc (length xs) + 1 = (let d = one_longer xs in omega (arith, d)) in e

  pub noted : (b : Bool) (c d : Client) → b ≡ nat_lt (length c.order) (length d.order) → TakeNotesBy b p g place q → by ≡ c.settled_by
      → SettlesNone c d ⊎ ClientSettles c g place d → ChannelShowsPlaces q t d.settled_by places who first birth
  noted b c d e n own (inl s) =
      let no : b ≡ false = e ∙ not_less (length c.order) (length d.order) (ap (λ (v : List ℕ). length v) s.order) in
      let same : q ≡ p = subst (λ (v : Bool). TakeNotesBy v p g place q) no n in
      subst (λ (v : Places). ChannelShowsPlaces v t d.settled_by places who first birth) (sym same)
      (subst (λ (v : ℕ → Option ℕ). ChannelShowsPlaces p t v places who first birth) (own ∙ sym s.settled_by) h)
  noted b c d e n own (inr s) =
      let long : length d.order ≡ length c.order + 1 = ap (λ (v : List ℕ). length v) s.order ∙ one_longer c.order in
      let yes : b ≡ true = e ∙ is_less (length c.order) (length d.order) long in
      let one : TakeNotes p g place q = subst (λ (v : Bool). TakeNotesBy v p g place q) yes n in
      subst (λ (v : ℕ → Option ℕ). ChannelShowsPlaces q t v places who first birth)
      (ap (λ (v : ℕ → Option ℕ). put v g (Some place)) own ∙ sym s.settled_by) (noted_one one)
