-- The places behind a message that the server took.
use Rattle.std.proofs.Common.{◌≡◌, ℕ, zero, suc, ◌+◌, ◌≤◌, ◌<◌, ◌==◌, ◌&&◌, Bool, true, false, if◌then◌else◌, refl, sym}
use Rattle.std.proofs.Common.{ap, subst, ◌∙◌, arith}
use Rattle.std.proofs.Common.{List, [], ◌∷◌, ◌++◌, length, slice_index, Option}
use Rattle.std.proofs.lemmas.Bool.Decides.{nat_tests}
use Rattle.spec_exchange.specs.Network.{first_noted}
use Rattle.spec_exchange.specs.Table.{put}
use Rattle.world_ends.specs.Places.{ChannelShowsPlaces, marks_at}
use Rattle.world_ends.specs.declared.world.Marks.{Marks}
use Rattle.world_ends.specs.declared.world.Places.{Places}
use Rattle.world_steps.specs.serving.Noted.{MarksBy, MarksOne, NotesOne, noted_by}
use Rattle.world_steps.proofs.serving.Puts.{same_number}

-- ---- a list with one more

pub length_end : {X : Type 0} (xs : List X) (x : X) → length (xs ++ x ∷ []) ≡ length xs + 1
length_end [] x = refl
length_end (y ∷ xs) x = (let e = length_end xs x in omega (arith, e))

at_end : (xs : List ℕ) (g : ℕ) → slice_index (xs ++ g ∷ []) (length xs) ≡ g
at_end [] g = refl
at_end (y ∷ xs) g = at_end xs g

before_end : (xs : List ℕ) (g n : ℕ) → n < length xs → slice_index (xs ++ g ∷ []) n ≡ slice_index xs n
before_end [] g n l = absurd (let h : n < 0 = l in omega (arith, h))
before_end (y ∷ xs) g zero l = refl
before_end (y ∷ xs) g (suc n) l = before_end xs g n (let h : n < length xs = omega (arith, l) in h)

still_before : (n k : ℕ) → n < k + 1 → (n == k) ≡ false → n < k
still_before n k l e = grind (arith, nat_tests)

who_by : (b : Bool) (who : ℕ → ℕ) (xs : List ℕ) (g n : ℕ) → (b ≡ true → n ≡ length xs) → (b ≡ false → n < length xs)
    → ((m : ℕ) → m < length xs → who m ≡ slice_index xs m) → (if b then g else who n) ≡ slice_index (xs ++ g ∷ []) n
who_by true who xs g n is before h = sym (ap (λ (m : ℕ). slice_index (xs ++ g ∷ []) m) (is refl) ∙ at_end xs g)
who_by false who xs g n is before h = h n (before refl) ∙ sym (before_end xs g n (before refl))

-- ---- the marks

not_other : (j g : ℕ) → (j == g) ≡ false → j ≡ g → ⊥
not_other j g e d = grind (arith, nat_tests)

by_number : {X : Type 0} (b : Bool) (j g : ℕ) (read : Marks → X) (old new : ℕ → Marks) (column : ℕ → X) (v : X)
    → (b ≡ true → j ≡ g) → (b ≡ false → new j ≡ old j) → ((i : ℕ) → column i ≡ read (old i)) → v ≡ read (new g)
    → (if b then v else column j) ≡ read (new j)
by_number true j g read old new column v is other h here = here ∙ sym (ap (λ (i : ℕ). read (new i)) (is refl))
by_number false j g read old new column v is other h here = h j ∙ sym (ap read (other refl))

noted_column : {X : Type 0} (old new : List Marks) (g place behind : ℕ) (makes : Bool) (read : Marks → X) (column : ℕ → X) (v : X)
    → MarksOne old g place behind makes new → ((i : ℕ) → column i ≡ read (marks_at old i))
    → v ≡ read (noted_by makes place behind (marks_at old g)) → (j : ℕ) → put column g v j ≡ read (marks_at new j)
noted_column old new g place behind makes read column v r h e = λ j.
    by_number (j == g) j g read (λ i. marks_at old i) (λ i. marks_at new i) column v (same_number j g) (λ b. r.there j (not_other j g b)) h
    (e ∙ sym (ap read r.here))

-- a column that stays where the operation's value does
kept_by : {X : Type 0} (b : Bool) (j g : ℕ) (read : Marks → X) (old new : ℕ → Marks) (column : ℕ → X) → (b ≡ true → j ≡ g)
    → (b ≡ false → new j ≡ old j) → ((i : ℕ) → column i ≡ read (old i)) → read (new g) ≡ read (old g) → column j ≡ read (new j)
kept_by true j g read old new column is other h e = subst (λ (i : ℕ). column i ≡ read (new i)) (sym (is refl)) (h g ∙ sym e)
kept_by false j g read old new column is other h e = h j ∙ sym (ap read (other refl))

kept_column : {X : Type 0} (old new : List Marks) (g place behind : ℕ) (makes : Bool) (read : Marks → X) (column : ℕ → X)
    → MarksOne old g place behind makes new → ((i : ℕ) → column i ≡ read (marks_at old i))
    → read (noted_by makes place behind (marks_at old g)) ≡ read (marks_at old g) → (j : ℕ) → column j ≡ read (marks_at new j)
kept_column old new g place behind makes read column r h e = λ j.
    kept_by (j == g) j g read (λ i. marks_at old i) (λ i. marks_at new i) column (same_number j g) (λ b. r.there j (not_other j g b)) h
    (ap read r.here ∙ e)

birth_by : (makes : Bool) (old new : List Marks) (g place behind : ℕ) (birth : ℕ → ℕ) → MarksOne old g place behind makes new
    → ((i : ℕ) → birth i ≡ (marks_at old i).birth) → (j : ℕ) → (if makes then put birth g behind else birth) j ≡ (marks_at new j).birth
birth_by true old new g place behind birth r h =
    noted_column old new g place behind true (λ (m : Marks). m.birth) birth behind r h refl
birth_by false old new g place behind birth r h = kept_column old new g place behind false (λ (m : Marks). m.birth) birth r h refl

-- ---- the whole

within : (g t n : ℕ) → g ≤ t → n ≡ t + 1 → g < n
within g t n l e = omega (arith, l, e)

module _ (x y : Places) (t : ℕ) (settled_by : ℕ → Option ℕ) (places : ℕ) (who : ℕ → ℕ) (first : ℕ → Option ℕ) (birth : ℕ → ℕ) (g : ℕ)
    (h : ChannelShowsPlaces x t settled_by places who first birth) where
  put_who : y.served.items ≡ x.served.items ++ g ∷ [] → (n : ℕ) → n < length y.served.items → put who places g n
      ≡ slice_index y.served.items n
  put_who e n l =
      let m : n < length x.served.items + 1 = subst (λ (k : ℕ). n < k) (ap length e ∙ length_end x.served.items g) l in
      subst (λ (k : ℕ). put who k g n ≡ slice_index y.served.items n) (sym h.places_are)
      (who_by (n == length x.served.items) who x.served.items g n (same_number n (length x.served.items))
      (still_before n (length x.served.items) m) h.who_is ∙ ap (λ (l : List ℕ). slice_index l n) (sym e))

  more : y.served.items ≡ x.served.items ++ g ∷ [] → places + 1 ≡ length y.served.items
  more e = ap (λ (n : ℕ). n + 1) h.places_are ∙ sym (ap length e ∙ length_end x.served.items g)

  acted : (makes : Bool) → g ≤ t → y.served.items ≡ x.served.items ++ g ∷ []
      → MarksBy true x.marks.items g (length x.served.items) (length x.served.items + 1) makes y.marks.items
      → ChannelShowsPlaces y t settled_by (places + 1) (put who places g) (put first g (first_noted (first g) places))
      (if makes then put birth g (places + 1) else birth)
  acted makes l e r =
      let m = r (within g t (length x.marks.items) l h.counted) in
      let n = length x.served.items in
      record {
        places_are = more e;
        who_is = put_who e;
        counted = m.counted ∙ h.counted;
        first_is = noted_column x.marks.items y.marks.items g n (n + 1) makes (λ (v : Marks). v.first) first
            (first_noted (first g) places) m
            h.first_is (ap (λ (o : Option ℕ). first_noted o places) (h.first_is g)
            ∙ ap (λ (k : ℕ). first_noted (marks_at x.marks.items g).first k) h.places_are);
        by_is = kept_column x.marks.items y.marks.items g n (n + 1) makes (λ (v : Marks). v.by) settled_by m h.by_is refl;
        birth_is = subst (λ (k : ℕ). (j : ℕ) → (if makes then put birth g (k + 1) else birth) j ≡ (marks_at y.marks.items j).birth)
            (sym h.places_are) (birth_by makes x.marks.items y.marks.items g n (n + 1) birth m h.birth_is);
      }

  silent : y.served.items ≡ x.served.items ++ g ∷ [] → y.marks.items ≡ x.marks.items
      → ChannelShowsPlaces y t settled_by (places + 1) (put who places g) first birth
  silent e r = record {
    places_are = more e;
    who_is = put_who e;
    counted = ap length r ∙ h.counted;
    first_is = λ j. h.first_is j ∙ ap (λ (l : List Marks). (marks_at l j).first) (sym r);
    by_is = λ j. h.by_is j ∙ ap (λ (l : List Marks). (marks_at l j).by) (sym r);
    birth_is = λ j. h.birth_is j ∙ ap (λ (l : List Marks). (marks_at l j).birth) (sym r);
  }

  -- by whether it acted
  pub noted : (own acts makes : Bool) → g ≤ t → NotesOne x g (own && acts) makes y
      → ChannelShowsPlaces y t settled_by (places + 1) (put who places g)
      (if own && acts then put first g (first_noted (first g) places) else first)
      (if own && (acts && makes) then put birth g (places + 1) else birth)
  noted true true makes l r = acted makes l r.served r.marks
  noted true false makes l r = silent r.served r.marks
  noted false acts makes l r = silent r.served r.marks
