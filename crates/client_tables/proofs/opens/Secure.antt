-- No link and no list leads out of the rows behind a row more, whatever the operations ask: by what the open's marks and tables tell alone.
use Rattle.std.proofs.Common.{◌≡◌, ℕ, ◌+◌, ◌-◌, ◌<◌, ◌≤◌, ◌^◌, false, if◌then◌else◌, Bool, true, List, [], ◌∷◌, ◌++◌, length, slice_index}
use Rattle.std.proofs.Common.{ap, sym, ◌∙◌, subst, arith, ◌⊎◌, inl, inr}
use Rattle.std.proofs.lemmas.List.{length_push}
use Rattle.client_values.specs.declared.operations.shapes.Kind.{Kind}
use Rattle.client_values.specs.declared.operations.shapes.Kind.TheVariants as kinds
use Rattle.client_rows.specs.declared.operation_rows.row.Row.{Row}
use Rattle.client_rows.specs.operation_rows.Rows.{owner, row_at, stands}
use Rattle.client_rows.specs.operation_rows.Holding.{IsSafe}
use Rattle.client_rows.specs.operation_rows.Listed.{IsListed}
use Rattle.client_rows.proofs.operation_rows.Adding.{at_new, at_old}
use Rattle.base_lists.specs.range_index.Tops.{Covers, IsTop, is_in}
use Rattle.client_rows.specs.declared.open_marks.marks.Marks.{Marks}
use Rattle.client_rows.specs.open_marks.Marks.{AreMarksBelow, ListsHolders, mark_of, top_of}
use Rattle.client_tables.specs.opens.Opened.{AreTopped, OpenBehind, Clears, OpenStays, placed_row}

ways : (x y : ℕ) → (x ≡ y) ⊎ (x ≡ y → ⊥)
ways x y = grind arith

less_one : (x n : ℕ) → x < n → x ≤ n - 1
less_one x n l = omega arith

higher : (x n m : ℕ) → x < n → m ≡ n + 1 → x < m
higher x n m l e = omega arith

below_last : (g n m : ℕ) → g < m → m ≡ n + 1 → (g ≡ n → ⊥) → g < n
below_last g n m l e q = omega arith

not_nought : (n : ℕ) → 0 < n → 0 ≡ n → ⊥
not_nought n p e = omega arith

both_ends : (x y z : ℕ) → x ≤ y → y ≤ z → x ≤ z
both_ends x y z p q = omega arith

inside_front : (i e n : ℕ) → i < e → e ≤ n → i < n
inside_front i e n l h = omega arith

-- ---- tables of bytes

some_of : (k : Kind) (written locked : ℕ → ℕ) (x n : ℕ) → 0 < n → written x < n → locked x < n → top_of k written locked x < n
some_of kinds.Create written locked x n p a b = p
some_of kinds.Write written locked x n p a b = a
some_of kinds.Read written locked x n p a b = a
some_of kinds.End written locked x n p a b = p
some_of kinds.Change written locked x n p a b = p
some_of kinds.Lock written locked x n p a b = b
some_of kinds.Look written locked x n p a b = p
some_of kinds.List written locked x n p a b = p
some_of kinds.Close written locked x n p a b = p

below_one : (x n : ℕ) → x < n → x < n + 1
below_one x n l = omega arith

none_below : (n : ℕ) → 0 < n + 1
none_below n = omega arith

itself_below : (n : ℕ) → n < n + 1
itself_below n = omega arith

stays_below : (old new : ℕ → ℕ) (x n : ℕ) → OpenStays old new → old x < n → new x < n + 1
stays_below old new x n s l = subst (λ y. y < n + 1) (sym (s x)) (below_one (old x) n l)

clears_below : (new : ℕ → ℕ) (x n : ℕ) → Clears new → new x < n + 1
clears_below new x n s = subst (λ y. y < n + 1) (sym (s x)) (none_below n)

by_test : (b : Bool) (x n : ℕ) → x < n → (if b then n else x) < n + 1
by_test true x n l = itself_below n
by_test false x n l = below_one x n l

covers_below : (old new : ℕ → ℕ) (at size x n : ℕ) → Covers old new at size n → x < 2 ^ 64 → old x < n → new x < n + 1
covers_below old new at size x n c f l = subst (λ y. y < n + 1) (sym (c x f)) (by_test (is_in at size x) (old x) n l)

pub topped_behind : (k : Kind) (written written2 locked locked2 : ℕ → ℕ) (at size n : ℕ) → OpenBehind k written written2
    locked locked2 at size n
    → AreTopped written locked n → AreTopped written2 locked2 (n + 1)
topped_behind kinds.Create w w2 l l2 at size n b t x f =
    (stays_below w w2 x n b.0 (t x f).0, stays_below l l2 x n b.1 (t x f).1)
topped_behind kinds.Write w w2 l l2 at size n b t x f =
    (covers_below w w2 at size x n b.0 f (t x f).0, stays_below l l2 x n b.1 (t x f).1)
topped_behind kinds.Read w w2 l l2 at size n b t x f =
    (stays_below w w2 x n b.0 (t x f).0, stays_below l l2 x n b.1 (t x f).1)
topped_behind kinds.End w w2 l l2 at size n b t x f = (clears_below w2 x n b.0, stays_below l l2 x n b.1 (t x f).1)
topped_behind kinds.Change w w2 l l2 at size n b t x f =
    (stays_below w w2 x n b.0 (t x f).0, stays_below l l2 x n b.1 (t x f).1)
topped_behind kinds.Lock w w2 l l2 at size n b t x f =
    (stays_below w w2 x n b.0 (t x f).0, covers_below l l2 at size x n b.1 f (t x f).1)
topped_behind kinds.Look w w2 l l2 at size n b t x f =
    (stays_below w w2 x n b.0 (t x f).0, stays_below l l2 x n b.1 (t x f).1)
topped_behind kinds.List w w2 l l2 at size n b t x f =
    (stays_below w w2 x n b.0 (t x f).0, stays_below l l2 x n b.1 (t x f).1)
topped_behind kinds.Close w w2 l l2 at size n b t x f = (clears_below w2 x n b.0, clears_below l2 x n b.1)

-- ---- the rows

module _ (rows : List Row) (row : Row) (m : Marks) (written locked : ℕ → ℕ) (k : Kind) (at size : ℕ) (holders holders2 : List ℕ)
    (listed : ListsHolders (stands rows) m.close (mark_of k m) (λ x. top_of k written locked x) at size holders holders2)
    (safe : IsSafe rows holders) (p : 0 < length rows) (below : AreMarksBelow m (length rows)) (mark : mark_of k m < length rows)
    (topped : AreTopped written locked (length rows)) (own : row.create ≤ length rows) where
  abbrev placed : Row
  placed = placed_row row (length holders) (length holders2) m

  abbrev more : List Row
  more = rows ++ placed ∷ []

  count : length more ≡ length rows + 1
  count = length_push rows placed

  descends : (f : Row → ℕ) → ((g : ℕ) → f (row_at rows g) ≤ g - 1) → f placed < length rows → (g : ℕ) → f (row_at more g) ≤ g - 1
  descends f old new g =
      elim (ways g (length rows)) as (λ _. f (row_at more g) ≤ g - 1) [
        | inl e ↦ subst (λ x. f (row_at more x) ≤ x - 1) (sym e)
            (subst (λ (r : Row). f r ≤ length rows - 1) (sym (at_new rows placed)) (less_one (f placed) (length rows) new))
        | inr e ↦ subst (λ (r : Row). f r ≤ g - 1) (sym (at_old rows placed g e)) (old g)
      ]

  -- what is listed of the new one is below it
  entry : (l : ℕ) → (0 < l) × ((l ≡ m.close) ⊎ ((l ≡ mark_of k m) ⊎ IsTop (λ x. top_of k written locked x) at size l)) → l < length rows
  entry l h =
      elim h.1 as (λ _. l < length rows) [
        | inl e ↦ subst (λ x. x < length rows) (sym e) below.close
        | inr q ↦ elim q as (λ _. l < length rows) [
          | inl e ↦ subst (λ x. x < length rows) (sym e) mark
          | inr t ↦ subst (λ x. x < length rows) t.is
              (some_of k written locked t.byte (length rows) p (topped t.byte t.fits).0 (topped t.byte t.fits).1)
        ]
      ]

  lists_old : (g : ℕ) → (g ≡ length rows → ⊥) → IsListed rows holders g → IsListed more holders2 g
  lists_old g e l =
      subst (λ (r : Row). (r.holders ≤ r.holders_end) × (r.holders_end ≤ length holders2)
      × ((i : ℕ) → r.holders ≤ i → i < r.holders_end → slice_index holders2 i < length more)
      × ((i : ℕ) → r.holders ≤ i → i < r.holders_end → 0 < slice_index holders2 i)
      → IsListed more holders2 g) (at_old rows placed g e)
      (λ w. record {
        begins = w.0;
        ends = w.1;
        each = w.2;
        some = w.3;
      }) (
        l.begins,
        both_ends (row_at rows g).holders_end (length holders) (length holders2) l.ends listed.adds.longer,
        λ i a b. subst (λ x. x < length more)
            (sym (listed.adds.front i (inside_front i (row_at rows g).holders_end (length holders) b l.ends)))
            (higher (slice_index holders i) (length rows) (length more) (l.each i a b) count),
        λ i a b. subst (λ x. 0 < x)
            (sym (listed.adds.front i (inside_front i (row_at rows g).holders_end (length holders) b l.ends))) (l.some i a b),
      )

  lists_new : IsListed more holders2 (length rows)
  lists_new =
      subst (λ (r : Row). (r.holders ≤ r.holders_end) × (r.holders_end ≤ length holders2)
      × ((i : ℕ) → r.holders ≤ i → i < r.holders_end → slice_index holders2 i < length more)
      × ((i : ℕ) → r.holders ≤ i → i < r.holders_end → 0 < slice_index holders2 i)
      → IsListed more holders2 (length rows)) (at_new rows placed)
      (λ w. record {
        begins = w.0;
        ends = w.1;
        each = w.2;
        some = w.3;
      }) (
        listed.adds.longer,
        same_least (length holders2),
        λ i a b. higher (slice_index holders2 i) (length rows) (length more)
            (entry (slice_index holders2 i) (listed.adds.behind i a b)) count,
        λ i a b. (listed.adds.behind i a b).0,
      )
    where
      same_least : (n : ℕ) → n ≤ n
      same_least n = omega arith

  pub secure : IsSafe more holders2
  secure =
      record {
        descend = record {
          all = descends (λ (r : Row). r.lower) safe.descend.all below.last;
          changes = descends (λ (r : Row). r.change) safe.descend.changes below.change;
          filled = descends (λ (r : Row). r.filled) safe.descend.filled below.filled;
        };
        listed = λ g l. elim (ways g (length rows)) as (λ _. IsListed more holders2 g) [
          | inl e ↦ subst (λ x. IsListed more holders2 x) (sym e) lists_new
          | inr e ↦ lists_old g e (safe.listed g (below_last g (length rows) (length more) l count e))
        ];
        nought = ap (λ (r : Row). r.unsettled) (at_old rows placed 0 (not_nought (length rows) p)) ∙ safe.nought;
        owned = λ g l. elim (ways g (length rows)) as (λ _. owner more g ≤ g) [
          | inl e ↦ subst (λ x. owner more x ≤ x) (sym e)
              (subst (λ (r : Row). r.create ≤ length rows) (sym (at_new rows placed)) own)
          | inr e ↦ subst (λ (r : Row). r.create ≤ g) (sym (at_old rows placed g e))
              (safe.owned g (below_last g (length rows) (length more) l count e))
        ];
      }
