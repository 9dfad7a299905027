-- Table and opens behind a create, which has an open of its own.
use Rattle.std.proofs.Common.{◌≡◌, ℕ, ◌+◌, ◌<◌, ◌≤◌, false, List, [], ◌∷◌, ◌++◌, length}
use Rattle.std.proofs.Common.{ap, sym, ◌∙◌, subst, arith, ◌⊎◌, inl, inr}
use Rattle.std.proofs.lemmas.List.{length_push}
use Rattle.spec_exchange.specs.Table.{put}
use Rattle.spec_exchange.specs.Operations.{Op, persists}
use Rattle.spec_exchange.specs.Client.{Client, take_op}
use Rattle.client_values.specs.declared.operations.shapes.Kind.TheVariants as kinds
use Rattle.client_rows.specs.declared.operation_rows.row.Row.{Row}
use Rattle.client_rows.specs.declared.operation_rows.slots.Slot.{Slot}
use Rattle.client_rows.specs.operation_rows.Rows.{kind, owner, row_at}
use Rattle.client_rows.proofs.operation_rows.Adding.{at_new, at_old}
use Rattle.client_rows.proofs.operation_rows.Walking.{put_at}
use Rattle.client_tables.specs.declared.choice.finding.Attached.{Attached}
use Rattle.client_tables.specs.choice.Shown.{IsChoiceAt}
use Rattle.client_tables.specs.declared.opens.opening.Open.{Open}
use Rattle.client_tables.specs.declared.whole_table.parts.Table.{Table}
use Rattle.client_tables.specs.whole_table.Shown.{TableFits, ShowsTable}
use Rattle.client_tables.specs.declared.attached_opens.opened.Opened.{Opened}
use Rattle.client_tables.specs.attached_opens.Known.{IsKnownAt, ShowsOpened}
use Rattle.client_tables.specs.attached_opens.Opens.{FitsOpens, HasSlots, ShowsAttached}
use Rattle.client_steps.specs.submits_on_opens.Keeping.{SubmitKeeps}
use Rattle.client_steps.specs.submitting.Marked.{FitsMarks, IsMarkBounded, ShowsMarks}
use Rattle.client_steps.specs.submitting.Whole.{FitsWhole, ShowsWhole}
use Rattle.client_steps.proofs.submitting.Grown.{Pair, fits_grown, known_grown, shown_grown}
use Rattle.client_steps.proofs.submitting.Listed.{at_last, fits_more, known_last, known_more, shown_more}
use Rattle.client_steps.proofs.submitting.Marks.{Reads, keeps_grown, marked_grown, reads_more}

below_it : (x n : ℕ) → x < n → x ≡ n → ⊥
below_it x n l e = omega arith

last_in : (n m : ℕ) → m ≡ n + 1 → n < m
last_in n m e = omega arith

higher : (x n m : ℕ) → x < n → m ≡ n + 1 → x < m
higher x n m l e = omega arith

at_least : (x n : ℕ) → x ≡ n → n ≤ x
at_least x n e = omega arith

no_place : (x : ℕ) → x < 0 → ⊥
no_place x l = omega arith

module _ (rows : List Row) (r : Row) (attached : List Attached) (a : Attached) (c_is : r.create ≡ length rows)
    (o_is : r.«open» ≡ length attached) (plain : r.kind ≡ kinds.Lock → ⊥) (none : a.slots.items ≡ []) (new : a.session
    ≡ 0) (fresh : a.locks ≡ 0)
    (owned : (g : ℕ) → 0 < g → g < length rows → owner rows g < length rows) (f : FitsOpens rows attached) where
  abbrev more : List Attached
  more = attached ++ a ∷ []

  -- no other row is on the new open
  pair : (g : ℕ) → 0 < g → g < length rows → Pair r (row_at rows g)
  pair g p l = (
    λ e. absurd (below_it (owner rows g) (length rows) (owned g p l) (sym e ∙ c_is)),
    λ e. absurd (below_it (row_at rows g).«open» (length attached) (f.opens g p l) (sym e ∙ o_is)),
  )

  placed : r.«open» < length more
  placed = subst (λ x. x < length more) (sym o_is) (last_in (length attached) (length more) (length_push attached a))

  it : (o : Attached) → IsChoiceAt more r.«open» o → o ≡ a
  it o h = at_last attached a r.«open» o o_is h

  pub fits_one : FitsOpens (rows ++ r ∷ []) more
  fits_one = fits_grown rows r more placed pair (λ o k h. absurd (plain k)) (fits_more attached a rows none fresh f)

  pub shown_one : (c : Client) → ShowsAttached rows attached c → ShowsAttached (rows ++ r ∷ []) more c
  shown_one c s =
      shown_grown rows r more c.attached c.slot_user c.retried c.full
      (λ o h. (
        s.session_none r.create (at_least r.create (length rows) c_is) ∙ sym new ∙ sym (ap (λ (z : Attached). z.session) (it o h)),
        unused o (ap (λ (z : Attached). z.slots.items) (it o h) ∙ none),
      ))
      (shown_more attached a rows c.attached c.slot_user c.retried c.full f s)
    where
      unused : (o : Attached) → o.slots.items ≡ [] → HasSlots o.slots.items (c.slot_user r.create) (c.retried r.create) (c.full r.create)
      unused o e =
          record {
            user_is = λ place l. absurd (no_place place (subst (λ (xs : List Slot). place < length xs) e l));
            retried_is = λ place l. absurd (no_place place (subst (λ (xs : List Slot). place < length xs) e l));
            full_is = λ place l. absurd (no_place place (subst (λ (xs : List Slot). place < length xs) e l));
            unused = λ place l. s.slots_none r.create (place + 1) (at_least r.create (length rows) c_is);
          }

  pub known_one : (opened : List Opened) (k : Opened) (c : Client) (op : Op) → length opened ≡ length attached → persists op ≡ k.persist
      → k.shut ≡ false → k.file ≡ 0 → ShowsOpened rows opened c
      → ShowsOpened (rows ++ r ∷ []) (opened ++ k ∷ []) (take_op c (length rows) op)
  known_one opened k c op as_many firm shut file s =
      known_grown rows r (opened ++ k ∷ []) c.op op c.file c.closed_ok c.sent c.slot_of owned
      (λ o h. (
        s.file_none r.create (at_least r.create (length rows) c_is) ∙ sym file ∙ sym (ap (λ (z : Opened). z.file) (its o h)),
        s.closed_none r.create (at_least r.create (length rows) c_is) ∙ sym shut ∙ sym (ap (λ (z : Opened). z.shut) (its o h)),
        ap (λ x. persists x) (put_at c.op (length rows) op r.create c_is) ∙ firm ∙ sym (ap (λ (z : Opened). z.persist) (its o h)),
      ))
      (known_more opened k rows c.op c.file c.closed_ok c.sent c.slot_of
      (λ g p l. subst (λ n. (row_at rows g).«open» < n) (sym as_many) (f.opens g p l)) s)
    where
      its : (o : Opened) → IsKnownAt (opened ++ k ∷ []) r.«open» o → o ≡ k
      its o h = known_last opened k r.«open» o (o_is ∙ sym as_many) h

  module _ (marks : List Open) (mark : Open) (as_many : length marks ≡ length attached) (m : FitsMarks rows marks) where
    reads : Reads marks (marks ++ mark ∷ []) r.«open» mark
    reads = subst (λ x. Reads marks (marks ++ mark ∷ []) x mark) (sym (o_is ∙ sym as_many)) (reads_more marks mark)

    inside : r.«open» < length (marks ++ mark ∷ [])
    inside =
        subst (λ x. x < length (marks ++ mark ∷ [])) (sym (o_is ∙ sym as_many))
        (last_in (length marks) (length (marks ++ mark ∷ [])) (length_push marks mark))

    all_in : (g : ℕ) → 0 < g → g < length rows → (row_at rows g).«open» < length (marks ++ mark ∷ [])
    all_in g p l = higher (row_at rows g).«open» (length marks) (length (marks ++ mark ∷ [])) (m.opens g p l) (length_push marks mark)

    pub marks_one : IsMarkBounded mark (length rows + 1) → mark.marks.last ≡ length rows → FitsMarks (rows ++ r ∷ []) (marks ++ mark ∷ [])
    marks_one below last = marked_grown rows r marks (marks ++ mark ∷ []) mark reads inside pair all_in below last m

    pub keeps_one : (c : Client) (op : Op) → SubmitKeeps (rows ++ r ∷ []) (length rows + 1) (put c.op (length rows) op) (length rows) mark
        → ((other : ℕ) (z : Open) → (length rows ≡ other → ⊥) → SubmitKeeps rows (length rows) c.op other z
        → SubmitKeeps (rows ++ r ∷ []) (length rows + 1) (put c.op (length rows) op) other z)
        → ShowsMarks rows marks c.op → ShowsMarks (rows ++ r ∷ []) (marks ++ mark ∷ []) (put c.op (length rows) op)
    keeps_one c op own others s =
        keeps_grown rows r marks (marks ++ mark ∷ []) mark reads inside pair c.op op all_in
        (subst (λ x. SubmitKeeps (rows ++ r ∷ []) (length rows + 1) (put c.op (length rows) op) x mark) (sym c_is) own)
        (λ other z e k. others other z (λ h. e (c_is ∙ h)) k) s

-- a create is on its own open, and the others stay on theirs
before_last : (g n m : ℕ) → g < m → m ≡ n + 1 → (g ≡ n → ⊥) → g < n
before_last g n m l e q = omega arith

ways : (x y : ℕ) → (x ≡ y) ⊎ (x ≡ y → ⊥)
ways x y = grind arith

pub homes_one : (rows : List Row) (r : Row) → r.create ≡ length rows
    → ((g : ℕ) → 0 < g → g < length rows → kind rows g ≡ kinds.Create → owner rows g ≡ g)
    → (g : ℕ) → 0 < g → g < length (rows ++ r ∷ []) → kind (rows ++ r ∷ []) g ≡ kinds.Create → owner (rows ++ r ∷ []) g ≡ g
homes_one rows r is homes g p l k =
    elim (ways g (length rows)) as (λ _. owner (rows ++ r ∷ []) g ≡ g) [
      | inl e ↦ ap (λ x. owner (rows ++ r ∷ []) x) e ∙ ap (λ (w : Row). w.create) (at_new rows r) ∙ is ∙ sym e
      | inr e ↦ ap (λ (w : Row). w.create) (at_old rows r g e)
          ∙ homes g p (before_last g (length rows) (length (rows ++ r ∷ [])) l (length_push rows r) e)
          (sym (ap (λ (w : Row). w.kind) (at_old rows r g e)) ∙ k)
    ]

-- ---- lists that are the same ones

module _ (t : Table) (attached attached2 : List Attached) (opened opened2 : List Opened) (marks marks2 : List Open)
    (a : attached2 ≡ attached) (o : opened2 ≡ opened) (m : marks2 ≡ marks) where
  pub whole_fits : FitsWhole t attached opened marks → FitsWhole t attached2 opened2 marks2
  whole_fits f =
      subst (λ (x : List Attached). FitsWhole t x opened2 marks2) (sym a)
      (subst (λ (x : List Opened). FitsWhole t attached x marks2) (sym o)
      (subst (λ (x : List Open). FitsWhole t attached opened x) (sym m) f))

  pub whole_shown : (c : Client) → ShowsWhole t attached opened marks c → ShowsWhole t attached2 opened2 marks2 c
  whole_shown c s =
      subst (λ (x : List Attached). ShowsWhole t x opened2 marks2 c) (sym a)
      (subst (λ (x : List Opened). ShowsWhole t attached x marks2 c) (sym o)
      (subst (λ (x : List Open). ShowsWhole t attached opened x c) (sym m) s))

-- ---- a table whose rows are the same ones

module _ (t u : Table) (attached : List Attached) (opened : List Opened) (marks : List Open)
    (same : u.rows.items ≡ t.rows.items) where
  pub rows_fit : FitsWhole t attached opened marks → TableFits u → FitsWhole u attached opened marks
  rows_fit f g =
      record {
        table = g;
        opens = subst (λ (xs : List Row). FitsOpens xs attached) (sym same) f.opens;
        marked = subst (λ (xs : List Row). FitsMarks xs marks) (sym same) f.marked;
        known = f.known;
        counted = f.counted;
        homes = subst (λ (xs : List Row). (g : ℕ) → 0 < g → g < length xs → kind xs g ≡ kinds.Create → owner xs g ≡ g) (sym same) f.homes;
      }

  pub rows_show : (c : Client) → ShowsWhole t attached opened marks c → ShowsTable u c → ShowsWhole u attached opened marks c
  rows_show c s g =
      record {
        table = g;
        attached = subst (λ (xs : List Row). ShowsAttached xs attached c) (sym same) s.attached;
        opened = subst (λ (xs : List Row). ShowsOpened xs opened c) (sym same) s.opened;
        marked = subst (λ (xs : List Row). ShowsMarks xs marks c.op) (sym same) s.marked;
      }
