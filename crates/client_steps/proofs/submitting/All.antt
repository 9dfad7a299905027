-- Table and opens behind an operation more on an open that there is, and where memory ran out.
use Rattle.std.proofs.Common.{◌≡◌, ℕ, ◌+◌, ◌<◌, ◌≤◌, true, List, [], ◌∷◌, ◌++◌, length, set, vec_capacity}
use Rattle.std.proofs.Common.{refl, ap, sym, ◌∙◌, subst, arith, ◌⊎◌, inl, inr}
use Rattle.std.proofs.Math.ListN.{length-set}
use Rattle.std.proofs.lemmas.List.{length_push}
use Rattle.spec_exchange.specs.Table.{put}
use Rattle.spec_exchange.specs.Operations.{Op, persists}
use Rattle.spec_exchange.specs.Client.{Client, take_op}
use Rattle.client_values.specs.declared.operations.shapes.Kind.TheVariants as kinds
use Rattle.client_rows.specs.declared.operation_rows.row.Row.{Row}
use Rattle.client_rows.specs.declared.operation_rows.slots.Slot.{Slot}
use Rattle.client_rows.specs.operation_rows.Rows.{row_at, owner, kind}
use Rattle.client_rows.proofs.operation_rows.Adding.{at_new, at_old}
use Rattle.client_rows.proofs.operation_rows.Walking.{put_off}
use Rattle.client_rows.specs.declared.open_marks.marks.Marks.{Marks}
use Rattle.client_rows.specs.open_marks.Marks.{IsHighest}
use Rattle.client_tables.specs.declared.choice.finding.Attached.{Attached}
use Rattle.client_tables.specs.choice.Shown.{IsChoiceAt}
use Rattle.client_tables.specs.declared.opens.opening.Open.{Open}
use Rattle.client_tables.specs.declared.attached_opens.opened.Opened.{Opened}
use Rattle.client_tables.specs.attached_opens.Known.{IsKnownAt, ShowsOpened}
use Rattle.client_tables.specs.attached_opens.Locks.{locks_on}
use Rattle.client_tables.specs.attached_opens.Opens.{FitsOpens, HasSlots, HaveUsers, IsRoomy, ShowsAttached}
use Rattle.client_tables.proofs.attached_opens.Changed.{fits_set, shown_set}
use Rattle.client_steps.specs.submits_on_opens.Keeping.{SubmitKeeps}
use Rattle.client_steps.specs.submitting.Marked.{FitsMarks, IsMarkBounded, IsMarkedAt, ShowsMarks}
use Rattle.client_steps.proofs.submitting.Grown.{Pair, fits_grown, known_grown, shown_grown}
use Rattle.client_steps.proofs.submitting.Marks.{Reads, keeps_grown, marked_grown, reads_set}

ways : (x y : ℕ) → (x ≡ y) ⊎ (x ≡ y → ⊥)
ways x y = grind arith

-- the open of a create, by its row
module _ (rows : List Row) (attached : List Attached) (create at : ℕ) (own after : Attached) (p : 0 < create) (l : create < length rows)
    (q : at ≡ (row_at rows create).«open») (is : IsChoiceAt attached at own) (f : FitsOpens rows attached)
    (same_session : after.session ≡ own.session) (same_slots : after.slots.items ≡ own.slots.items)
    (roomy : IsRoomy (locks_on rows at) own.locks (vec_capacity own.slots)
    → IsRoomy (locks_on rows at) after.locks (vec_capacity after.slots)) where
  pub inside : at < length attached
  inside = subst (λ x. x < length attached) (sym q) (f.opens create p l)

  pub fits_like : FitsOpens rows (set attached at after)
  fits_like =
      fits_set attached at after inside rows f
      (roomy (f.room at own inside is))
      (subst (λ (xs : List Slot). length xs ≤ 64) (sym same_slots) (f.bounded at own inside is).0)
      (subst (λ (xs : List Slot). HaveUsers rows xs) (sym same_slots) (f.users at own inside is))

  here : IsChoiceAt attached (row_at rows create).«open» own
  here = subst (λ x. IsChoiceAt attached x own) q is

  pub shown_like : (c : Client) → owner rows create < length rows → ShowsAttached rows attached c
      → ShowsAttached rows (set attached at after) c
  shown_like c o s =
      shown_set attached at after inside rows create c.attached c.attached c.slot_user c.slot_user c.retried c.retried c.full c.full p l
      f.paired o (sym q)
      (record {
        session_is = λ y e. refl;
        user_is = λ y e i. refl;
        retried_is = λ y e i. refl;
        full_is = λ y e i. refl;
      })
      (s.session_is create own p l here ∙ sym same_session)
      (subst (λ (xs : List Slot). HasSlots xs (c.slot_user (owner rows create)) (c.retried (owner rows create))
      (c.full (owner rows create))) (sym same_slots) (s.slots_are create own p l here)) s

-- ---- one row more

module _ (rows : List Row) (r : Row) (attached : List Attached) (create at : ℕ) (p : 0 < create) (l : create < length rows)
    (q : at ≡ (row_at rows create).«open») (home : owner rows create ≡ create) (c_is : r.create ≡ create) (o_is : r.«open» ≡ at)
    (f : FitsOpens rows attached) where
  pub pair : (g : ℕ) → 0 < g → g < length rows → Pair r (row_at rows g)
  pair g a b =
      let w = f.paired create g p l a b in (
        λ e. o_is ∙ q ∙ w.0 (home ∙ sym c_is ∙ e),
        λ e. c_is ∙ sym home ∙ w.1 (sym q ∙ sym o_is ∙ e),
      )

  placed : r.«open» < length attached
  placed = subst (λ x. x < length attached) (sym (o_is ∙ q)) (f.opens create p l)

  at_create : (o : Attached) → IsChoiceAt attached r.«open» o → IsChoiceAt attached (row_at rows create).«open» o
  at_create o h = subst (λ x. IsChoiceAt attached x o) (o_is ∙ q) h

  pub fits_more : ((o : Attached) → r.kind ≡ kinds.Lock → IsChoiceAt attached r.«open» o
      → IsRoomy (locks_on rows r.«open» + 1) o.locks (vec_capacity o.slots))
      → FitsOpens (rows ++ r ∷ []) attached
  fits_more room = fits_grown rows r attached placed pair room f

  pub shown_more : (c : Client) → ShowsAttached rows attached c → ShowsAttached (rows ++ r ∷ []) attached c
  shown_more c s =
      shown_grown rows r attached c.attached c.slot_user c.retried c.full
      (λ o h. (
        ap (λ x. c.attached x) (c_is ∙ sym home) ∙ s.session_is create o p l (at_create o h),
        subst (λ x. HasSlots o.slots.items (c.slot_user x) (c.retried x) (c.full x)) (home ∙ sym c_is)
            (s.slots_are create o p l (at_create o h)),
      )) s

  apart : r.create ≡ length rows → ⊥
  apart e = less create (length rows) l (sym c_is ∙ e)
    where
      less : (x n : ℕ) → x < n → x ≡ n → ⊥
      less x n l e = omega arith

  pub known_more : (opened : List Opened) (c : Client) (op : Op) → ((g : ℕ) → 0 < g → g < length rows → owner rows g < length rows)
      → ShowsOpened rows opened c → ShowsOpened (rows ++ r ∷ []) opened (take_op c (length rows) op)
  known_more opened c op owned s =
      known_grown rows r opened c.op op c.file c.closed_ok c.sent c.slot_of owned
      (λ o h. (
        ap (λ x. c.file x) (c_is ∙ sym home) ∙ s.file_is create o p l (there o h),
        ap (λ x. c.closed_ok x) (c_is ∙ sym home) ∙ s.closed_is create o p l (there o h),
        ap (λ y. persists y) (put_off c.op (length rows) op r.create apart) ∙ ap (λ x. persists (c.op x)) (c_is ∙ sym home)
            ∙ s.persists_is create o p l (there o h),
      )) s
    where
      there : (o : Opened) → IsKnownAt opened r.«open» o → IsKnownAt opened (row_at rows create).«open» o
      there o h = subst (λ x. IsKnownAt opened x o) (o_is ∙ q) h

  module _ (marks : List Open) (mark : Open) (m : FitsMarks rows marks) where
    spot : at < length marks
    spot = subst (λ x. x < length marks) (sym q) (m.opens create p l)

    counted : length (set marks at mark) ≡ length marks
    counted = length-set marks at mark

    reads : Reads marks (set marks at mark) r.«open» mark
    reads = subst (λ x. Reads marks (set marks at mark) x mark) (sym o_is) (reads_set marks at mark spot)

    stands_in : r.«open» < length (set marks at mark)
    stands_in = subst (λ x. x < length (set marks at mark)) (sym o_is) (subst (λ n. at < n) (sym counted) spot)

    all_in : (g : ℕ) → 0 < g → g < length rows → (row_at rows g).«open» < length (set marks at mark)
    all_in g a b = subst (λ n. (row_at rows g).«open» < n) (sym counted) (m.opens g a b)

    pub marks_fit : IsMarkBounded mark (length rows + 1) → mark.marks.last ≡ length rows → FitsMarks (rows ++ r ∷ []) (set marks at mark)
    marks_fit below last = marked_grown rows r marks (set marks at mark) mark reads stands_in pair all_in below last m

    pub marks_show : (c : Client) (op : Op) → SubmitKeeps (rows ++ r ∷ []) (length rows + 1) (put c.op (length rows) op) create mark
        → ((other : ℕ) (z : Open) → (create ≡ other → ⊥) → SubmitKeeps rows (length rows) c.op other z
        → SubmitKeeps (rows ++ r ∷ []) (length rows + 1) (put c.op (length rows) op) other z)
        → ShowsMarks rows marks c.op → ShowsMarks (rows ++ r ∷ []) (set marks at mark) (put c.op (length rows) op)
    marks_show c op own others s =
        keeps_grown rows r marks (set marks at mark) mark reads stands_in pair c.op op all_in
        (subst (λ x. SubmitKeeps (rows ++ r ∷ []) (length rows + 1) (put c.op (length rows) op) x mark) (sym c_is) own)
        (λ other z e k. others other z (λ h. e (c_is ∙ h)) k) s

-- creates stay on their own opens behind an operation that is none
before_last : (g n m : ℕ) → g < m → m ≡ n + 1 → (g ≡ n → ⊥) → g < n
before_last g n m l e q = omega arith

pub homes_more : (rows : List Row) (r : Row) → (r.kind ≡ kinds.Create → ⊥)
    → ((g : ℕ) → 0 < g → g < length rows → kind rows g ≡ kinds.Create → owner rows g ≡ g)
    → (g : ℕ) → 0 < g → g < length (rows ++ r ∷ []) → kind (rows ++ r ∷ []) g ≡ kinds.Create → owner (rows ++ r ∷ []) g ≡ g
homes_more rows r plain homes g p l k =
    elim (ways g (length rows)) as (λ _. owner (rows ++ r ∷ []) g ≡ g) [
      | inl e ↦ absurd (plain (sym (ap (λ x. kind (rows ++ r ∷ []) x) e ∙ ap (λ (w : Row). w.kind) (at_new rows r)) ∙ k))
      | inr e ↦ ap (λ (w : Row). w.create) (at_old rows r g e)
          ∙ homes g p (before_last g (length rows) (length (rows ++ r ∷ [])) l (length_push rows r) e)
          (sym (ap (λ (w : Row). w.kind) (at_old rows r g e)) ∙ k)
    ]

-- ---- where memory ran out, an open's marks may be written anew, and keep what they kept

module _ (rows : List Row) (marks : List Open) (create at : ℕ) (mark after : Open) (p : 0 < create) (l : create < length rows)
    (q : at ≡ (row_at rows create).«open») (is : IsMarkedAt marks at mark) (m : FitsMarks rows marks) where
  spot2 : at < length marks
  spot2 = subst (λ x. x < length marks) (sym q) (m.opens create p l)

  pub marks_stay : IsMarkBounded after (length rows) → after.marks ≡ mark.marks → FitsMarks rows (set marks at after)
  marks_stay e same =
      record {
        opens = λ g a b. subst (λ n. (row_at rows g).«open» < n) (sym (length-set marks at after)) (m.opens g a b);
        below = λ g z a b h. elim (reads_set marks at after spot2 (row_at rows g).«open» z
            (subst (λ n. (row_at rows g).«open» < n) (sym (length-set marks at after)) (m.opens g a b)) h)
            as (λ _. IsMarkBounded z (length rows)) [
              | inl w ↦ subst (λ (y : Open). IsMarkBounded y (length rows)) (sym w.1) e
              | inr w ↦ m.below g z a b w.1
            ];
        lasts = λ g z a b h. elim (reads_set marks at after spot2 (row_at rows g).«open» z
            (subst (λ n. (row_at rows g).«open» < n) (sym (length-set marks at after)) (m.opens g a b)) h)
            as (λ _. IsHighest (owner rows) (λ x. true) (owner rows g) (length rows) z.marks.last) [
              | inl w ↦ subst (λ (y : Open). IsHighest (owner rows) (λ x. true) (owner rows g) (length rows) y.marks.last) (sym w.1)
                  (subst (λ (y : Marks). IsHighest (owner rows) (λ x. true) (owner rows g) (length rows) y.last) (sym same)
                  (m.lasts g mark a b (subst (λ x. IsMarkedAt marks x mark) (sym w.0) is)))
              | inr w ↦ m.lasts g z a b w.1
            ];
      }

  pub keeps_stay : (c : Client) → ((g : ℕ) → 0 < g → g < length rows → (row_at rows g).«open» ≡ at → owner rows g ≡ create)
      → (SubmitKeeps rows (length rows) c.op create mark → SubmitKeeps rows (length rows) c.op create after)
      → ShowsMarks rows marks c.op → ShowsMarks rows (set marks at after) c.op
  keeps_stay c own stays s = λ g z a b h.
      elim (reads_set marks at after spot2 (row_at rows g).«open» z
      (subst (λ n. (row_at rows g).«open» < n) (sym (length-set marks at after)) (m.opens g a b)) h)
      as (λ _. SubmitKeeps rows (length rows) c.op (owner rows g) z) [
        | inl w ↦ (
            let o = own g a b w.0 in
            subst (λ (y : Open). SubmitKeeps rows (length rows) c.op (owner rows g) y) (sym w.1)
            (subst (λ x. SubmitKeeps rows (length rows) c.op x after) (sym o)
            (stays (subst (λ x. SubmitKeeps rows (length rows) c.op x mark) o
            (s g mark a b (subst (λ x. IsMarkedAt marks x mark) (sym w.0) is)))))
            )
        | inr w ↦ s g z a b w.1
      ]
