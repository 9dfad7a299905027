-- What opens keep, behind one row more.
use Rattle.std.proofs.Common.{◌≡◌, ℕ, ◌+◌, ◌<◌, true, false, List, [], ◌∷◌, ◌++◌, length, set, get_or, ap, sym, ◌∙◌}
use Rattle.std.proofs.Common.{subst, arith, ◌⊎◌, inl, inr, refl}
use Rattle.std.proofs.lemmas.List.{get_or-set_same, get_or-set_other, length_push}
use Rattle.spec_exchange.specs.Table.{put}
use Rattle.spec_exchange.specs.Operations.{Op}
use Rattle.client_rows.specs.declared.operation_rows.row.Row.{Row}
use Rattle.client_rows.specs.operation_rows.Rows.{owner, row_at}
use Rattle.client_rows.proofs.operation_rows.Adding.{at_new, at_old}
use Rattle.base_lists.specs.range_index.Shown.{top}
use Rattle.client_rows.specs.declared.open_marks.marks.Marks.{Marks}
use Rattle.client_rows.specs.open_marks.Marks.{AreMarksBelow, IsHighest}
use Rattle.client_tables.specs.declared.opens.opening.Open.{Open}
use Rattle.client_steps.specs.submits_on_opens.Keeping.{SubmitKeeps}
use Rattle.client_steps.specs.submitting.Marked.{FitsMarks, IsMarkBounded, IsMarkedAt, ShowsMarks}
use Rattle.client_steps.proofs.submitting.Grown.{Pair, all_grown, grown_count}
use Rattle.client_steps.proofs.submitting.Listed.{front_of, last_of}

ways : (x y : ℕ) → (x ≡ y) ⊎ (x ≡ y → ⊥)
ways x y = grind arith

below_more : (m : Marks) (n : ℕ) → AreMarksBelow m n → AreMarksBelow m (n + 1)
below_more m n b =
    let l = b.last in
    let c = b.change in
    let f = b.filled in
    let s = b.close in
    let e = b.end in
    let r = b.barrier in
    record { last = omega arith; change = omega arith; filled = omega arith; close = omega arith; end = omega arith; barrier = omega arith }

higher : (x n : ℕ) → x < n → x < n + 1
higher x n l = omega arith

bounded_more : (m : Open) (n : ℕ) → IsMarkBounded m n → IsMarkBounded m (n + 1)
bounded_more m n b = (
  below_more m.marks n b.0,
  λ x f. (higher (top m.written x) n (b.1 x f).0, higher (top m.locked x) n (b.1 x f).1),
)

-- a list of which one place is new reads so
abbrev pub Reads : (old new : List Open) → (at : ℕ) → Open → Type 0
Reads old new at mark = (i : ℕ) (m : Open) → i < length new → IsMarkedAt new i m
    → ((i ≡ at) × (m ≡ mark)) ⊎ ((i ≡ at → ⊥) × IsMarkedAt old i m)

pub reads_set : (marks : List Open) (at : ℕ) (mark : Open) → at < length marks → Reads marks (set marks at mark) at mark
reads_set marks at mark inside = λ i m l q.
    elim (ways i at) as (λ _. ((i ≡ at) × (m ≡ mark)) ⊎ ((i ≡ at → ⊥) × IsMarkedAt marks i m)) [
      | inl e ↦ inl (e, q ∙ ap (λ y. get_or (set marks at mark) y m) e ∙ get_or-set_same marks at mark m inside)
      | inr e ↦ inr (e, q ∙ get_or-set_other marks at i mark m e)
    ]

before_last : (g n m : ℕ) → g < m → m ≡ n + 1 → (g ≡ n → ⊥) → g < n
before_last g n m l e q = omega arith

pub reads_more : (marks : List Open) (mark : Open) → Reads marks (marks ++ mark ∷ []) (length marks) mark
reads_more marks mark = λ i m l q.
    elim (ways i (length marks)) as (λ _. ((i ≡ length marks) × (m ≡ mark)) ⊎ ((i ≡ length marks → ⊥) × IsMarkedAt marks i m)) [
      | inl e ↦ inl (e, q ∙ last_of marks mark m i e)
      | inr e ↦ inr (
        e,
        q ∙ front_of marks mark m i (before_last i (length marks) (length (marks ++ mark ∷ [])) l
            (length_push marks mark) e),
      )
    ]

-- ---- the highest of an open's operations

nothing_is : (n : ℕ) → n < n → ⊥
nothing_is n l = omega arith

between : (m h n k : ℕ) → m ≡ n → m < h → h < k → k ≡ n + 1 → ⊥
between m h n k e l q c = omega arith

last_in : (m n k : ℕ) → m ≡ n → k ≡ n + 1 → m < k
last_in m n k e c = omega arith

up_to : (m n k : ℕ) → m < n → k ≡ n + 1 → m < k
up_to m n k l c = omega arith

module _ (rows : List Row) (r : Row) where
  pub last_new : (m : ℕ) → m ≡ length rows → IsHighest (owner (rows ++ r ∷ [])) (λ h. true) r.create (length (rows ++ r ∷ [])) m
  last_new m e =
      record {
        below = λ p. last_in m (length rows) (length (rows ++ r ∷ [])) e (grown_count rows r);
        own = λ p. ap (λ (x : ℕ). owner (rows ++ r ∷ []) x) e ∙ ap (λ (w : Row). w.create) (at_new rows r);
        is = λ p. refl;
        none = λ h l k q. absurd (between m h (length rows) (length (rows ++ r ∷ [])) e l k (grown_count rows r));
      }

  pub last_other : (create m : ℕ) → (r.create ≡ create → ⊥) → IsHighest (owner rows) (λ h. true) create (length rows) m
      → IsHighest (owner (rows ++ r ∷ [])) (λ h. true) create (length (rows ++ r ∷ [])) m
  last_other create m apart i =
      record {
        below = λ p. up_to m (length rows) (length (rows ++ r ∷ [])) (i.below p) (grown_count rows r);
        own = λ p. ap (λ (w : Row). w.create)
            (at_old rows r m (λ e. nothing_is (length rows) (subst (λ x. x < length rows) e (i.below p)))) ∙ i.own p;
        is = λ p. refl;
        none = λ h l k q. elim (ways h (length rows)) as (λ _. true ≡ false) [
          | inl e ↦ absurd (apart (sym (ap (λ (w : Row). w.create) (at_new rows r)) ∙ sym (ap (λ (x : ℕ). owner (rows ++ r ∷ []) x) e) ∙ q))
          | inr e ↦ i.none h l (before_last h (length rows) (length (rows ++ r ∷ [])) k (grown_count rows r) e)
              (sym (ap (λ (w : Row). w.create) (at_old rows r h e)) ∙ q)
        ];
      }

module _ (rows : List Row) (r : Row) (marks new : List Open) (mark : Open) (reads : Reads marks new r.«open» mark)
    (inside : r.«open» < length new) (pair : (g : ℕ) → 0 < g → g < length rows → Pair r (row_at rows g)) where
  abbrev Tops : ℕ → Open → Type 0
  Tops create z = IsHighest (owner (rows ++ r ∷ [])) (λ h. true) create (length (rows ++ r ∷ [])) z.marks.last

  pub marked_grown : ((g : ℕ) → 0 < g → g < length rows → (row_at rows g).«open» < length new) → IsMarkBounded mark (length rows + 1)
      → mark.marks.last ≡ length rows → FitsMarks rows marks → FitsMarks (rows ++ r ∷ []) new
  marked_grown opens below last f =
      record {
        opens = λ g p l. all_grown rows r (λ w. w.«open» < length new) inside opens g p l;
        below = λ g m p l q. all_grown rows r (λ w. (z : Open) → IsMarkedAt new w.«open» z → IsMarkBounded z (length (rows ++ r ∷ [])))
            (λ z h. elim (reads r.«open» z inside h) as (λ _. IsMarkBounded z (length (rows ++ r ∷ []))) [
              | inl e ↦ subst (λ (y : Open). IsMarkBounded y (length (rows ++ r ∷ []))) (sym e.1)
                  (subst (λ n. IsMarkBounded mark n) (sym (grown_count rows r)) below)
              | inr e ↦ absurd (e.0 refl)
            ])
            (λ x a b z h. elim (reads (row_at rows x).«open» z (opens x a b) h) as (λ _. IsMarkBounded z (length (rows ++ r ∷ []))) [
              | inl e ↦ subst (λ (y : Open). IsMarkBounded y (length (rows ++ r ∷ []))) (sym e.1)
                  (subst (λ n. IsMarkBounded mark n) (sym (grown_count rows r)) below)
              | inr e ↦ subst (λ n. IsMarkBounded z n) (sym (grown_count rows r)) (bounded_more z (length rows) (f.below x z a b e.1))
            ]) g p l m q;
        lasts = λ g m p l q. all_grown rows r (λ w. (z : Open) → IsMarkedAt new w.«open» z → Tops w.create z)
            (λ z h. elim (reads r.«open» z inside h) as (λ _. Tops r.create z) [
              | inl e ↦ subst (λ (y : Open). Tops r.create y) (sym e.1) (last_new rows r mark.marks.last last)
              | inr e ↦ absurd (e.0 refl)
            ])
            (λ x a b z h. elim (reads (row_at rows x).«open» z (opens x a b) h) as (λ _. Tops (row_at rows x).create z) [
              | inl e ↦ subst (λ (y : Open). Tops (row_at rows x).create y) (sym e.1)
                  (subst (λ y. Tops y mark) ((pair x a b).1 (sym e.0)) (last_new rows r mark.marks.last last))
              | inr e ↦ last_other rows r (row_at rows x).create z.marks.last (λ k. e.0 (sym ((pair x a b).0 k))) (f.lasts x z a b e.1)
            ]) g p l m q;
      }

  pub keeps_grown : (op : ℕ → Op) (new_op : Op)
      → ((g : ℕ) → 0 < g → g < length rows → (row_at rows g).«open» < length new)
      → SubmitKeeps (rows ++ r ∷ []) (length rows + 1) (put op (length rows) new_op) r.create mark
      → ((create : ℕ) (m : Open) → (r.create ≡ create → ⊥) → SubmitKeeps rows (length rows) op create m
      → SubmitKeeps (rows ++ r ∷ []) (length rows + 1) (put op (length rows) new_op) create m)
      → ShowsMarks rows marks op → ShowsMarks (rows ++ r ∷ []) new (put op (length rows) new_op)
  keeps_grown op new_op opens own others s = λ g m p l q.
      subst (λ n. SubmitKeeps (rows ++ r ∷ []) n (put op (length rows) new_op) (row_at (rows ++ r ∷ []) g).create m)
      (sym (grown_count rows r))
      (all_grown rows r (λ w. (z : Open) → IsMarkedAt new w.«open» z
      → SubmitKeeps (rows ++ r ∷ []) (length rows + 1) (put op (length rows) new_op) w.create z)
      (λ z h. elim (reads r.«open» z inside h) as (λ _. SubmitKeeps (rows ++ r ∷ []) (length rows + 1)
      (put op (length rows) new_op) r.create z) [
        | inl e ↦ subst (λ (y : Open). SubmitKeeps (rows ++ r ∷ []) (length rows + 1) (put op (length rows) new_op)
            r.create y) (sym e.1) own
        | inr e ↦ absurd (e.0 refl)
      ])
      (λ x a b z h. elim (reads (row_at rows x).«open» z (opens x a b) h)
      as (λ _. SubmitKeeps (rows ++ r ∷ []) (length rows + 1) (put op (length rows) new_op) (row_at rows x).create z) [
        | inl e ↦ subst (λ (y : Open). SubmitKeeps (rows ++ r ∷ []) (length rows + 1) (put op (length rows) new_op)
            (row_at rows x).create y)
            (sym e.1)
            (subst (λ y. SubmitKeeps (rows ++ r ∷ []) (length rows + 1) (put op (length rows) new_op) y mark)
            ((pair x a b).1 (sym e.0)) own)
        | inr e ↦ others (row_at rows x).create z (λ k. e.0 (sym ((pair x a b).0 k))) (s x z a b e.1)
      ]) g p l m q)
