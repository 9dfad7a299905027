-- One row more: what holds of each row and of the new one holds of all.
use Rattle.std.proofs.Common.{◌≡◌, ℕ, ◌+◌, ◌<◌, ◌≤◌, ◌==◌, ◌&&◌, Bool, true, false, List, [], ◌∷◌, ◌++◌, length, Option, vec_capacity}
use Rattle.std.proofs.Common.{refl, ap, sym, ◌∙◌, subst, arith, ◌⊎◌, inl, inr}
use Rattle.std.proofs.lemmas.List.{length_push}
use Rattle.spec_exchange.specs.Table.{put}
use Rattle.spec_exchange.specs.Operations.{Op, persists}
use Rattle.law_client.proofs.table.Chosen.{and_left, and_right}
use Rattle.client_values.specs.declared.operations.shapes.Kind.TheVariants as kinds
use Rattle.client_rows.specs.declared.operation_rows.row.Row.{Row}
use Rattle.client_rows.specs.operation_rows.Rows.{row_at, owner}
use Rattle.client_rows.specs.operation_rows.Slots.{slot_at}
use Rattle.client_rows.proofs.operation_rows.Adding.{at_new, at_old}
use Rattle.client_rows.proofs.operation_rows.Walking.{put_off}
use Rattle.client_rows.specs.open_marks.Marks.{is_lock_kind}
use Rattle.client_tables.specs.declared.choice.finding.Attached.{Attached}
use Rattle.client_tables.specs.choice.Shown.{IsChoiceAt}
use Rattle.client_tables.specs.declared.attached_opens.opened.Opened.{Opened}
use Rattle.client_tables.specs.attached_opens.Known.{IsKnownAt, ShowsKnown}
use Rattle.client_tables.specs.attached_opens.Locks.{locks_on}
use Rattle.client_tables.specs.attached_opens.Opens.{FitsOpens, HasSlots, HaveRoom, IsRoomy, ShowsSlotsOf}
use Rattle.client_tables.proofs.attached_opens.Locks.{lock_is, locks_grown, locks_same}
use Rattle.client_tables.proofs.attached_opens.Roomy.{roomy_less}

ways : (x y : ℕ) → (x ≡ y) ⊎ (x ≡ y → ⊥)
ways x y = grind arith

before_last : (g n m : ℕ) → g < m → m ≡ n + 1 → (g ≡ n → ⊥) → g < n
before_last g n m l e q = omega arith

higher : (x n m : ℕ) → x < n → m ≡ n + 1 → x < m
higher x n m l e = omega arith

least : (x : ℕ) → x ≤ x
least x = omega arith

is_same : (x y : ℕ) → (x == y) ≡ true → x ≡ y
is_same x y e = grind arith

fewer : (x n m : ℕ) → m ≤ x → m ≡ n + 1 → n ≤ x
fewer x n m l e = omega arith

-- one open for one create
abbrev pub Pair : Row → Row → Type 0
Pair w v = (w.create ≡ v.create → w.«open» ≡ v.«open») × (w.«open» ≡ v.«open» → w.create ≡ v.create)

turned : (w v : Row) → Pair w v → Pair v w
turned w v p = (λ e. sym (p.0 (sym e)), λ e. sym (p.1 (sym e)))

module _ (rows : List Row) (r : Row) where
  abbrev pub grown : List Row
  grown = rows ++ r ∷ []

  pub grown_count : length grown ≡ length rows + 1
  grown_count = length_push rows r

  pub all_grown : (P : Row → Type 0) → P r → ((g : ℕ) → 0 < g → g < length rows → P (row_at rows g))
      → (g : ℕ) → 0 < g → g < length grown → P (row_at grown g)
  all_grown P new old g p l =
      elim (ways g (length rows)) as (λ _. P (row_at grown g)) [
        | inl e ↦ subst (λ (w : Row). P w) (sym (ap (λ x. row_at grown x) e ∙ at_new rows r)) new
        | inr e ↦ subst (λ (w : Row). P w) (sym (at_old rows r g e)) (old g p (before_last g (length rows) (length grown) l grown_count e))
      ]

  room_grown : (attached : List Attached)
      → ((o : Attached) → r.kind ≡ kinds.Lock → IsChoiceAt attached r.«open» o → IsRoomy (locks_on rows r.«open» + 1)
      o.locks (vec_capacity o.slots))
      → HaveRoom rows attached → (i : ℕ) (o : Attached) → i < length attached → IsChoiceAt attached i o
      → IsRoomy (locks_on grown i) o.locks (vec_capacity o.slots)
  room_grown attached room old i o l q = by_test (is_lock_kind r.kind && (r.«open» == i)) refl
    where
      by_test : (b : Bool) → (is_lock_kind r.kind && (r.«open» == i)) ≡ b → IsRoomy (locks_on grown i) o.locks (vec_capacity o.slots)
      by_test true e =
          let at : r.«open» ≡ i = is_same r.«open» i (and_right (is_lock_kind r.kind) (r.«open» == i) e) in
          roomy_less (locks_on rows i + 1) (locks_on grown i) o.locks (vec_capacity o.slots) (vec_capacity o.slots) (locks_grown rows r i e)
          (least (vec_capacity o.slots))
          (subst (λ x. IsRoomy (locks_on rows x + 1) o.locks (vec_capacity o.slots)) at
          (room o (lock_is r.kind (and_left (is_lock_kind r.kind) (r.«open» == i) e)) (subst (λ x. IsChoiceAt attached x o) (sym at) q)))
      by_test false e = subst (λ n. IsRoomy n o.locks (vec_capacity o.slots)) (sym (locks_same rows r i e)) (old i o l q)

  pub fits_grown : (attached : List Attached) → r.«open» < length attached
      → ((g : ℕ) → 0 < g → g < length rows → Pair r (row_at rows g))
      → ((o : Attached) → r.kind ≡ kinds.Lock → IsChoiceAt attached r.«open» o → IsRoomy (locks_on rows r.«open» + 1)
      o.locks (vec_capacity o.slots))
      → FitsOpens rows attached → FitsOpens grown attached
  fits_grown attached inside pair room f =
      record {
        opens = λ g p l. all_grown (λ w. w.«open» < length attached) inside f.opens g p l;
        paired = λ g h p l q k. all_grown (λ w. Pair w (row_at grown h))
            (all_grown (λ v. Pair r v) (λ e. refl, λ e. refl) pair h q k)
            (λ x a b. all_grown (λ v. Pair (row_at rows x) v) (turned r (row_at rows x) (pair x a b))
            (λ y c d. f.paired x y a b c d) h q k) g p l;
        room = room_grown attached room f.room;
        bounded = λ i o l q. (
          (f.bounded i o l q).0,
          λ place k. higher (slot_at o.slots.items place).user (length rows) (length grown) ((f.bounded i o l q).1 place k) grown_count,
        );
        users = λ i o l q place k. (
          (f.users i o l q place k).0,
          higher (slot_at o.slots.items place).user (length rows) (length grown) (f.users i o l q place k).1 grown_count,
        );
      }

  pub shown_grown : (attached : List Attached) (session : ℕ → ℕ) (user : ℕ → ℕ → Option ℕ) (retried : ℕ → ℕ → ℕ) (full : ℕ → ℕ → Bool)
      → ((o : Attached) → IsChoiceAt attached r.«open» o → (session r.create ≡ o.session)
      × HasSlots o.slots.items (user r.create) (retried r.create) (full r.create))
      → ShowsSlotsOf rows attached session user retried full → ShowsSlotsOf grown attached session user retried full
  shown_grown attached session user retried full new s =
      record {
        session_is = λ g o p l q. all_grown (λ w. (z : Attached) → IsChoiceAt attached w.«open» z → session w.create ≡ z.session)
            (λ z h. (new z h).0) (λ x a b z h. s.session_is x z a b h) g p l o q;
        slots_are = λ g o p l q. all_grown (λ w. (z : Attached) → IsChoiceAt attached w.«open» z
            → HasSlots z.slots.items (user w.create) (retried w.create) (full w.create))
            (λ z h. (new z h).1) (λ x a b z h. s.slots_are x z a b h) g p l o q;
        session_none = λ x l. s.session_none x (fewer x (length rows) (length grown) l grown_count);
        slots_none = λ x i l. s.slots_none x i (fewer x (length rows) (length grown) l grown_count);
      }

  apart : (x n : ℕ) → x < n → x ≡ n → ⊥
  apart x n l e = omega arith

  -- of creates below, what they ask stays
  pub known_grown : (opened : List Opened) (op : ℕ → Op) (new_op : Op) (file : ℕ → ℕ) (closed sent : ℕ → Bool) (slot : ℕ → ℕ)
      → ((g : ℕ) → 0 < g → g < length rows → owner rows g < length rows)
      → ((o : Opened) → IsKnownAt opened r.«open» o → (file r.create ≡ o.file) × (closed r.create ≡ o.shut)
      × (persists (put op (length rows) new_op r.create) ≡ o.persist))
      → ShowsKnown rows opened op file closed sent slot → ShowsKnown grown opened (put op (length rows) new_op) file closed sent slot
  known_grown opened op new_op file closed sent slot owned new s =
      record {
        file_is = λ g o p l q. all_grown (λ w. (z : Opened) → IsKnownAt opened w.«open» z → file w.create ≡ z.file)
            (λ z h. (new z h).0) (λ x a b z h. s.file_is x z a b h) g p l o q;
        closed_is = λ g o p l q. all_grown (λ w. (z : Opened) → IsKnownAt opened w.«open» z → closed w.create ≡ z.shut)
            (λ z h. (new z h).1) (λ x a b z h. s.closed_is x z a b h) g p l o q;
        persists_is = λ g o p l q. all_grown (λ w. (z : Opened) → IsKnownAt opened w.«open» z
            → persists (put op (length rows) new_op w.create) ≡ z.persist)
            (λ z h. (new z h).2)
            (λ x a b z h. ap (λ y. persists y) (put_off op (length rows) new_op (owner rows x)
            (apart (owner rows x) (length rows) (owned x a b)))
            ∙ s.persists_is x z a b h) g p l o q;
        file_none = λ x l. s.file_none x (fewer x (length rows) (length grown) l grown_count);
        closed_none = λ x l. s.closed_none x (fewer x (length rows) (length grown) l grown_count);
        unsent = s.unsent;
      }
