-- What an open keeps behind one operation more, of its own and of another open; and of an open that has none yet.
use Rattle.std.proofs.Common.{◌≡◌, ℕ, ◌+◌, ◌<◌, ◌≤◌, max, Bool, true, false, List, refl, ap, sym, arith, subst, ◌⊎◌, inl, inr}
use Rattle.client_values.specs.declared.operations.shapes.Kind.{Kind}
use Rattle.client_values.specs.declared.operations.shapes.Kind.TheVariants as kinds
use Rattle.client_values.specs.operations.Waiting.{is_close_kind}
use Rattle.client_rows.specs.declared.operation_rows.row.Row.{Row}
use Rattle.client_rows.specs.operation_rows.Rows.{stands, owner, kind}
use Rattle.client_rows.specs.operation_rows.Holding.{is_holding_changing}
use Rattle.base_lists.specs.range_index.Tops.{Covers}
use Rattle.client_rows.specs.declared.open_marks.marks.Marks.{Marks}
use Rattle.client_rows.specs.open_marks.Marks.{Heights, IsHighest, IsMarkIndexed, fills_by_shape, is_barrier}
use Rattle.client_rows.specs.open_marks.Marks.{is_mark_end, is_lock_kind, is_mark_write}
use Rattle.client_rows.proofs.open_marks.Covered.{at_most}
use Rattle.client_rows.proofs.open_marks.Indexed.{indexed_cleared, indexed_less, indexed_more}
use Rattle.client_rows.proofs.open_marks.Raised.{highest_other}
use Rattle.client_tables.specs.opens.Opened.{OpenBehind, ShowsOpen, OpenStays}
use Rattle.client_tables.proofs.opens.Columns.{Below, heights_same, indexed_same, indexed_told, indexed_wider}

below_or_not : (i n : ℕ) → (i < n) ⊎ (n ≤ i)
below_or_not i n = grind arith

-- the first n rows are as they were
pub record Grows (rows two : List Row) (at at2 size size2 : ℕ → ℕ) (n : ℕ) : Type 0 where
  pub owners : Below (owner rows) (owner two) n
  pub kinds : Below (kind rows) (kind two) n
  pub standing : Below (stands rows) (stands two) n
  pub ats : Below at at2 n
  pub sizes : Below size size2 n

pub open_same : (rows two : List Row) (at at2 size size2 : ℕ → ℕ) (create n : ℕ) (m : Marks) (written locked : ℕ → ℕ)
    → Grows rows two at at2 size size2 n → ShowsOpen rows at size create n m written locked
    → ShowsOpen two at2 size2 create n m written locked
open_same rows two at at2 size size2 create n m written locked g s =
    record {
      heights = heights_same (owner rows) (owner two) (kind rows) (kind two) size size2 create n m g.owners g.kinds g.sizes s.heights;
      writes = indexed_same (owner rows) (owner two) (λ x. is_mark_write (kind rows x)) (λ x. is_mark_write (kind two x)) at at2 size size2
          (stands rows) (stands two) create n (max m.end m.close) written g.owners (λ x l. ap (λ z. is_mark_write z) (g.kinds x l)) g.ats
          g.sizes g.standing s.writes;
      locks = indexed_same (owner rows) (owner two) (λ x. is_lock_kind (kind rows x)) (λ x. is_lock_kind (kind two x)) at at2 size size2
          (stands rows) (stands two) create n m.close locked g.owners (λ x l. ap (λ z. is_lock_kind z) (g.kinds x l)) g.ats
          g.sizes g.standing s.locks;
    }

module _ (two : List Row) (at size : ℕ → ℕ) (create n : ℕ) (m : Marks) (written locked : ℕ → ℕ)
    (s : ShowsOpen two at size create n m written locked) where
  -- one more of another open
  pub open_other : (owner two n ≡ create → ⊥) → ShowsOpen two at size create (n + 1) m written locked
  open_other e =
      let o = owner two in
      let h = s.heights in
      record {
        heights = record {
          lasts = highest_other o (λ x. true) create n m.last h.lasts e;
          changes = highest_other o (λ x. is_holding_changing (kind two x)) create n m.change h.changes e;
          fills = highest_other o (λ x. fills_by_shape (kind two) size x) create n m.filled h.fills e;
          closes = highest_other o (λ x. is_close_kind (kind two x)) create n m.close h.closes e;
          ends = highest_other o (λ x. is_mark_end (kind two x)) create n m.end h.ends e;
          barriers = highest_other o (λ x. is_barrier (kind two x)) create n m.barrier h.barriers e;
        };
        writes = indexed_less o (λ x. is_mark_write (kind two x)) at size (stands two) create n (max m.end m.close) written
            (λ q. absurd (e q)) s.writes;
        locks = indexed_less o (λ x. is_lock_kind (kind two x)) at size (stands two) create n m.close locked (λ q. absurd (e q)) s.locks;
      }

  module _ (own : owner two n ≡ create) (m2 : Marks) (h2 : Heights (owner two) (kind two) size create (n + 1) m2) where
    -- a mark of those that there were is at most the mark behind one more
    rises : (such : ℕ → Bool) (a b : ℕ) → IsHighest (owner two) such create n a → IsHighest (owner two) such create (n + 1) b → a ≤ b
    rises such a b i j =
        elim (below_or_not 0 a) as (λ _. a ≤ b) [
          | inl p ↦ at_most (owner two) such create (n + 1) b a j (let l = i.below p in omega arith) (i.own p) (i.is p)
          | inr p ↦ omega arith
        ]

    ends_rise : m.end ≤ m2.end
    ends_rise = rises (λ x. is_mark_end (kind two x)) m.end m2.end s.heights.ends h2.ends

    closes_rise : m.close ≤ m2.close
    closes_rise = rises (λ x. is_close_kind (kind two x)) m.close m2.close s.heights.closes h2.closes

    clear_rises : max m.end m.close ≤ max m2.end m2.close
    clear_rises = larger m.end m.close m2.end m2.close ends_rise closes_rise
      where
        larger : (a b c d : ℕ) → a ≤ c → b ≤ d → max a b ≤ max c d
        larger a b c d p q = grind arith

    end_is : is_mark_end (kind two n) ≡ true → n + 1 ≤ max m2.end m2.close + 1
    end_is e = reached m2.end m2.close (at_most (owner two) (λ x. is_mark_end (kind two x)) create (n + 1) m2.end n
        h2.ends (omega arith) own e)
      where
        reached : (a b : ℕ) → n ≤ a → n + 1 ≤ max a b + 1
        reached a b p = grind arith

    close_at : is_close_kind (kind two n) ≡ true → n ≤ m2.close
    close_at e = at_most (owner two) (λ x. is_close_kind (kind two x)) create (n + 1) m2.close n h2.closes (omega arith) own e

    close_is : is_close_kind (kind two n) ≡ true → n + 1 ≤ max m2.end m2.close + 1
    close_is e = reached m2.end m2.close (close_at e)
      where
        reached : (a b : ℕ) → n ≤ b → n + 1 ≤ max a b + 1
        reached a b p = grind arith

    abbrev Writes : (ℕ → ℕ) → Type 0
    Writes w = IsMarkIndexed (owner two) (λ x. is_mark_write (kind two x)) at size (stands two) create (n + 1) (max m2.end m2.close) w

    abbrev Locks : (ℕ → ℕ) → Type 0
    Locks l = IsMarkIndexed (owner two) (λ x. is_lock_kind (kind two x)) at size (stands two) create (n + 1) m2.close l

    -- one that is no write leaves the table of writes
    other_write : (w : ℕ → ℕ) → is_mark_write (kind two n) ≡ false → OpenStays written w → Writes w
    other_write w e k = indexed_told (owner two) (λ x. is_mark_write (kind two x)) at size (stands two) create (n + 1) (max m2.end m2.close)
        written w k (indexed_wider (owner two) (λ x. is_mark_write (kind two x)) at size (stands two) create (n + 1) (max m.end m.close)
        (max m2.end m2.close) written clear_rises
        (indexed_less (owner two) (λ x. is_mark_write (kind two x)) at size (stands two) create n (max m.end m.close)
        written (λ q. e) s.writes))

    other_lock : (l : ℕ → ℕ) → is_lock_kind (kind two n) ≡ false → OpenStays locked l → Locks l
    other_lock l e k = indexed_told (owner two) (λ x. is_lock_kind (kind two x)) at size (stands two) create (n + 1) m2.close locked l k
        (indexed_wider (owner two) (λ x. is_lock_kind (kind two x)) at size (stands two) create (n + 1) m.close m2.close locked closes_rise
        (indexed_less (owner two) (λ x. is_lock_kind (kind two x)) at size (stands two) create n m.close locked (λ q. e) s.locks))

    a_write : (w : ℕ → ℕ) → is_mark_write (kind two n) ≡ true → Covers written w (at n) (size n) n → Writes w
    a_write w e c = indexed_wider (owner two) (λ x. is_mark_write (kind two x)) at size (stands two) create (n + 1) (max m.end m.close)
        (max m2.end m2.close) w clear_rises
        (indexed_more (owner two) (λ x. is_mark_write (kind two x)) at size (stands two) create n (max m.end m.close)
        written w own e c s.writes)

    a_lock : (l : ℕ → ℕ) → is_lock_kind (kind two n) ≡ true → Covers locked l (at n) (size n) n → Locks l
    a_lock l e c = indexed_wider (owner two) (λ x. is_lock_kind (kind two x)) at size (stands two) create (n + 1) m.close m2.close l
        closes_rise
        (indexed_more (owner two) (λ x. is_lock_kind (kind two x)) at size (stands two) create n m.close locked l own e c s.locks)

    cleared_writes : (w : ℕ → ℕ) → n + 1 ≤ max m2.end m2.close + 1 → ((x : ℕ) → w x ≡ 0) → Writes w
    cleared_writes w l z = indexed_cleared (owner two) (λ x. is_mark_write (kind two x)) at size (stands two) create (n + 1) 0 written w
        (max m2.end m2.close) l z

    cleared_locks : (l : ℕ → ℕ) → n + 1 ≤ m2.close + 1 → ((x : ℕ) → l x ≡ 0) → Locks l
    cleared_locks l k z = indexed_cleared (owner two) (λ x. is_lock_kind (kind two x)) at size (stands two) create (n + 1) 0 locked l
        m2.close k z

    both_by : (b : Kind) (w l : ℕ → ℕ) → kind two n ≡ b → OpenBehind b written w locked l (at n) (size n) n → Writes w × Locks l
    both_by kinds.Create w l e k = (other_write w (ap (λ z. is_mark_write z) e) k.0, other_lock l (ap (λ z. is_lock_kind z) e) k.1)
    both_by kinds.Write w l e k = (a_write w (ap (λ z. is_mark_write z) e) k.0, other_lock l (ap (λ z. is_lock_kind z) e) k.1)
    both_by kinds.Read w l e k = (other_write w (ap (λ z. is_mark_write z) e) k.0, other_lock l (ap (λ z. is_lock_kind z) e) k.1)
    both_by kinds.End w l e k = (cleared_writes w (end_is (ap (λ z. is_mark_end z) e)) k.0, other_lock l (ap (λ z. is_lock_kind z) e) k.1)
    both_by kinds.Change w l e k = (other_write w (ap (λ z. is_mark_write z) e) k.0, other_lock l (ap (λ z. is_lock_kind z) e) k.1)
    both_by kinds.Lock w l e k = (other_write w (ap (λ z. is_mark_write z) e) k.0, a_lock l (ap (λ z. is_lock_kind z) e) k.1)
    both_by kinds.Look w l e k = (other_write w (ap (λ z. is_mark_write z) e) k.0, other_lock l (ap (λ z. is_lock_kind z) e) k.1)
    both_by kinds.List w l e k = (other_write w (ap (λ z. is_mark_write z) e) k.0, other_lock l (ap (λ z. is_lock_kind z) e) k.1)
    both_by kinds.Close w l e k = (
      cleared_writes w (close_is (ap (λ z. is_close_kind z) e)) k.0,
      cleared_locks l (let q = close_at (ap (λ z. is_close_kind z) e) in omega arith) k.1,
    )

    -- one more of this open
    pub open_more : (w l : ℕ → ℕ) → OpenBehind (kind two n) written w locked l (at n) (size n) n
        → ShowsOpen two at size create (n + 1) m2 w l
    open_more w l k =
        let b = both_by (kind two n) w l refl k in record { heights = h2; writes = b.0; locks = b.1 }

-- ---- an open that has no operations yet

none_highest : (o : ℕ → ℕ) (such : ℕ → Bool) (create n : ℕ) → ((h : ℕ) → h < n → o h ≡ create → ⊥) → IsHighest o such create n 0
none_highest o such create n e =
    record {
      below = λ p. absurd (omega arith);
      own = λ p. absurd (omega arith);
      is = λ p. absurd (omega arith);
      none = λ h a b c. absurd (e h b c);
    }

none_indexed : (o : ℕ → ℕ) (such : ℕ → Bool) (at size : ℕ → ℕ) (u : ℕ → Bool) (create n clear : ℕ) (top : ℕ → ℕ)
    → ((h : ℕ) → h < n → o h ≡ create → ⊥) → ((x : ℕ) → top x ≡ 0) → IsMarkIndexed o such at size u create n clear top
none_indexed o such at size u create n clear top e z =
    record {
      below = λ x f p. absurd (let q = z x in omega arith);
      own = λ x f p. absurd (let q = z x in omega arith);
      is = λ x f p. absurd (let q = z x in omega arith);
      has = λ x f p. absurd (let q = z x in omega arith);
      kept = λ h x f d l a s w b. absurd (e h l a);
    }

pub fresh_open : (rows : List Row) (at size : ℕ → ℕ) (create n : ℕ) (m : Marks) (written locked : ℕ → ℕ)
    → ((h : ℕ) → h < n → owner rows h ≡ create → ⊥) → m ≡ record { last = 0; change = 0; filled = 0; close = 0; end = 0; barrier = 0 }
    → ((x : ℕ) → written x ≡ 0) → ((x : ℕ) → locked x ≡ 0) → ShowsOpen rows at size create n m written locked
fresh_open rows at size create n m written locked e q w l =
    subst (λ (z : Marks). ShowsOpen rows at size create n z written locked) (sym q) (record {
      heights = record {
        lasts = none_highest (owner rows) (λ x. true) create n e;
        changes = none_highest (owner rows) (λ x. is_holding_changing (kind rows x)) create n e;
        fills = none_highest (owner rows) (λ x. fills_by_shape (kind rows) size x) create n e;
        closes = none_highest (owner rows) (λ x. is_close_kind (kind rows x)) create n e;
        ends = none_highest (owner rows) (λ x. is_mark_end (kind rows x)) create n e;
        barriers = none_highest (owner rows) (λ x. is_barrier (kind rows x)) create n e;
      };
      writes = none_indexed (owner rows) (λ x. is_mark_write (kind rows x)) at size (stands rows) create n 0 written e w;
      locks = none_indexed (owner rows) (λ x. is_lock_kind (kind rows x)) at size (stands rows) create n 0 locked e l;
    })
