-- A row whose links and list come from the marks of its open is new as rows ask.
use Rattle.std.proofs.Common.{◌≡◌, ℕ, ◌<◌, ◌≤◌, ◌^◌, ◌==◌, ◌&&◌, max, Bool, true, false, List, length, get_or, refl, ap, sym}
use Rattle.std.proofs.Common.{◌∙◌, arith, subst, ◌⊎◌, inl, inr}
use Rattle.client_values.specs.declared.operations.shapes.Kind.{Kind}
use Rattle.client_values.specs.declared.operations.shapes.Kind.TheVariants as kinds
use Rattle.client_values.specs.operations.Waiting.{shape_holds}
use Rattle.spec_exchange.specs.Content.{meets}
use Rattle.base_lists.specs.range_index.Tops.{IsTop}
use Rattle.client_rows.specs.declared.operation_rows.row.Row.{Row}
use Rattle.client_rows.specs.declared.operation_rows.chains.Chain.TheVariants as chains
use Rattle.client_rows.specs.operation_rows.Rows.{stands, owner, kind, begins, ends, links}
use Rattle.client_rows.specs.operation_rows.Holding.{IsEntry, is_holding_changing, on_chain}
use Rattle.client_rows.specs.operation_rows.Taking.{IsRowNew}
use Rattle.client_rows.specs.declared.open_marks.marks.Marks.{Marks}
use Rattle.client_rows.specs.open_marks.Marked.{IsMarked}
use Rattle.client_rows.specs.open_marks.Marks.{Heights, IsMarkIndexed, ListsHolders, fills_by_shape, holds_by_shape}
use Rattle.client_rows.specs.open_marks.Marks.{is_mark_end, is_lock_kind, is_mark_write, mark_of, top_of}
use Rattle.client_rows.proofs.open_marks.Waits.{barrier_write, close_holds, end_look, end_read, holds_create, lock_lock}
use Rattle.client_rows.proofs.open_marks.Waits.{write_read, write_write}
use Rattle.client_rows.proofs.open_marks.Covered.{by_close as close_of, change_found, end_found, list_found, lock_found, look_found}
use Rattle.client_rows.proofs.open_marks.Covered.{meets_at, read_found, write_found}
use Rattle.client_rows.proofs.open_marks.New.{both, joins, suits_new}

module _ (o : ℕ → ℕ) (k : ℕ → Kind) (at size : ℕ → ℕ) (u : ℕ → Bool) (create n : ℕ) (m : Marks) (written locked : ℕ → ℕ)
    (old holders : List ℕ) (h : Heights o k size create n m) (fits : (g : ℕ) → 0 < g → g ≤ n → at g < 2 ^ 64)
    (first : (g f : ℕ) → 0 < g → g < n → u g ≡ false → f < g → o f ≡ o g → holds_by_shape k at size f g ≡ true → u f ≡ false)
    (own : o n ≡ create)
    (writes : IsMarkIndexed o (λ g. is_mark_write (k g)) at size u create n (max m.end m.close) written)
    (locks : IsMarkIndexed o (λ g. is_lock_kind (k g)) at size u create n m.close locked) where
  abbrev Covered : Kind → ℕ → Type 0
  Covered b f = (u f ≡ false) ⊎ (IsEntry (holds_by_shape k at size) o holders (length old) (length holders) f
      ⊎ (on_chain b o k (λ x. fills_by_shape k size x) f n ≡ true))

  abbrev Found : ℕ → Type 0
  Found f = (u f ≡ false) ⊎ IsEntry (holds_by_shape k at size) o holders (length old) (length holders) f

  plain : (b : Kind) (f : ℕ) → Found f → Covered b f
  plain b f (inl e) = inl e
  plain b f (inr e) = inr (inl e)

  chained : (b : Kind) (f : ℕ) (such : Bool) → o f ≡ create
      → ((((o f) == (o n)) && such) ≡ true → on_chain b o k (λ x. fills_by_shape k size x) f n ≡ true)
      → Found f ⊎ (such ≡ true) → Covered b f
  chained b f such a w (inl e) = plain b f e
  chained b f such a w (inr e) = inr (inr (w (both (o f) (o n) such (a ∙ sym own) e)))

  covered_by : (b : Kind) → k n ≡ b
      → ListsHolders u m.close (mark_of b m) (λ x. top_of b written locked x) (at n) (size n) old holders
      → (f : ℕ) → 0 < f → f < n → o f ≡ create → holds_by_shape k at size f n ≡ true → Covered b f
  covered_by kinds.Create e t f p l a w = plain kinds.Create f (close_of o k at size u create n holders (length old) (length holders)
      first m.close h.closes t.close_told f p l a w
      (holds_create (k f) (at f) (size f) (at n) (size n) (subst (λ z. shape_holds (k f) (at f) (size f) z (at n) (size n) ≡ true) e w)))
  covered_by kinds.Write e t f p l a w = plain kinds.Write f (write_found o k at size u create n holders (length old) (length holders)
      first m.close h.closes t.close_told m.end h.ends written fits writes m.barrier e h.barriers t.mark_told t.tops_told f p l a w)
  covered_by kinds.Read e t f p l a w = plain kinds.Read f (read_found o k at size u create n holders (length old) (length holders)
      first m.close h.closes t.close_told m.end h.ends written fits writes e t.mark_told t.tops_told f p l a w)
  covered_by kinds.End e t f p l a w = chained kinds.End f (is_holding_changing (k f)) a (λ z. z) (end_found o k at size u create n holders
      (length old) (length holders) first m.close h.closes t.close_told e f p l a w)
  covered_by kinds.Change e t f p l a w = chained kinds.Change f (is_holding_changing (k f)) a (λ z. z)
      (change_found o k at size u create n holders
      (length old) (length holders) first m.close h.closes t.close_told e f p l a w)
  covered_by kinds.Lock e t f p l a w = plain kinds.Lock f (lock_found o k at size u create n holders (length old) (length holders)
      first m.close h.closes t.close_told locked e fits locks t.tops_told f p l a w)
  covered_by kinds.Look e t f p l a w = chained kinds.Look f (fills_by_shape k size f) a (λ z. z) (look_found o k at size u create n holders
      (length old) (length holders) first m.close h.closes t.close_told m.end h.ends written fits writes e t.mark_told f p l a w)
  covered_by kinds.List e t f p l a w = plain kinds.List f (list_found o k at size u create n holders (length old) (length holders)
      first m.close h.closes t.close_told e f p l a w)
  covered_by kinds.Close e t f p l a w = inr (inr (both (o f) (o n) true (a ∙ sym own) refl))

  -- ---- what is listed holds it up

  abbrev Entry : Kind → ℕ → Type 0
  Entry b l = (l < n) × (o l ≡ create) × (shape_holds (k l) (at l) (size l) b (at n) (size n) ≡ true)

  of_close : (b : Kind) (l : ℕ) → 0 < l → l ≡ m.close → Entry b l
  of_close b l p e =
      let q : 0 < m.close = subst (λ z. 0 < z) e p in
      subst (λ z. Entry b z) (sym e)
      (h.closes.below q, h.closes.own q, close_holds (k m.close) b (at m.close) (size m.close) (at n) (size n) (h.closes.is q))

  of_barrier : (l : ℕ) → 0 < l → l ≡ m.barrier → Entry kinds.Write l
  of_barrier l p e =
      let q : 0 < m.barrier = subst (λ z. 0 < z) e p in
      subst (λ z. Entry kinds.Write z) (sym e)
      (h.barriers.below q, h.barriers.own q, barrier_write (k m.barrier) (at m.barrier) (size m.barrier) (at n) (size n) (h.barriers.is q))

  of_end : (b : Kind) (l : ℕ) → ((a : Kind) (p s q t : ℕ) → is_mark_end a ≡ true → shape_holds a p s b q t ≡ true) → 0 < l
      → l ≡ m.end → Entry b l
  of_end b l w p e =
      let q : 0 < m.end = subst (λ z. 0 < z) e p in
      subst (λ z. Entry b z) (sym e) (h.ends.below q, h.ends.own q, w (k m.end) (at m.end) (size m.end) (at n) (size n) (h.ends.is q))

  of_none : (b : Kind) (l : ℕ) → 0 < l → l ≡ 0 → Entry b l
  of_none b l p e = absurd (omega arith)

  of_top : (b : Kind) (such : Kind → Bool) (clear : ℕ) (top : ℕ → ℕ) (l : ℕ)
      → ((a : Kind) (p s q t : ℕ) → such a ≡ true → meets p s q t ≡ true → shape_holds a p s b q t ≡ true)
      → IsMarkIndexed o (λ g. such (k g)) at size u create n clear top → IsTop top (at n) (size n) l → Entry b l
  of_top b such clear top l w i t =
      let x = t.byte in
      let q : 0 < top x = subst (λ z. 0 < z) (sym t.is) t.some in
      let has = i.has x t.fits q in
      subst (λ z. Entry b z) t.is (
        i.below x t.fits q,
        i.own x t.fits q,
        w (k (top x)) (at (top x)) (size (top x)) (at n) (size n) (i.is x t.fits q)
            (meets_at (at (top x)) (size (top x)) (at n) (size n) x has.behind has.within t.behind t.within),
      )

  entry_by : (b : Kind) (l : ℕ) → 0 < l
      → (l ≡ m.close) ⊎ ((l ≡ mark_of b m) ⊎ IsTop (λ x. top_of b written locked x) (at n) (size n) l) → Entry b l
  entry_by b l p (inl e) = of_close b l p e
  entry_by kinds.Create l p (inr (inl e)) = of_none kinds.Create l p e
  entry_by kinds.Write l p (inr (inl e)) = of_barrier l p e
  entry_by kinds.Read l p (inr (inl e)) = of_end kinds.Read l end_read p e
  entry_by kinds.End l p (inr (inl e)) = of_none kinds.End l p e
  entry_by kinds.Change l p (inr (inl e)) = of_none kinds.Change l p e
  entry_by kinds.Lock l p (inr (inl e)) = of_none kinds.Lock l p e
  entry_by kinds.Look l p (inr (inl e)) = of_end kinds.Look l end_look p e
  entry_by kinds.List l p (inr (inl e)) = of_none kinds.List l p e
  entry_by kinds.Close l p (inr (inl e)) = of_none kinds.Close l p e
  entry_by kinds.Create l p (inr (inr t)) = of_none kinds.Create l p (sym t.is)
  entry_by kinds.Write l p (inr (inr t)) = of_top kinds.Write is_mark_write (max m.end m.close) written l write_write writes t
  entry_by kinds.Read l p (inr (inr t)) = of_top kinds.Read is_mark_write (max m.end m.close) written l write_read writes t
  entry_by kinds.End l p (inr (inr t)) = of_none kinds.End l p (sym t.is)
  entry_by kinds.Change l p (inr (inr t)) = of_none kinds.Change l p (sym t.is)
  entry_by kinds.Lock l p (inr (inr t)) = of_top kinds.Lock is_lock_kind m.close locked l lock_lock locks t
  entry_by kinds.Look l p (inr (inr t)) = of_none kinds.Look l p (sym t.is)
  entry_by kinds.List l p (inr (inr t)) = of_none kinds.List l p (sym t.is)
  entry_by kinds.Close l p (inr (inr t)) = of_none kinds.Close l p (sym t.is)

  covered_new : ListsHolders u m.close (mark_of (k n) m) (λ x. top_of (k n) written locked x) (at n) (size n) old holders
      → (begin end : ℕ) → begin ≡ length old → end ≡ length holders
      → (f : ℕ) → 0 < f → f < n → o f ≡ o n → holds_by_shape k at size f n ≡ true
      → (u f ≡ false) ⊎ (IsEntry (holds_by_shape k at size) o holders begin end f
      ⊎ (on_chain (k n) o k (λ x. fills_by_shape k size x) f n ≡ true))
  covered_new t begin end d e f p l s w =
      subst (λ z. (u f ≡ false) ⊎ (IsEntry (holds_by_shape k at size) o holders z end f
      ⊎ (on_chain (k n) o k (λ x. fills_by_shape k size x) f n ≡ true))) (sym d)
      (subst (λ z. (u f ≡ false) ⊎ (IsEntry (holds_by_shape k at size) o holders (length old) z f
      ⊎ (on_chain (k n) o k (λ x. fills_by_shape k size x) f n ≡ true))) (sym e) (covered_by (k n) refl t f p l (s ∙ own) w))

  entry_new : ListsHolders u m.close (mark_of (k n) m) (λ x. top_of (k n) written locked x) (at n) (size n) old holders
      → (begin end i : ℕ) → begin ≡ length old → end ≡ length holders → begin ≤ i → i < end
      → (get_or holders i 0 < n) × (o (get_or holders i 0) ≡ o n) × (holds_by_shape k at size (get_or holders i 0) n ≡ true)
  entry_new t begin end i d e a b =
      let w = t.adds.behind i (subst (λ z. z ≤ i) d a) (subst (λ z. i < z) e b) in
      let v = entry_by (k n) (get_or holders i 0) w.0 w.1 in
      (v.0, v.1 ∙ sym own, v.2)

  numbered_new : ListsHolders u m.close (mark_of (k n) m) (λ x. top_of (k n) written locked x) (at n) (size n) old holders
      → (begin end i : ℕ) → begin ≡ length old → end ≡ length holders → begin ≤ i → i < end → 0 < get_or holders i 0
  numbered_new t begin end i d e a b = (t.adds.behind i (subst (λ z. z ≤ i) d a) (subst (λ z. i < z) e b)).0

pub is_new : (rows : List Row) (at size : ℕ → ℕ) (create n : ℕ) (m : Marks) (written locked : ℕ → ℕ) (old holders : List ℕ)
    → IsMarked rows at size create n m written locked old holders
    → IsRowNew (holds_by_shape (kind rows) at size) (λ x. fills_by_shape (kind rows) size x) rows holders n
is_new rows at size create n m written locked old holders i =
    let d = i.begins_at in
    let e = i.ends_at in
    let l = i.listed.adds.longer in
    record {
      owned = subst (λ z. 0 < z) (sym i.own) i.some;
      within = subst (λ z. z ≤ n) (sym i.own) i.below;
      own = ap (λ z. owner rows z) i.own ∙ i.itself ∙ sym i.own;
      begun = omega arith;
      ended = omega arith;
      opens = joins (links chains.All rows) (owner rows) (λ x. true) (stands rows) create n m.last i.own i.lower i.heights.lasts;
      changing = joins (links chains.Changes rows) (owner rows) (λ x. is_holding_changing (kind rows x)) (stands rows)
          create n m.change i.own
          i.change i.heights.changes;
      filling = joins (links chains.Filled rows) (owner rows) (λ x. fills_by_shape (kind rows) size x) (stands rows) create n m.filled
          i.own i.filled i.heights.fills;
      suits = λ h a w. suits_new (owner rows) (kind rows) at size n h (i.creates h a) w;
      entries = λ j a b. entry_new (owner rows) (kind rows) at size (stands rows) create n m written locked old holders i.heights i.fits
          i.first i.own i.writes i.locks i.listed (begins rows n) (ends rows n) j d e a b;
      numbered = λ j a b. numbered_new (owner rows) (kind rows) at size (stands rows) create n m written locked old holders i.heights
          i.fits i.first i.own i.writes i.locks i.listed (begins rows n) (ends rows n) j d e a b;
      covered = λ f p a s w. covered_new (owner rows) (kind rows) at size (stands rows) create n m written locked old holders i.heights
          i.fits i.first i.own i.writes i.locks i.listed (begins rows n) (ends rows n) d e f p a s w;
      first = i.waits;
    }
