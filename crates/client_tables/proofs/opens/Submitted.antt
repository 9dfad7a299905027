-- The row of a submit is marked: its links are its open's marks, and its list is what was listed for it.
use Rattle.std.proofs.Common.{◌≡◌, ℕ, ◌+◌, ◌<◌, ◌≤◌, ◌^◌, Bool, true, false, List, [], ◌∷◌, ◌++◌, length, refl, ap, sym, ◌∙◌, arith}
use Rattle.std.proofs.Common.{subst, ◌⊎◌, inl, inr}
use Rattle.base_lists.specs.declared.watch_lists.Link.{Link as Watch}
use Rattle.spec_exchange.specs.Table.{put}
use Rattle.spec_exchange.specs.Operations.{Op, OpCreate, OpWrite, OpRead, OpEnd, OpTime, OpRename, OpRemove, OpLock, OpUnlock}
use Rattle.spec_exchange.specs.Operations.{OpFlush, OpStat, OpList, OpClose, create_of, holds_up, is_unsettled}
use Rattle.spec_exchange.specs.Client.{Client, create_for, outcome_at_first}
use Rattle.client_values.specs.declared.operations.shapes.Kind.{Kind}
use Rattle.client_values.specs.declared.operations.shapes.Kind.TheVariants as kinds
use Rattle.client_values.specs.operations.Waiting.{at_of, kind_of, size_of}
use Rattle.client_rows.specs.declared.operation_rows.row.Row.{Row}
use Rattle.client_rows.specs.operation_rows.Rows.{row_at, stands, owner, kind}
use Rattle.client_rows.specs.operation_rows.Holding.{IsSafe}
use Rattle.client_rows.specs.operation_rows.Taking.{IsRowNew}
use Rattle.client_rows.proofs.operation_rows.Adding.{at_new, at_old}
use Rattle.client_rows.proofs.operation_rows.Walking.{positive, put_at, put_off}
use Rattle.client_rows.specs.declared.open_marks.marks.Marks.{Marks}
use Rattle.client_rows.specs.open_marks.Marked.{IsMarked}
use Rattle.client_rows.specs.open_marks.Marks.{ListsHolders, MarkTold, fills_by_shape, holds_by_shape, mark_of, top_of}
use Rattle.client_rows.proofs.open_marks.Whole.{is_new}
use Rattle.client_rows.specs.Shown.{ShowsRows, fills_by, waits_by}
use Rattle.client_tables.specs.submits.Taken.{IsRowOf}
use Rattle.client_tables.proofs.submits.Shapes.{fills_is, new_by, waits_is}
use Rattle.client_tables.specs.opens.Opened.{ShowsOpen}
use Rattle.client_tables.proofs.opens.Keeping.{Grows, open_same}

ways : (x y : ℕ) → (x ≡ y) ⊎ (x ≡ y → ⊥)
ways x y = grind arith

-- a create is of itself
create_is : (g : ℕ) (x : Op) → kind_of x ≡ kinds.Create → create_of g x ≡ g
create_is g (OpCreate path access share disposition persist directory) e = refl
create_is g (OpWrite create at bytes) e = absurd (cc)
create_is g (OpRead create at size) e = absurd (cc)
create_is g (OpEnd create size) e = absurd (cc)
create_is g (OpTime create time) e = absurd (cc)
create_is g (OpRename create path) e = absurd (cc)
create_is g (OpRemove create) e = absurd (cc)
create_is g (OpLock create at n exclusive) e = absurd (cc)
create_is g (OpUnlock create at n) e = absurd (cc)
create_is g (OpFlush create) e = absurd (cc)
create_is g (OpStat create) e = absurd (cc)
create_is g (OpList create) e = absurd (cc)
create_is g (OpClose create) e = absurd (cc)

-- what was told of a mark is told by columns that tell the same of it
told_by : (u u2 : ℕ → Bool) (holders : List ℕ) (begin end l : ℕ) → u2 l ≡ u l → MarkTold u holders begin end l
    → MarkTold u2 holders begin end l
told_by u u2 holders begin end l e t p =
    elim (t p) [
      | inl q ↦ inl (e ∙ q)
      | inr q ↦ inr q
    ]

-- what a submit brings: where its part of the list begins and ends, and its links
pub record IsPlaced (r : Row) (m : Marks) (old holders : List ℕ) : Type 0 where
  pub begins_at : r.holders ≡ length old
  pub ends_at : r.holders_end ≡ length holders
  pub lower : r.lower ≡ m.last
  pub change : r.change ≡ m.change
  pub filled : r.filled ≡ m.filled

-- where it settles at once, what it would wait for is settled, as client_law tells of what is taken
abbrev pub SettlesLate : Client → ℕ → Op → Type 0
SettlesLate c n op = is_unsettled (outcome_at_first c n op) ≡ false → (h : ℕ) → 0 < h → h < n → create_for c h ≡ create_of n op
    → holds_up (c.op h) op ≡ true → is_unsettled (c.outcome h) ≡ false

module _ (rows : List Row) (r : Row) (c : Client) (op : Op) (create : ℕ) (m : Marks) (written locked : ℕ → ℕ)
    (old holders list prices : List ℕ)
    (watchers : List Watch) where
  abbrev more : List Row
  more = rows ++ r ∷ []

  abbrev n : ℕ
  n = length rows

  abbrev op2 : ℕ → Op
  op2 = put c.op n op

  abbrev at : ℕ → ℕ
  at x = at_of (op2 x)

  abbrev size : ℕ → ℕ
  size x = size_of (op2 x)

  apart : (g : ℕ) → g < n → g ≡ n → ⊥
  apart g l e = omega arith

  new_col : {X : Type 0} (f : Row → X) → f (row_at more n) ≡ f r
  new_col f = ap f (at_new rows r)

  old_col : {X : Type 0} (f : Row → X) (g : ℕ) → g < n → f (row_at more g) ≡ f (row_at rows g)
  old_col f g l = ap f (at_old rows r g (apart g l))

  pub grows : Grows rows more (λ x. at_of (c.op x)) at (λ x. size_of (c.op x)) size n
  grows =
      record {
        owners = λ g l. old_col (λ (w : Row). w.create) g l;
        kinds = λ g l. old_col (λ (w : Row). w.kind) g l;
        standing = λ g l. old_col (λ (w : Row). w.unsettled) g l;
        ats = λ g l. ap (λ x. at_of x) (put_off c.op n op g (apart g l));
        sizes = λ g l. ap (λ x. size_of x) (put_off c.op n op g (apart g l));
      }

  -- the operation behind each row has its kind
  kind_at : ShowsRows rows list prices watchers c → n ≡ c.taken + 1 → IsRowOf r c n op → (g : ℕ) → 0 < g → g ≤ n
      → kind_of (op2 g) ≡ kind more g
  kind_at s e i g p l =
      elim (ways g n) as (λ _. kind_of (op2 g) ≡ kind more g) [
        | inl q ↦ ap (λ x. kind_of x) (put_at c.op n op g q) ∙ i.kind_is ∙ sym (new_col (λ (w : Row). w.kind))
            ∙ ap (λ z. kind more z) (sym q)
        | inr q ↦ (
            let k : g < n = smaller g n l q in
            ap (λ x. kind_of x) (put_off c.op n op g q) ∙ s.places.kinds g p (omega arith) ∙ sym (old_col (λ (w : Row). w.kind) g k)
            )
      ]
    where
      smaller : (g n : ℕ) → g ≤ n → (g ≡ n → ⊥) → g < n
      smaller g n l q = grind arith

  -- of the first rows, what shapes tell is what the operations ask
  waits_at : ShowsRows rows list prices watchers c → n ≡ c.taken + 1 → IsRowOf r c n op → (h g : ℕ) → 0 < h → 0 < g → h ≤ n → g ≤ n
      → waits_by op2 h g ≡ holds_by_shape (kind more) at size h g
  waits_at s e i h g p q k l = waits_is op2 more h g (kind_at s e i h p k) (kind_at s e i g q l)

  pub marked : IsSafe rows list → ShowsRows rows list prices watchers c → n ≡ c.taken + 1 → IsRowOf r c n op → IsPlaced r m old holders
      → create_of n op ≡ create → 0 < create → create ≤ n → (create < n → owner rows create ≡ create)
      → ((g : ℕ) → 0 < g → g ≤ n → at g < 2 ^ 64) → SettlesLate c n op
      → ShowsOpen rows (λ x. at_of (c.op x)) (λ x. size_of (c.op x)) create n m written locked
      → ListsHolders (stands rows) m.close (mark_of r.kind m) (λ x. top_of r.kind written locked x) (at_of op) (size_of op) old holders
      → (mark_of r.kind m < n) → IsMarked more at size create n m written locked old holders
  marked safe s e i y own p b itself fits late o t marks =
      let w = open_same rows more (λ x. at_of (c.op x)) at (λ x. size_of (c.op x)) size create n m written locked grows o in
      let owned : owner more n ≡ create = new_col (λ (z : Row). z.create) ∙ sym i.create_is ∙ own in
      record {
        some = p;
        below = b;
        own = owned;
        itself = elim (ways create n) as (λ _. owner more create ≡ create) [
          | inl q ↦ ap (λ z. owner more z) q ∙ owned
          | inr q ↦ (
              let k : create < n = smaller create n b q in
              old_col (λ (z : Row). z.create) create k ∙ itself k
              )
        ];
        waits = λ u h l x v. (
            elim (ways h 0) as (λ _. stands more h ≡ false) [
              | inl q ↦ ap (λ z. stands more z) q ∙ old_col (λ (z : Row). z.unsettled) 0 (omega arith) ∙ safe.nought
              | inr q ↦ (
                  let a = positive h q in
                  let k : h ≤ c.taken = omega arith in
                  let f : holds_up (c.op h) op ≡ true = sym (λ z. holds_up (put_off c.op n op h (apart h l) z) (put_at c.op n op n refl z))
                  ∙ waits_at s e i h n a (omega arith) (omega arith) (omega arith) ∙ v in
                  old_col (λ (z : Row). z.unsettled) h l ∙ sym (s.places.unsettled h a k)
                  ∙ late (i.unsettled_is ∙ sym (new_col (λ (z : Row). z.unsettled)) ∙ u) h a l
                  (s.places.creates h a k ∙ sym (old_col (λ (z : Row). z.create) h l) ∙ x ∙ owned ∙ sym own) f
                  )
            ]
            );
        lower = new_col (λ (z : Row). z.lower) ∙ y.lower;
        change = new_col (λ (z : Row). z.change) ∙ y.change;
        filled = new_col (λ (z : Row). z.filled) ∙ y.filled;
        begins_at = new_col (λ (z : Row). z.holders) ∙ y.begins_at;
        ends_at = new_col (λ (z : Row). z.holders_end) ∙ y.ends_at;
        heights = w.heights;
        fits = fits;
        first = λ g f q l u a x v. (
            elim (ways f 0) as (λ _. stands more f ≡ false) [
              | inl z ↦ ap (λ k. stands more k) z ∙ old_col (λ (k : Row). k.unsettled) 0 (omega arith) ∙ safe.nought
              | inr z ↦ (
                  let d = positive f z in
                  let k : f < n = omega arith in
                  old_col (λ (j : Row). j.unsettled) f k ∙ s.stand.first g f q (sym (old_col (λ (j : Row). j.unsettled) g l) ∙ u) a
                  (sym (old_col (λ (j : Row). j.create) f k) ∙ x ∙ old_col (λ (j : Row). j.create) g l)
                  (sym (λ j. holds_up (put_off c.op n op f (apart f k) j) (put_off c.op n op g (apart g l) j))
                  ∙ waits_at s e i f g d q (omega arith) (omega arith) ∙ v)
                  )
            ]
            );
        creates = λ h l x. (
            elim (ways h 0) as (λ _. owner more h ≡ h) [
              | inl q ↦ (let a = safe.owned 0 (omega arith) in let z : owner rows 0 ≡ 0 = omega arith in
                  ap (λ k. owner more k) q ∙ old_col (λ (k : Row). k.create) 0 (omega arith) ∙ z ∙ sym q)
              | inr q ↦ (
                  let a = positive h q in
                  let k : h ≤ c.taken = omega arith in
                  old_col (λ (j : Row). j.create) h l ∙ sym (s.places.creates h a k)
                  ∙ create_is h (c.op h) (s.places.kinds h a k ∙ sym (old_col (λ (j : Row). j.kind) h l) ∙ x)
                  )
            ]
            );
        writes = w.writes;
        locks = w.locks;
        listed = listed_new;
      }
    where
      smaller : (g n : ℕ) → g ≤ n → (g ≡ n → ⊥) → g < n
      smaller g n l q = grind arith

      unsettled_new : (l : ℕ) → l < n → stands more l ≡ stands rows l
      unsettled_new l k = old_col (λ (z : Row). z.unsettled) l k

      told_new : ListsHolders (stands more) m.close (mark_of r.kind m) (λ x. top_of r.kind written locked x) (at_of op)
          (size_of op) old holders
      told_new =
          record {
            adds = t.adds;
            close_told = λ q. told_by (stands rows) (stands more) holders (length old) (length holders) m.close
                (unsettled_new m.close (o.heights.closes.below q)) t.close_told q;
            mark_told = λ q. told_by (stands rows) (stands more) holders (length old) (length holders) (mark_of r.kind m)
                (unsettled_new (mark_of r.kind m) marks) t.mark_told q;
            tops_told = t.tops_told;
          }

      listed_new : ListsHolders (stands more) m.close (mark_of (kind more n) m) (λ x. top_of (kind more n) written locked x) (at n) (size n)
          old holders
      listed_new =
          subst (λ (k : Kind). ListsHolders (stands more) m.close (mark_of k m) (λ x. top_of k written locked x) (at n)
          (size n) old holders)
          (sym (new_col (λ (z : Row). z.kind)))
          (subst (λ z. ListsHolders (stands more) m.close (mark_of r.kind m) (λ x. top_of r.kind written locked x) z (size n) old holders)
          (sym (ap (λ x. at_of x) (put_at c.op n op n refl)))
          (subst (λ z. ListsHolders (stands more) m.close (mark_of r.kind m) (λ x. top_of r.kind written locked x) (at_of op) z old holders)
          (sym (ap (λ x. size_of x) (put_at c.op n op n refl))) told_new))

  -- and so it is new by what the operations ask
  pub new_row : IsSafe rows list → ShowsRows rows list prices watchers c → n ≡ c.taken + 1 → IsRowOf r c n op
      → IsMarked more at size create n m written locked old holders
      → IsRowNew (waits_by op2) (fills_by op2) more holders n
  new_row safe s e i k = new_by (holds_by_shape (kind more) at size) (waits_by op2)
      (λ x. fills_by_shape (kind more) size x) (fills_by op2) more
      holders n (λ h g p l q. waits_at s e i h g p (omega arith) (omega arith) q)
      (λ h p l. fills_is op2 more h (kind_at s e i h p (omega arith)))
      (let a = safe.owned 0 (omega arith) in let z : owner rows 0 ≡ 0 = omega arith in
      old_col (λ (j : Row). j.create) 0 (omega arith) ∙ z)
      (is_new more at size create n m written locked old holders k)
