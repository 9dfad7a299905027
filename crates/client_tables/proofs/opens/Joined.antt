-- A submit put together: room, a list, bytes, a row and marks.
use Rattle.std.proofs.Common.{◌≡◌, ℕ, ◌+◌, ◌<◌, ◌≤◌, Bool, List, [], ◌∷◌, ◌++◌, length, refl, ap, sym, ◌∙◌, subst, arith}
use Rattle.base_lists.specs.declared.watch_lists.Link.{Link as Watch}
use Rattle.spec_exchange.specs.Table.{put}
use Rattle.spec_exchange.specs.Operations.{Op}
use Rattle.spec_exchange.specs.Client.{Client, create_for, take_op}
use Rattle.client_values.specs.declared.operations.shapes.Kind.{Kind}
use Rattle.client_values.specs.declared.operations.shapes.Shape.{Shape}
use Rattle.client_values.specs.operations.Waiting.{at_of, size_of}
use Rattle.client_rows.specs.declared.operation_rows.row.Row.{Row}
use Rattle.client_rows.specs.operation_rows.Rows.{stands, owner, kind}
use Rattle.client_rows.specs.operation_rows.Holding.{IsSafe}
use Rattle.client_rows.specs.operation_rows.Moves.{StandsRows}
use Rattle.client_rows.specs.operation_rows.Taking.{IsRowNew}
use Rattle.client_rows.proofs.operation_rows.Adding.{at_new}
use Rattle.client_rows.proofs.operation_rows.Walking.{put_at}
use Rattle.base_lists.specs.range_index.Tops.{RangeGoesOn}
use Rattle.client_rows.specs.declared.open_marks.marks.Marks.{Marks}
use Rattle.client_rows.specs.open_marks.Marked.{IsMarked}
use Rattle.client_rows.specs.open_marks.Marks.{Heights, ListsHolders, mark_of, top_of}
use Rattle.client_rows.specs.Shown.{ShowsRows, fills_by, waits_by}
use Rattle.client_tables.specs.submits.Taken.{IsRowOf}
use Rattle.client_tables.proofs.submits.Taken.{kept_shown}
use Rattle.client_tables.specs.opens.Opened.{OpenBehind, IsOpenOn, ShowsOpen, placed_row}
use Rattle.client_tables.proofs.opens.Keeping.{open_more, open_other, open_same}
use Rattle.client_tables.proofs.opens.Longer.{safe_longer, shows_longer}
use Rattle.client_tables.proofs.opens.Submitted.{IsPlaced, grows, marked, new_row}

-- what adding a row comes to, of rows behind which it is put
abbrev pub AddsShown : (mid new : List Row) (prices prices2 : List ℕ) → List Watch → Row → Type 0
AddsShown mid new prices prices2 watchers r = (c : Client) (op : Op) (holders : List ℕ) → IsSafe mid holders
    → ShowsRows mid holders prices watchers c → length mid ≡ c.taken + 1 → ((g : ℕ) → 0 < g → g ≤ c.taken → 0 < create_for c g)
    → IsRowOf r c (length mid) op
    → IsRowNew (waits_by (put c.op (length mid) op)) (fills_by (put c.op (length mid) op)) new holders (length mid)
    → ShowsRows new holders prices2 watchers (take_op c (length mid) op)

-- and it is safe
abbrev pub AddsSafe : (mid new : List Row) → Type 0
AddsSafe mid new = (c : Client) (op : Op) (holders : List ℕ) → IsSafe mid holders
    → IsRowNew (waits_by (put c.op (length mid) op)) (fills_by (put c.op (length mid) op)) new holders (length mid) → 0 < length mid
    → IsSafe new holders

module _ (old : List Row) (row r : Row) (c : Client) (op : Op) (create : ℕ) (shape : Shape) (m : Marks) (written locked : ℕ → ℕ)
    (holders holders2 prices prices1 : List ℕ) (watchers watchers1 : List Watch) (begin end : ℕ)
    (room : (holds : ℕ → ℕ → Bool) (fills : ℕ → Bool) (hs : List ℕ) → StandsRows holds fills old hs prices watchers
    → StandsRows holds fills old hs prices1 watchers1)
    (is : r ≡ placed_row row begin end m) (begins : begin ≡ length holders) (ends : end ≡ length holders2)
    (goes : RangeGoesOn holders holders2)
    (listed : ListsHolders (stands old) m.close (mark_of shape.kind m) (λ x. top_of shape.kind written locked x) shape.at shape.size
    holders holders2) (marks : mark_of shape.kind m < length old)
    (safe : IsSafe old holders) (shows : ShowsRows old holders prices watchers c) (next : length old ≡ c.taken + 1)
    (on : IsOpenOn old c op create (length old) shape row)
    (was : ShowsOpen old (λ x. at_of (c.op x)) (λ x. size_of (c.op x)) create (length old) m written locked) where
  abbrev n : ℕ
  n = length old

  abbrev more : List Row
  more = old ++ r ∷ []

  abbrev op2 : ℕ → Op
  op2 = put c.op n op

  abbrev at : ℕ → ℕ
  at x = at_of (op2 x)

  abbrev size : ℕ → ℕ
  size x = size_of (op2 x)

  shows1 : ShowsRows old holders prices1 watchers1 c
  shows1 = kept_shown old old holders prices prices1 watchers watchers1 c refl shows
      (room (waits_by c.op) (fills_by c.op) holders shows.stand)

  shows2 : ShowsRows old holders2 prices1 watchers1 c
  shows2 = subst (λ (hs : List ℕ). ShowsRows old hs prices1 watchers1 c) (sym goes.1)
      (shows_longer old holders goes.0 safe prices1 watchers1 c shows1)

  safe2 : IsSafe old holders2
  safe2 = subst (λ (hs : List ℕ). IsSafe old hs) (sym goes.1) (safe_longer old holders goes.0 safe)

  row_of : IsRowOf r c n op
  row_of =
      let i = on.row in
      subst (λ (w : Row). IsRowOf w c n op) (sym is) (record {
        kind_is = i.kind_is;
        create_is = i.create_is;
        charge_is = i.charge_is;
        unsettled_is = i.unsettled_is;
        firm_is = i.firm_is;
        cost_is = i.cost_is;
        sent_is = i.sent_is;
        out_is = i.out_is;
        asks_is = i.asks_is;
        unanswered_is = i.unanswered_is;
        sequence_is = i.sequence_is;
        slot_is = i.slot_is;
        number_is = i.number_is;
      })

  placed : IsPlaced r m holders holders2
  placed =
      record {
        begins_at = ap (λ (w : Row). w.holders) is ∙ begins;
        ends_at = ap (λ (w : Row). w.holders_end) is ∙ ends;
        lower = ap (λ (w : Row). w.lower) is;
        change = ap (λ (w : Row). w.change) is;
        filled = ap (λ (w : Row). w.filled) is;
      }

  kind_same : shape.kind ≡ r.kind
  kind_same = on.kind_is ∙ sym (ap (λ (w : Row). w.kind) is)

  lists : ListsHolders (stands old) m.close (mark_of r.kind m) (λ x. top_of r.kind written locked x) (at_of op)
      (size_of op) holders holders2
  lists =
      subst (λ (k : Kind). ListsHolders (stands old) m.close (mark_of k m) (λ x. top_of k written locked x) (at_of op) (size_of op)
      holders holders2) kind_same
      (subst (λ z. ListsHolders (stands old) m.close (mark_of shape.kind m) (λ x. top_of shape.kind written locked x) z (size_of op)
      holders holders2) (sym on.at_is)
      (subst (λ z. ListsHolders (stands old) m.close (mark_of shape.kind m) (λ x. top_of shape.kind written locked x) shape.at z
      holders holders2) (sym on.size_is) listed))

  is_marked : IsMarked more at size create n m written locked holders holders2
  is_marked = marked old r c op create m written locked holders holders2 holders2 prices1 watchers1 safe2 shows2 next row_of placed on.own
      on.some on.below on.itself on.fits on.late was lists (subst (λ (k : Kind). mark_of k m < n) kind_same marks)

  -- behind the row that is added
  pub submit_shown : (new : List Row) (prices2 : List ℕ) → new ≡ more → AddsShown old new prices1 prices2 watchers1 r
      → ShowsRows new holders2 prices2 watchers1 (take_op c n op)
  submit_shown new prices2 e adds = adds c op holders2 safe2 shows2 next on.created row_of
      (subst (λ (xs : List Row). IsRowNew (waits_by op2) (fills_by op2) xs holders2 n) (sym e)
      (new_row old r c op create m written locked holders holders2 holders2 prices1 watchers1 safe2 shows2 next row_of is_marked))

  pub submit_safe : (new : List Row) → new ≡ more → AddsSafe old new → IsSafe new holders2
  submit_safe new e adds = adds c op holders2 safe2 (subst (λ (xs : List Row). IsRowNew (waits_by op2) (fills_by op2) xs holders2 n) (sym e)
      (new_row old r c op create m written locked holders holders2 holders2 prices1 watchers1 safe2 shows2 next row_of is_marked))
      (omega arith)

  new_kind : kind more n ≡ shape.kind
  new_kind = ap (λ (w : Row). w.kind) (at_new old r) ∙ sym kind_same

  -- and of its open
  pub submit_open : (new : List Row) (m2 : Marks) (written2 locked2 : ℕ → ℕ) → new ≡ more
      → ((o : ℕ → ℕ) (k : ℕ → Kind) (sizes : ℕ → ℕ) (at : ℕ) → Heights o k sizes at n m → o n ≡ at → k n ≡ shape.kind
      → sizes n ≡ shape.size → Heights o k sizes at (n + 1) m2)
      → OpenBehind shape.kind written written2 locked locked2 shape.at shape.size n
      → ShowsOpen new at size create (n + 1) m2 written2 locked2
  submit_open new m2 written2 locked2 e behind covers =
      let w = open_same old more (λ x. at_of (c.op x)) at (λ x. size_of (c.op x)) size create n m written locked
      (grows old r c op create m written locked holders holders2 holders2 prices1 watchers1) was in
      let s : size n ≡ shape.size = ap (λ x. size_of x) (put_at c.op n op n refl) ∙ on.size_is in
      let a : at n ≡ shape.at = ap (λ x. at_of x) (put_at c.op n op n refl) ∙ on.at_is in
      let b : OpenBehind (kind more n) written written2 locked locked2 (at n) (size n) n =
      subst (λ (k : Kind). OpenBehind k written written2 locked locked2 (at n) (size n) n) (sym new_kind)
      (subst (λ z. OpenBehind shape.kind written written2 locked locked2 z (size n) n) (sym a)
      (subst (λ z. OpenBehind shape.kind written written2 locked locked2 shape.at z n) (sym s) covers)) in
      subst (λ (xs : List Row). ShowsOpen xs at size create (n + 1) m2 written2 locked2) (sym e)
      (open_more more at size create n m written locked w is_marked.own m2
      (behind (owner more) (kind more) size create w.heights is_marked.own new_kind s) written2 locked2 b)

-- ---- other opens, and where memory runs out

pub others_kept : (old new : List Row) (r : Row) (c : Client) (op : Op) (other : ℕ) (m : Marks) (written locked : ℕ → ℕ) (holders : List ℕ)
    (watchers : List Watch) → new ≡ old ++ r ∷ [] → (r.create ≡ other → ⊥)
    → ShowsOpen old (λ x. at_of (c.op x)) (λ x. size_of (c.op x)) other (length old) m written locked
    → ShowsOpen new (λ x. at_of (put c.op (length old) op x)) (λ x. size_of (put c.op (length old) op x)) other
    (length old + 1) m written locked
others_kept old new r c op other m written locked holders watchers e apart s =
    let at : ℕ → ℕ = λ x. at_of (put c.op (length old) op x) in
    let size : ℕ → ℕ = λ x. size_of (put c.op (length old) op x) in
    subst (λ (xs : List Row). ShowsOpen xs at size other (length old + 1) m written locked) (sym e)
    (open_other (old ++ r ∷ []) at size other (length old) m written locked
    (open_same old (old ++ r ∷ []) (λ x. at_of (c.op x)) at (λ x. size_of (c.op x)) size other (length old) m written locked
    (grows old r c op other m written locked holders holders holders holders watchers) s)
    (λ q. apart (sym (ap (λ (w : Row). w.create) (at_new old r)) ∙ q)))

pub stays_shown : (rows new : List Row) (at size : ℕ → ℕ) (create n : ℕ) (m m2 : Marks) (written written2 locked locked2 : ℕ → ℕ)
    → new ≡ rows → m2 ≡ m → ((x : ℕ) → written2 x ≡ written x) → ((x : ℕ) → locked2 x ≡ locked x)
    → ShowsOpen rows at size create n m written locked → ShowsOpen new at size create n m2 written2 locked2
stays_shown rows new at size create n m m2 written written2 locked locked2 e q w l s =
    let ww : written ≡ written2 = λ t x. (sym (w x)) t in
    let ll : locked ≡ locked2 = λ t x. (sym (l x)) t in
    subst (λ (xs : List Row). ShowsOpen xs at size create n m2 written2 locked2) (sym e)
    (subst (λ (z : Marks). ShowsOpen rows at size create n z written2 locked2) (sym q)
    (subst (λ (z : ℕ → ℕ). ShowsOpen rows at size create n m written2 z) ll
    (subst (λ (z : ℕ → ℕ). ShowsOpen rows at size create n m z locked) ww s)))
