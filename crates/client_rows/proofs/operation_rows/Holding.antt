-- What is found to hold an operation up, and what its settled ones leave behind.
use Rattle.std.proofs.Common.{◌≡◌, ℕ, ◌<◌, ◌≤◌, ◌==◌, ◌&&◌, Bool, true, false, List, length, get_or, refl, ap, sym, ◌∙◌}
use Rattle.std.proofs.Common.{arith, subst, ◌⊎◌, inl, inr}
use Rattle.client_values.specs.declared.operations.shapes.Kind.{Kind}
use Rattle.client_values.specs.declared.operations.shapes.Kind.TheVariants as kinds
use Rattle.client_rows.specs.declared.operation_rows.row.Row.{Row}
use Rattle.client_rows.specs.declared.operation_rows.chains.Chain.TheVariants as chains
use Rattle.client_rows.specs.operation_rows.Rows.{stands, owner, kind, begins, ends, links}
use Rattle.client_rows.specs.operation_rows.Chains.{Descends, Chained, IsChainOn, Reaches, SameBut}
use Rattle.client_rows.specs.operation_rows.Listed.{SameButEnd}
use Rattle.client_rows.specs.operation_rows.Holding.{AreFirst, ChainsFit, Descend, HoldingFits, FitsRows, HoldingHolder}
use Rattle.client_rows.specs.operation_rows.Holding.{IsEntry, IsSafe, Leads}
use Rattle.client_rows.specs.operation_rows.Holding.{on_chain, on_changes, on_filled, holding_on_open, is_holding_changing}
use Rattle.client_rows.proofs.operation_rows.Columns.{alike_link, alike_end, owners, kinds as kinds_of, standing, beginnings}
use Rattle.client_rows.proofs.operation_rows.Columns.{ends_link, moved, links_end}
use Rattle.client_rows.proofs.operation_rows.Columns.{all_changes, all_filled, changes_all, changes_filled, filled_all}
use Rattle.client_rows.proofs.operation_rows.Columns.{filled_changes, descend_end}

two : (x y : ℕ) → (x ≡ y) ⊎ (x ≡ y → ⊥)
two x y = grind arith

three : (x y : ℕ) → (x < y) ⊎ ((x ≡ y) ⊎ (y < x))
three x y = grind arith

pub clash : (a : Bool) → a ≡ true → a ≡ false → ⊥
clash a h k = absurd (cc)

-- ---- down a chain, from an operation

pub down_some : (link : ℕ → ℕ) (on : ℕ → ℕ → Bool) (unsettled : ℕ → Bool) (g at : ℕ) → Descends link
    → Chained link on unsettled → Reaches on unsettled (link g) at
    → at ≤ link g → 0 < at → unsettled at ≡ true → IsChainOn on unsettled at g
down_some link on unsettled g at d c r below p u =
    let l = d g in
    let q : 0 < link g = omega arith in
    record {
      lower = omega arith;
      unsettled = u;
      member =
          elim (two at (link g)) as (λ _. on at g ≡ true) [
            | inl e ↦ ap (λ n. on n g) e ∙ c.is g q
            | inr e ↦ sym (c.same g q at) ∙ r.is p (grind arith)
          ];
    }

pub down_none : (link : ℕ → ℕ) (on : ℕ → ℕ → Bool) (unsettled : ℕ → Bool) (g at : ℕ) → Chained link on unsettled
    → Reaches on unsettled (link g) at → at ≡ 0
    → (h : ℕ) → 0 < h → h < g → on h g ≡ true → unsettled h ≡ false
down_none link on unsettled g at c r z h p l o =
    elim (three h (link g)) [
      | inl k ↦ r.passed h (omega arith) k (c.same g (omega arith) h ∙ o)
      | inr (inl k) ↦ ap unsettled k ∙ r.left (omega arith)
      | inr (inr k) ↦ c.gap g h k l o
    ]

-- ---- the chain of a kind

pub same_of : (x y : ℕ) (b : Bool) → ((x == y) && b) ≡ true → x ≡ y
same_of x y b e = grind arith

pub chain_owner : (k : Kind) (o : ℕ → ℕ) (kd : ℕ → Kind) (fills : ℕ → Bool) (h g : ℕ) → on_chain k o kd fills h g ≡ true → o h ≡ o g
chain_owner kinds.Create o kd fills h g e = absurd (cc)
chain_owner kinds.Write o kd fills h g e = absurd (cc)
chain_owner kinds.Read o kd fills h g e = absurd (cc)
chain_owner kinds.End o kd fills h g e = same_of (o h) (o g) (is_holding_changing (kd h)) e
chain_owner kinds.Change o kd fills h g e = same_of (o h) (o g) (is_holding_changing (kd h)) e
chain_owner kinds.Lock o kd fills h g e = absurd (cc)
chain_owner kinds.Look o kd fills h g e = same_of (o h) (o g) (fills h) e
chain_owner kinds.List o kd fills h g e = absurd (cc)
chain_owner kinds.Close o kd fills h g e = same_of (o h) (o g) true e

pub holder_by : (holds : ℕ → ℕ → Bool) (fills : ℕ → Bool) (rows : List Row) (on : ℕ → ℕ → Bool)
    (at g : ℕ) → ChainsFit holds fills rows
    → on_chain (kind rows g) (owner rows) (kind rows) fills at g ≡ on at g → IsChainOn on (stands rows) at g
    → HoldingHolder holds (owner rows) (stands rows) at g
holder_by holds fills rows on at g f e i =
    let m = e ∙ i.member in
    record {
      lower = i.lower;
      unsettled = i.unsettled;
      same = chain_owner (kind rows g) (owner rows) (kind rows) fills at g m;
      why = f.suits at g i.lower m;
    }

-- ---- a link changes

pub fits_changes : (holds : ℕ → ℕ → Bool) (fills : ℕ → Bool) (old new : List Row) (holders : List ℕ) → SameBut chains.Changes old new
    → ((on : ℕ → ℕ → Bool) → Chained (links chains.Changes old) on (stands old) → Chained (links chains.Changes new) on (stands new))
    → FitsRows holds fills old holders → FitsRows holds fills new holders
fits_changes holds fills old new holders s c f =
    let a = alike_link chains.Changes old new s in
    let u = standing old new a in
    let d = subst (λ (z : ℕ → Bool). Chained (links chains.Changes new) (on_changes (owner old) (kind old)) z) (sym u)
    (c (on_changes (owner old) (kind old)) f.changing) in
    let h : HoldingFits holds fills (owner old) (kind old) (stands old) (links chains.All old) (links chains.Changes new)
    (links chains.Filled old) (begins old) (ends old) holders
    = record {
      own = f.own;
      opens = f.opens;
      changing = d;
      filling = f.filling;
      suits = f.suits;
      entries = f.entries;
      numbered = f.numbered;
      covered = f.covered;
    } in
    moved (owners old new a) (kinds_of old new a) u (all_changes old new s) refl (filled_changes old new s)
    (beginnings old new a) (ends_link chains.Changes old new s) h

pub fits_filled : (holds : ℕ → ℕ → Bool) (fills : ℕ → Bool) (old new : List Row) (holders : List ℕ) → SameBut chains.Filled old new
    → ((on : ℕ → ℕ → Bool) → Chained (links chains.Filled old) on (stands old) → Chained (links chains.Filled new) on (stands new))
    → FitsRows holds fills old holders → FitsRows holds fills new holders
fits_filled holds fills old new holders s c f =
    let a = alike_link chains.Filled old new s in
    let u = standing old new a in
    let d = subst (λ (z : ℕ → Bool). Chained (links chains.Filled new) (on_filled (owner old) fills) z) (sym u)
    (c (on_filled (owner old) fills) f.filling) in
    let h : HoldingFits holds fills (owner old) (kind old) (stands old) (links chains.All old) (links chains.Changes old)
    (links chains.Filled new) (begins old) (ends old) holders
    = record {
      own = f.own;
      opens = f.opens;
      changing = f.changing;
      filling = d;
      suits = f.suits;
      entries = f.entries;
      numbered = f.numbered;
      covered = f.covered;
    } in
    moved (owners old new a) (kinds_of old new a) u (all_filled old new s) (changes_filled old new s) refl
    (beginnings old new a) (ends_link chains.Filled old new s) h

pub fits_all : (holds : ℕ → ℕ → Bool) (fills : ℕ → Bool) (old new : List Row) (holders : List ℕ) → SameBut chains.All old new
    → ((on : ℕ → ℕ → Bool) → Chained (links chains.All old) on (stands old) → Chained (links chains.All new) on (stands new))
    → FitsRows holds fills old holders → FitsRows holds fills new holders
fits_all holds fills old new holders s c f =
    let a = alike_link chains.All old new s in
    let u = standing old new a in
    let d = subst (λ (z : ℕ → Bool). Chained (links chains.All new) (holding_on_open (owner old)) z) (sym u)
    (c (holding_on_open (owner old)) f.opens) in
    let h : HoldingFits holds fills (owner old) (kind old) (stands old) (links chains.All new) (links chains.Changes old)
    (links chains.Filled old) (begins old) (ends old) holders
    = record {
      own = f.own;
      opens = d;
      changing = f.changing;
      filling = f.filling;
      suits = f.suits;
      entries = f.entries;
      numbered = f.numbered;
      covered = f.covered;
    } in
    moved (owners old new a) (kinds_of old new a) u refl (changes_all old new s) (filled_all old new s)
    (beginnings old new a) (ends_link chains.All old new s) h

pub descend_changes : (old new : List Row) → SameBut chains.Changes old new → Descends (links chains.Changes new)
    → Descend old → Descend new
descend_changes old new s d i =
    record {
      all = subst (λ (f : ℕ → ℕ). Descends f) (all_changes old new s) i.all;
      changes = d;
      filled = subst (λ (f : ℕ → ℕ). Descends f) (filled_changes old new s) i.filled;
    }

pub descend_filled : (old new : List Row) → SameBut chains.Filled old new → Descends (links chains.Filled new) → Descend old → Descend new
descend_filled old new s d i =
    record {
      all = subst (λ (f : ℕ → ℕ). Descends f) (all_filled old new s) i.all;
      changes = subst (λ (f : ℕ → ℕ). Descends f) (changes_filled old new s) i.changes;
      filled = d;
    }

pub descend_all : (old new : List Row) → SameBut chains.All old new → Descends (links chains.All new) → Descend old → Descend new
descend_all old new s d i =
    record {
      all = d;
      changes = subst (λ (f : ℕ → ℕ). Descends f) (changes_all old new s) i.changes;
      filled = subst (λ (f : ℕ → ℕ). Descends f) (filled_all old new s) i.filled;
    }

-- ---- settled ones at the end of a list are forgotten

pub record Drops (old new : List Row) (holders : List ℕ) (index : ℕ) : Type 0 where
  pub same : SameButEnd old new index
  pub fewer : ends new index ≤ ends old index
  pub settled : (i : ℕ) → ends new index ≤ i → i < ends old index → stands old (get_or holders i 0) ≡ false

-- a settled one leads to settled ones
pub settled_entry : (holds : ℕ → ℕ → Bool) (o : ℕ → ℕ) (u : ℕ → Bool) (l h : ℕ) → AreFirst holds o u → 0 < l → u l
    ≡ false → Leads holds o h l → u h ≡ false
settled_entry holds o u l h first p e (inl q) = ap u (sym q) ∙ e
settled_entry holds o u l h first p e (inr q) = first l h p e q.0 q.1 q.2

ends_other : (old new : List Row) (index g : ℕ) → SameButEnd old new index → (g ≡ index → ⊥) → ends new g ≡ ends old g
ends_other old new index g s e = ap (λ (r : Row). r.holders_end) (s.other g e)

ends_fewer : (old new : List Row) (holders : List ℕ) (index g : ℕ) → Drops old new holders index → ends new g ≤ ends old g
ends_fewer old new holders index g d =
    elim (two g index) as (λ _. ends new g ≤ ends old g) [
      | inl e ↦ subst (λ i. ends new i ≤ ends old i) (sym e) d.fewer
      | inr e ↦ (let q = ends_other old new index g d.same e in omega arith)
    ]

dropped : (old new : List Row) (holders : List ℕ) (index g i : ℕ) → Drops old new holders index → ends new g ≤ i
    → i < ends old g → stands old (get_or holders i 0) ≡ false
dropped old new holders index g i d a b =
    elim (two g index) as (λ _. stands old (get_or holders i 0) ≡ false) [
      | inl e ↦ d.settled i (subst (λ k. ends new k ≤ i) e a) (subst (λ k. i < ends old k) e b)
      | inr e ↦ absurd (let q = ends_other old new index g d.same e in omega arith)
    ]

below_or_not : (i n : ℕ) → (i < n) ⊎ (n ≤ i)
below_or_not i n = grind arith

pub fits_dropped : (holds : ℕ → ℕ → Bool) (fills : ℕ → Bool) (old new : List Row) (holders : List ℕ) (index : ℕ)
    → Drops old new holders index
    → AreFirst holds (owner old) (stands old) → FitsRows holds fills old holders → FitsRows holds fills new holders
fits_dropped holds fills old new holders index d first f =
    let a = alike_end old new index d.same in
    let less : (g i : ℕ) → i < ends new g → i < ends old g = λ g i l. (let q = ends_fewer old new holders index g d in omega arith) in
    let h : HoldingFits holds fills (owner old) (kind old) (stands old) (links chains.All old) (links chains.Changes old)
    (links chains.Filled old) (begins old) (ends new) holders
    = record {
      own = f.own;
      opens = f.opens;
      changing = f.changing;
      filling = f.filling;
      suits = f.suits;
      entries = λ g i p q. f.entries g i p (less g i q);
      numbered = λ g i p q. f.numbered g i p (less g i q);
      covered = λ g x p l s w. (
          elim (f.covered g x p l s w) as (λ _. (stands old x ≡ false)
          ⊎ (IsEntry holds (owner old) holders (begins old g) (ends new g) x
          ⊎ (on_chain (kind old g) (owner old) (kind old) fills x g ≡ true))) [
            | inl e ↦ inl e
            | inr (inl e) ↦ (
                elim (below_or_not e.at (ends new g)) as (λ _. (stands old x ≡ false)
                ⊎ (IsEntry holds (owner old) holders (begins old g) (ends new g) x
                ⊎ (on_chain (kind old g) (owner old) (kind old) fills x g ≡ true))) [
                  | inl k ↦ inr (inl (record { at = e.at; behind = e.behind; within = k; leads = e.leads }))
                  | inr k ↦ inl (settled_entry holds (owner old) (stands old) (get_or holders e.at 0) x first
                      (f.numbered g e.at e.behind e.within) (dropped old new holders index g e.at d k e.within)
                      e.leads)
                ]
                )
            | inr (inr e) ↦ inr (inr e)
          ]
          );
    } in
    moved (owners old new a) (kinds_of old new a) (standing old new a) (links_end chains.All old new index d.same)
    (links_end chains.Changes old new index d.same) (links_end chains.Filled old new index d.same)
    (beginnings old new a) refl h

pub safe_dropped : (old new : List Row) (holders : List ℕ) (index : ℕ) → Drops old new holders index
    → begins old index ≤ ends new index → IsSafe old holders → IsSafe new holders
safe_dropped old new holders index d least i =
    let a = alike_end old new index d.same in
    let n : length new ≡ length old = d.same.count in
    record {
      descend = descend_end old new index d.same i.descend;
      listed = λ g l. (
          let was = i.listed g (subst (λ k. g < k) n l) in
          let b : begins new g ≡ begins old g = sym (ap (λ (f : ℕ → ℕ). f g) (beginnings old new a)) in
          let q = ends_fewer old new holders index g d in
          let x = was.ends in
          record {
            begins = begun g was.begins;
            ends = omega arith;
            each = λ j p r. subst (λ k. get_or holders j 0 < k) (sym n) (was.each j (omega arith) (omega arith));
            some = λ j p r. was.some j (omega arith) (omega arith);
          }
          );
      nought = sym (ap (λ (f : ℕ → Bool). f 0) (standing old new a)) ∙ i.nought;
      owned = λ g l. subst (λ k. k ≤ g) (ap (λ (f : ℕ → ℕ). f g) (owners old new a)) (i.owned g (subst (λ k. g < k) n l));
    }
  where
    begun : (g : ℕ) → begins old g ≤ ends old g → begins new g ≤ ends new g
    begun g h =
        let b : begins new g ≡ begins old g = sym (ap (λ (f : ℕ → ℕ). f g) (beginnings old new (alike_end old new index d.same))) in
        elim (two g index) as (λ _. begins new g ≤ ends new g) [
          | inl e ↦ subst (λ k. k ≤ ends new g) (sym b) (subst (λ k. begins old k ≤ ends new k) (sym e) least)
          | inr e ↦ (let q = ends_other old new index g d.same e in omega arith)
        ]

-- ---- nothing is found

pub none_found : (holds : ℕ → ℕ → Bool) (fills : ℕ → Bool) (old new : List Row) (holders : List ℕ) (g : ℕ)
    → FitsRows holds fills old holders → AreFirst holds (owner old) (stands old)
    → Drops old new holders g → ends new g ≤ begins old g → (owner old g ≡ g) ⊎ (stands old (owner old g) ≡ false)
    → ((h : ℕ) → 0 < h → h < g → on_chain (kind old g) (owner old) (kind old) fills h g ≡ true → stands old h ≡ false)
    → (h : ℕ) → 0 < h → HoldingHolder holds (owner old) (stands old) h g → ⊥
none_found holds fills old new holders g f first d empty create chain h p i =
    clash (stands old h) i.unsettled (elim i.why as (λ _. stands old h ≡ false) [ inl e ↦ by_create e | inr e ↦ by_cover e ])
  where
    by_create : h ≡ owner old g → stands old h ≡ false
    by_create e =
        elim create as (λ _. stands old h ≡ false) [
          | inl q ↦ absurd (let l = i.lower in omega arith)
          | inr q ↦ ap (λ n. stands old n) e ∙ q
        ]

    by_cover : holds h g ≡ true → stands old h ≡ false
    by_cover e =
        elim (f.covered g h p i.lower i.same e) as (λ _. stands old h ≡ false) [
          | inl q ↦ q
          | inr (inl q) ↦ settled_entry holds (owner old) (stands old) (get_or holders q.at 0) h first
              (f.numbered g q.at q.behind q.within) (d.settled q.at (let b = q.behind in omega arith) q.within) q.leads
          | inr (inr q) ↦ chain h p i.lower q
        ]

-- its create
pub create_holds : (holds : ℕ → ℕ → Bool) (fills : ℕ → Bool) (rows : List Row) (holders : List ℕ) (g : ℕ)
    → FitsRows holds fills rows holders → owner rows g < g → stands rows (owner rows g) ≡ true
    → HoldingHolder holds (owner rows) (stands rows) (owner rows g) g
create_holds holds fills rows holders g f l u = record { lower = l; unsettled = u; same = f.own g; why = inl refl }

-- the holder among the listed ones
pub listed_holds : (holds : ℕ → ℕ → Bool) (fills : ℕ → Bool) (rows : List Row) (holders : List ℕ) (g i : ℕ)
    → FitsRows holds fills rows holders → begins rows g ≤ i → i < ends rows g
    → stands rows (get_or holders i 0) ≡ true → HoldingHolder holds (owner rows) (stands rows) (get_or holders i 0) g
listed_holds holds fills rows holders g i f a b u =
    let e = f.entries g i a b in
    record { lower = e.0; unsettled = u; same = e.1; why = inr e.2 }
