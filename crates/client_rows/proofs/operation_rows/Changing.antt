-- A row changes, what waits for one is let go, and one settles.
use Rattle.std.proofs.Common.{◌≡◌, ℕ, ◌<◌, ◌≤◌, ◌^◌, Bool, false, List}
use Rattle.std.proofs.Common.{length, set, get_or, refl, ap, sym, ◌∙◌}
use Rattle.std.proofs.Common.{arith, subst, ◌⊎◌, inl, inr, is_some}
use Rattle.std.proofs.lemmas.List.{get_or-set_same, get_or-set_other}
use Rattle.client_values.specs.declared.operations.shapes.Kind.{Kind}
use Rattle.base_lists.specs.declared.watch_lists.Link.{Link as Watch}
use Rattle.base_lists.specs.watch_lists.Listed.{watches}
use Rattle.base_lists.specs.watch_lists.Watching.{put_watch}
use Rattle.client_rows.specs.declared.operation_rows.row.Row.{Row}
use Rattle.client_rows.specs.declared.operation_rows.chains.Chain.TheVariants as chains
use Rattle.client_rows.specs.operation_rows.Rows.{row_at, stands, owner, kind, begins, ends, is_out, costs, links}
use Rattle.client_rows.specs.operation_rows.Chains.{Descends, Chained}
use Rattle.client_rows.specs.operation_rows.Holding.{AreFirst, HoldingFits, FitsRows, HoldingHolder, IsSafe}
use Rattle.client_rows.specs.operation_rows.Holding.{holding_on_open, on_changes, on_filled}
use Rattle.client_rows.specs.operation_rows.Choosing.{RowCounts, price_of}
use Rattle.client_rows.specs.operation_rows.Moves.{IsSettled, KeepsPlace, StandsRows}
use Rattle.client_rows.proofs.operation_rows.Walking.{row_here, row_there, count_same}
use Rattle.client_rows.proofs.operation_rows.Columns.{moved}
use Rattle.client_rows.proofs.operation_rows.Finding.{length_set}

ways : (x y : ℕ) → (x ≡ y) ⊎ (x ≡ y → ⊥)
ways x y = grind arith

abbrev pub col : {X : Type 0} → (Row → X) → List Row → ℕ → X
col f rows g = f (row_at rows g)

pub col_kept : {X : Type 0} (f : Row → X) (rows : List Row) (x : ℕ) (r : Row) → x < length rows → f r
    ≡ f (row_at rows x) → col f rows ≡ col f (set rows x r)
col_kept f rows x r h e = λ t g. (at f rows x r h e g) t
  where
    at : {X : Type 0} (f : Row → X) (rows : List Row) (x : ℕ) (r : Row) → x < length rows → f r ≡ f (row_at rows x)
        → (g : ℕ) → col f rows g ≡ col f (set rows x r) g
    at f rows x r h e g =
        elim (ways g x) as (λ _. col f rows g ≡ col f (set rows x r) g) [
          | inl q ↦ ap (λ i. f (row_at rows i)) q ∙ sym e ∙ sym (ap f (row_here rows x r g h q))
          | inr q ↦ sym (ap f (row_there rows x r g q))
        ]

-- ---- a row that keeps its place

pub fits_changed : (holds : ℕ → ℕ → Bool) (fills : ℕ → Bool) (rows : List Row) (x : ℕ) (r : Row) (holders : List ℕ)
    → x < length rows → KeepsPlace (row_at rows x) r → FitsRows holds fills rows holders
    → FitsRows holds fills (set rows x r) holders
fits_changed holds fills rows x r holders h k f =
    moved (col_kept (λ (r : Row). r.create) rows x r h k.create) (col_kept (λ (r : Row). r.kind) rows x r h k.kind)
    (col_kept (λ (r : Row). r.unsettled) rows x r h k.unsettled)
    (col_kept (λ (r : Row). r.lower) rows x r h k.lower) (col_kept (λ (r : Row). r.change) rows x r h k.change)
    (col_kept (λ (r : Row). r.filled) rows x r h k.filled)
    (col_kept (λ (r : Row). r.holders) rows x r h k.holders) (col_kept (λ (r : Row). r.holders_end) rows x r h k.holders_end) f

pub safe_changed : (rows : List Row) (x : ℕ) (r : Row) (holders : List ℕ) → x < length rows → KeepsPlace (row_at rows x)
    r → IsSafe rows holders → IsSafe (set rows x r) holders
safe_changed rows x r holders h k i =
    let n = count_same rows x r in
    let two = set rows x r in
    let b = col_kept (λ (r : Row). r.holders) rows x r h k.holders in
    let e = col_kept (λ (r : Row). r.holders_end) rows x r h k.holders_end in
    record {
      descend = record {
        all = subst (λ (f : ℕ → ℕ). Descends f) (col_kept (λ (r : Row). r.lower) rows x r h k.lower) i.descend.all;
        changes = subst (λ (f : ℕ → ℕ). Descends f) (col_kept (λ (r : Row). r.change) rows x r h k.change) i.descend.changes;
        filled = subst (λ (f : ℕ → ℕ). Descends f) (col_kept (λ (r : Row). r.filled) rows x r h k.filled) i.descend.filled;
      };
      listed = λ g l. (
          let was = i.listed g (subst (λ z. g < z) n l) in
          let p : begins two g ≡ begins rows g = sym (ap (λ (f : ℕ → ℕ). f g) b) in
          let q : ends two g ≡ ends rows g = sym (ap (λ (f : ℕ → ℕ). f g) e) in
          let u = was.begins in
          let v = was.ends in
          record {
            begins = omega arith;
            ends = omega arith;
            each = λ j c d. subst (λ z. get_or holders j 0 < z) (sym n) (was.each j (omega arith) (omega arith));
            some = λ j c d. was.some j (omega arith) (omega arith);
          }
          );
      nought = sym (ap (λ (f : ℕ → Bool). f 0) (col_kept (λ (r : Row). r.unsettled) rows x r h k.unsettled)) ∙ i.nought;
      owned = λ g l. subst (λ z. z ≤ g) (ap (λ (f : ℕ → ℕ). f g) (col_kept (λ (r : Row). r.create) rows x r h k.create))
          (i.owned g (subst (λ z. g < z) n l));
    }

holder_along : (holds : ℕ → ℕ → Bool) (o o' : ℕ → ℕ) (u u' : ℕ → Bool) (b g : ℕ) → o ≡ o' → u ≡ u'
    → HoldingHolder holds o u b g → HoldingHolder holds o' u' b g
holder_along holds o o' u u' b g p q h = subst (λ (z : ℕ → ℕ). HoldingHolder holds z u' b g) p
    (subst (λ (z : ℕ → Bool). HoldingHolder holds o z b g) q h)

first_along : (holds : ℕ → ℕ → Bool) (o o' : ℕ → ℕ) (u u' : ℕ → Bool) → o ≡ o' → u ≡ u' → AreFirst holds o u → AreFirst holds o' u'
first_along holds o o' u u' p q h = subst (λ (z : ℕ → ℕ). AreFirst holds z u') p (subst (λ (z : ℕ → Bool). AreFirst holds o z) q h)

abbrev priced_row : Row → ℕ → ℕ
priced_row r w = price_of r.unsettled (is_some r.outstanding_on) w r.cost

-- prices behind a change of one row and of its price
priced_changed : (rows : List Row) (prices : List ℕ) (watch : ℕ → ℕ) (x v : ℕ) (r : Row) → x < length rows
    → length rows ≤ length prices → v ≡ priced_row r (watch x)
    → ((g : ℕ) → g < length rows → get_or prices g 0 ≡ priced_row (row_at rows g) (watch g)) → (g : ℕ)
    → g < length (set rows x r) → get_or (set prices x v) g 0 ≡ priced_row (row_at (set rows x r) g) (watch g)
priced_changed rows prices watch x v r h n e p g l =
    elim (ways g x) as (λ _. get_or (set prices x v) g 0 ≡ priced_row (row_at (set rows x r) g) (watch g)) [
      | inl q ↦ (
          let a : get_or (set prices x v) g 0 ≡ v = rw (q, get_or-set_same prices x v 0 (omega arith)) refl in
          a ∙ e ∙ ap (λ i. priced_row r (watch i)) (sym q) ∙ sym (ap (λ (s : Row). priced_row s (watch g)) (row_here rows x r g h q))
          )
      | inr q ↦ get_or-set_other prices x g v 0 q ∙ p g (subst (λ z. g < z) (count_same rows x r) l)
          ∙ sym (ap (λ (s : Row). priced_row s (watch g)) (row_there rows x r g q))
    ]

pub stands_changed : (holds : ℕ → ℕ → Bool) (fills : ℕ → Bool) (rows : List Row) (holders prices : List ℕ)
    (watchers : List Watch) (x v : ℕ) (r : Row) → x < length rows → RowCounts rows prices watchers
    → KeepsPlace (row_at rows x) r → v ≡ price_of r.unsettled (is_some r.outstanding_on) (watches watchers x) r.cost
    → StandsRows holds fills rows holders prices watchers → StandsRows holds fills (set rows x r) holders (set prices x v) watchers
stands_changed holds fills rows holders prices watchers x v r h c k e s =
    let o = col_kept (λ (r : Row). r.create) rows x r h k.create in
    let u = col_kept (λ (r : Row). r.unsettled) rows x r h k.unsettled in
    record {
      fits = fits_changed holds fills rows x r holders h k s.fits;
      first = first_along holds _ _ _ _ o u s.first;
      watched = λ g q. holder_along holds _ _ _ _ (watches watchers g) g o u (s.watched g q);
      priced = priced_changed rows prices (watches watchers) x v r h c.has_prices e s.priced;
    }

not_free : (u o : Bool) (w c : ℕ) → price_of u o w c < 255 → w ≡ 0
not_free u o w c h = grind arith

pub counts_changed : (rows : List Row) (prices : List ℕ) (watchers : List Watch) (x v : ℕ) (r : Row) → x < length rows
    → RowCounts rows prices watchers
    → v ≡ price_of r.unsettled (is_some r.outstanding_on) (watches watchers x) r.cost → RowCounts (set rows x r) (set prices x v) watchers
counts_changed rows prices watchers x v r h c e =
    let n = count_same rows x r in
    let m = length_set prices x v in
    let y = c.has_prices in
    let z = c.has_watchers in
    record {
      has_prices = omega arith;
      has_watchers = omega arith;
      few = c.few;
      apart = λ g l p. (
          elim (ways g x) as (λ _. (g < length (set rows x r)) × (watches watchers g ≡ 0)) [
            | inl q ↦ (
                let a : get_or (set prices x v) g 0 ≡ v = rw (q, get_or-set_same prices x v 0 (omega arith)) refl in
                let b : price_of r.unsettled (is_some r.outstanding_on) (watches watchers x) r.cost < 255 =
                subst (λ z. z < 255) (a ∙ e) p in (
                  omega arith,
                  ap (λ i. watches watchers i) q ∙ not_free r.unsettled (is_some r.outstanding_on)
                      (watches watchers x) r.cost b,
                )
                )
            | inr q ↦ (
                let w = c.apart g (subst (λ z. g < z) m l) (subst (λ z. z < 255) (get_or-set_other prices x g v 0 q) p) in
                (subst (λ z. g < z) (sym n) w.0, w.1)
                )
          ]
          );
      inside = λ g p. subst (λ z. g < z) (sym n) (c.inside g p);
    }

-- ---- what waits for one is let go

pub record Wakes (rows : List Row) (prices0 : List ℕ) (watchers0 : List Watch) (prices : List ℕ) (watchers : List Watch)
    (index below : ℕ) : Type 0 where
  pub counts : RowCounts rows prices watchers
  pub stay : (holds : ℕ → ℕ → Bool) (fills : ℕ → Bool) (holders : List ℕ) → StandsRows holds fills rows holders prices0
      watchers0 → StandsRows holds fills rows holders prices watchers
  pub lower : (g : ℕ) → watches watchers g ≡ index → g < below

pub wakes_begins : (rows : List Row) (prices : List ℕ) (watchers : List Watch) (index : ℕ) → 0 < index
    → RowCounts rows prices watchers → Wakes rows prices watchers prices watchers index (length rows)
wakes_begins rows prices watchers index p c =
    record {
      counts = c;
      stay = λ holds fills holders s. s;
      lower = λ g e. c.inside g (subst (λ z. 0 < z) (sym e) p);
    }

put_at : (f : ℕ → ℕ) (k v g : ℕ) → g ≡ k → put_watch f k v g ≡ v
put_at f k v g e = grind (arith, e)

put_off : (f : ℕ → ℕ) (k v g : ℕ) → (g ≡ k → ⊥) → put_watch f k v g ≡ f g
put_off f k v g e = grind (arith, e)

pub wakes_one : (rows : List Row) (prices0 : List ℕ) (watchers0 : List Watch) (prices : List ℕ)
    (watchers new : List Watch) (index below at v : ℕ) → Wakes rows prices0 watchers0 prices watchers index below
    → 0 < index
    → at < length rows → watches watchers at ≡ index → ((h : ℕ) → watches watchers h ≡ index → h ≤ at) → length new
    ≡ length watchers → ((g : ℕ) → watches new g ≡ put_watch (watches watchers) at 0 g)
    → v ≡ price_of (row_at rows at).unsettled (is_some (row_at rows at).outstanding_on) 0 (row_at rows at).cost
    → Wakes rows prices0 watchers0 (set prices at v) new index at
wakes_one rows prices0 watchers0 prices watchers new index below at v w p l e top n h q =
    let c = w.counts in
    let here : watches new at ≡ 0 = h at ∙ put_at (watches watchers) at 0 at refl in
    let off : (g : ℕ) → (g ≡ at → ⊥) → watches new g ≡ watches watchers g = λ g k. h g ∙ put_off (watches watchers) at 0 g k in
    record {
      counts = (
          let m = length_set prices at v in
          let y = c.has_prices in
          let z = c.has_watchers in
          record {
            has_prices = omega arith;
            has_watchers = omega arith;
            few = subst (λ z. z < 2 ^ 32) (sym n) c.few;
            apart = λ g a b. (
                elim (ways g at) as (λ _. (g < length rows) × (watches new g ≡ 0)) [
                  | inl k ↦ (omega arith, ap (λ i. watches new i) k ∙ here)
                  | inr k ↦ (
                      let x = c.apart g (subst (λ z. g < z) m a) (subst (λ z. z < 255) (get_or-set_other prices at g v 0 k) b) in
                      (x.0, off g k ∙ x.1)
                      )
                ]
                );
            inside = λ g a. (
                elim (ways g at) as (λ _. g < length rows) [
                  | inl k ↦ omega arith
                  | inr k ↦ c.inside g (subst (λ z. 0 < z) (off g k) a)
                ]
                );
          }
          );
      stay = λ holds fills holders s. (
          let now = w.stay holds fills holders s in
          record {
            fits = now.fits;
            first = now.first;
            watched = λ g a. (
                elim (ways g at) as (λ _. HoldingHolder holds (owner rows) (stands rows) (watches new g) g) [
                  | inl k ↦ absurd (let z : watches new g ≡ 0 = ap (λ i. watches new i) k ∙ here in omega arith)
                  | inr k ↦ subst (λ z. HoldingHolder holds (owner rows) (stands rows) z g) (sym (off g k))
                      (now.watched g (subst (λ z. 0 < z) (off g k) a))
                ]
                );
            priced = λ g a. (
                elim (ways g at) as (λ _. get_or (set prices at v) g 0 ≡ price_of (stands rows g) (is_out rows g)
                (watches new g) (costs rows g)) [
                  | inl k ↦ (
                      let y = c.has_prices in
                      let b : get_or (set prices at v) at 0 ≡ v = get_or-set_same prices at v 0 (omega arith) in
                      subst (λ i. get_or (set prices at v) i 0 ≡ price_of (stands rows i) (is_out rows i) (watches new i) (costs rows i))
                      (sym k) (b ∙ q ∙ ap (λ z. price_of (stands rows at) (is_out rows at) z (costs rows at)) (sym here))
                      )
                  | inr k ↦ get_or-set_other prices at g v 0 k ∙ now.priced g a
                      ∙ ap (λ z. price_of (stands rows g) (is_out rows g) z (costs rows g)) (sym (off g k))
                ]
                );
          }
          );
      lower = λ g a. (
          elim (ways g at) as (λ _. g < at) [
            | inl k ↦ absurd (let z : watches new g ≡ 0 = ap (λ i. watches new i) k ∙ here in omega arith)
            | inr k ↦ (let z = top g (sym (off g k) ∙ a) in grind arith)
          ]
          );
    }

pub rewatched : (holds : ℕ → ℕ → Bool) (fills : ℕ → Bool) (rows : List Row) (holders prices : List ℕ)
    (watchers new : List Watch) → ((g : ℕ) → watches new g ≡ watches watchers g)
    → StandsRows holds fills rows holders prices watchers → StandsRows holds fills rows holders prices new
rewatched holds fills rows holders prices watchers new h s =
    record {
      fits = s.fits;
      first = s.first;
      watched = λ g a. subst (λ z. HoldingHolder holds (owner rows) (stands rows) z g) (sym (h g))
          (s.watched g (subst (λ z. 0 < z) (h g) a));
      priced = λ g a. s.priced g a ∙ ap (λ z. price_of (stands rows g) (is_out rows g) z (costs rows g)) (sym (h g));
    }

pub recounted : (rows : List Row) (prices : List ℕ) (watchers new : List Watch) → length new ≡ length watchers
    → ((g : ℕ) → watches new g ≡ watches watchers g) → RowCounts rows prices watchers → RowCounts rows prices new
recounted rows prices watchers new n h c =
    record {
      has_prices = c.has_prices;
      has_watchers = subst (λ z. length rows ≤ z) (sym n) c.has_watchers;
      few = subst (λ z. z < 2 ^ 32) (sym n) c.few;
      apart = λ g a b. (let w = c.apart g a b in (w.0, h g ∙ w.1));
      inside = λ g a. c.inside g (subst (λ z. 0 < z) (h g) a);
    }

-- ---- one settles

abbrev pub settled_row : List Row → ℕ → Bool → Row
settled_row rows x firm = record (row_at rows x) { unsettled = false; firm = firm }

fewer_at : (rows : List Row) (x : ℕ) (firm : Bool) (g : ℕ) → x < length rows → stands rows g ≡ false
    → stands (set rows x (settled_row rows x firm)) g ≡ false
fewer_at rows x firm g h e =
    elim (ways g x) as (λ _. stands (set rows x (settled_row rows x firm)) g ≡ false) [
      | inl q ↦ ap (λ (r : Row). r.unsettled) (row_here rows x (settled_row rows x firm) g h q)
      | inr q ↦ ap (λ (r : Row). r.unsettled) (row_there rows x (settled_row rows x firm) g q) ∙ e
    ]

chained_fewer : (link : ℕ → ℕ) (on : ℕ → ℕ → Bool) (u u' : ℕ → Bool) → ((g : ℕ) → u g ≡ false → u' g ≡ false)
    → Chained link on u → Chained link on u'
chained_fewer link on u u' f c = record { gap = λ g h a b e. f h (c.gap g h a b e); same = c.same; is = c.is }

fits_fewer : (holds : ℕ → ℕ → Bool) (fills : ℕ → Bool) (o : ℕ → ℕ) (k : ℕ → Kind) (u u' : ℕ → Bool) (a c f b e : ℕ → ℕ)
    (holders : List ℕ) → ((g : ℕ) → u g ≡ false → u' g ≡ false)
    → HoldingFits holds fills o k u a c f b e holders → HoldingFits holds fills o k u' a c f b e holders
fits_fewer holds fills o k u u' a c f b e holders w i =
    record {
      own = i.own;
      opens = chained_fewer a (holding_on_open o) u u' w i.opens;
      changing = chained_fewer c (on_changes o k) u u' w i.changing;
      filling = chained_fewer f (on_filled o fills) u u' w i.filling;
      suits = i.suits;
      entries = i.entries;
      numbered = i.numbered;
      covered = λ g h p l s q. (elim (i.covered g h p l s q) [ inl z ↦ inl (w h z) | inr z ↦ inr z ]);
    }

pub stands_settled : (holds : ℕ → ℕ → Bool) (fills : ℕ → Bool) (rows : List Row) (holders prices : List ℕ)
    (watchers : List Watch) (x : ℕ) (firm : Bool) → x < length rows → RowCounts rows prices watchers
    → ((g : ℕ) → watches watchers g ≡ x → ⊥) → IsSettled holds rows x → StandsRows holds fills rows holders prices watchers
    → StandsRows holds fills (set rows x (settled_row rows x firm)) holders (set prices x 255) watchers
stands_settled holds fills rows holders prices watchers x firm h c none first s =
    let r = settled_row rows x firm in
    let two = set rows x r in
    let o = col_kept (λ (r : Row). r.create) rows x r h refl in
    let w : (g : ℕ) → stands rows g ≡ false → stands two g ≡ false = λ g e. fewer_at rows x firm g h e in
    let off : (g : ℕ) → (g ≡ x → ⊥) → stands two g ≡ stands rows g = λ g e. ap (λ (r : Row). r.unsettled) (row_there rows x r g e) in
    let less = fits_fewer holds fills (owner rows) (kind rows) (stands rows) (stands two) (links chains.All rows)
    (links chains.Changes rows) (links chains.Filled rows) (begins rows) (ends rows) holders w s.fits in
    record {
      fits =
          moved o (col_kept (λ (r : Row). r.kind) rows x r h refl) refl (col_kept (λ (r : Row). r.lower) rows x r h
          refl) (col_kept (λ (r : Row). r.change) rows x r h refl)
          (col_kept (λ (r : Row). r.filled) rows x r h refl) (col_kept (λ (r : Row). r.holders) rows x r h refl)
          (col_kept (λ (r : Row). r.holders_end) rows x r h refl) less;
      first = subst (λ (z : ℕ → ℕ). AreFirst holds z (stands two)) o (λ g y p e l q k. (
          elim (ways g x) as (λ _. stands two y ≡ false) [
            | inl z ↦ w y (first y (subst (λ i. y < i) z l) (q ∙ ap (λ i. owner rows i) z) (ap (λ i. holds y i) (sym z) ∙ k))
            | inr z ↦ w y (s.first g y p (sym (off g z) ∙ e) l q k)
          ]
          ));
      watched = λ g p. (
          let b = s.watched g p in
          subst (λ (z : ℕ → ℕ). HoldingHolder holds z (stands two) (watches watchers g) g) o (record {
            lower = b.lower;
            unsettled = off (watches watchers g) (none g) ∙ b.unsettled;
            same = b.same;
            why = b.why;
          })
          );
      priced = priced_changed rows prices (watches watchers) x 255 r h c.has_prices refl s.priced;
    }

pub safe_settled : (rows : List Row) (x : ℕ) (firm : Bool) (holders : List ℕ) → x < length rows → IsSafe rows holders
    → IsSafe (set rows x (settled_row rows x firm)) holders
safe_settled rows x firm holders h i =
    let r = settled_row rows x firm in
    let two = set rows x r in
    let n = count_same rows x r in
    let b = col_kept (λ (r : Row). r.holders) rows x r h refl in
    let e = col_kept (λ (r : Row). r.holders_end) rows x r h refl in
    record {
      descend = record {
        all = subst (λ (f : ℕ → ℕ). Descends f) (col_kept (λ (r : Row). r.lower) rows x r h refl) i.descend.all;
        changes = subst (λ (f : ℕ → ℕ). Descends f) (col_kept (λ (r : Row). r.change) rows x r h refl) i.descend.changes;
        filled = subst (λ (f : ℕ → ℕ). Descends f) (col_kept (λ (r : Row). r.filled) rows x r h refl) i.descend.filled;
      };
      listed = λ g l. (
          let was = i.listed g (subst (λ z. g < z) n l) in
          let p : begins two g ≡ begins rows g = sym (ap (λ (f : ℕ → ℕ). f g) b) in
          let q : ends two g ≡ ends rows g = sym (ap (λ (f : ℕ → ℕ). f g) e) in
          let u = was.begins in
          let v = was.ends in
          record {
            begins = omega arith;
            ends = omega arith;
            each = λ j c d. subst (λ z. get_or holders j 0 < z) (sym n) (was.each j (omega arith) (omega arith));
            some = λ j c d. was.some j (omega arith) (omega arith);
          }
          );
      nought = fewer_at rows x firm 0 h i.nought;
      owned = λ g l. subst (λ z. z ≤ g) (ap (λ (f : ℕ → ℕ). f g) (col_kept (λ (r : Row). r.create) rows x r h refl))
          (i.owned g (subst (λ z. g < z) n l));
    }

pub counts_settled : (rows : List Row) (prices : List ℕ) (watchers : List Watch) (x : ℕ) (firm : Bool) → x < length rows
    → RowCounts rows prices watchers → RowCounts (set rows x (settled_row rows x firm)) (set prices x 255) watchers
counts_settled rows prices watchers x firm h c = counts_changed rows prices watchers x 255 (settled_row rows x firm) h c refl
