-- The first price that is paid, of an operation that nothing holds up, is the lowest that goes.
use Rattle.std.proofs.Common.{◌≡◌, ℕ, ◌+◌, ◌<◌, ◌≤◌, ◌^◌, ◌==◌, Bool, true, false, if◌then◌else◌, List, length}
use Rattle.std.proofs.Common.{set, get_or, refl, ap, sym, ◌∙◌}
use Rattle.std.proofs.Common.{arith, subst, ◌⊎◌, inl, inr, is_some}
use Rattle.std.proofs.lemmas.Grind.{common_steps}
use Rattle.std.proofs.lemmas.List.{get_or-set_same, get_or-set_other}
use Rattle.base_lists.specs.price_table.Prices.{AllAbove, IsFirstPrice}
use Rattle.base_lists.specs.declared.watch_lists.Link.{Link as Watch}
use Rattle.base_lists.specs.watch_lists.Listed.{watches}
use Rattle.base_lists.specs.watch_lists.Watching.{put_watch}
use Rattle.client_rows.specs.declared.operation_rows.row.Row.{Row}
use Rattle.client_rows.specs.operation_rows.Rows.{stands, owner, is_out}
use Rattle.client_rows.specs.operation_rows.Holding.{Alike, AreFirst, FitsRows, HoldingHolder, IsSafe}
use Rattle.client_rows.specs.operation_rows.Choosing.{AllStay, RowCounts, IsLeast, RowStands, RowStays, price_of}
use Rattle.client_rows.proofs.operation_rows.Columns.{alike_itself, alike_then, owners, standing}

two : (x y : ℕ) → (x ≡ y) ⊎ (x ≡ y → ⊥)
two x y = grind arith

below_or_not : (i n : ℕ) → (i < n) ⊎ (n ≤ i)
below_or_not i n = grind arith

-- ---- by its price

dear : (u o : Bool) (w cost credits : ℕ) → credits < 255 → credits < price_of u o w cost → (u ≡ false)
    ⊎ ((o ≡ true) ⊎ ((credits < cost) ⊎ (0 < w)))
dear u o w cost credits f h = grind arith

cheap : (u o : Bool) (w cost credits : ℕ) → credits < 255 → price_of u o w cost ≤ credits → (u ≡ true) × (o ≡ false) × (cost ≤ credits)
cheap true true w cost credits f h = absurd (omega arith)
cheap true false w cost credits f h = (refl, refl, low w cost credits f h)
  where
    low : (w cost credits : ℕ) → credits < 255 → (if w == 0 then cost else 255) ≤ credits → cost ≤ credits
    low w cost credits f h = grind arith
cheap false o w cost credits f h = absurd (omega arith)

watched_price : (u o : Bool) (w cost : ℕ) → 0 < w → price_of u o w cost ≡ 255
watched_price u o w cost h = grind arith

-- ---- over alike rows

outs : (old new : List Row) → Alike old new → is_out old ≡ is_out new
outs old new a = λ t g. is_some (sym (a.row g) t).outstanding_on

pub holder_of_old : (holds : ℕ → ℕ → Bool) (old new : List Row) (b g : ℕ) → Alike old new → HoldingHolder holds (owner new)
    (stands new) b g → HoldingHolder holds (owner old) (stands old) b g
holder_of_old holds old new b g a h =
    subst (λ (z : ℕ → ℕ). HoldingHolder holds z (stands old) b g) (sym (owners old new a))
    (subst (λ (z : ℕ → Bool). HoldingHolder holds (owner new) z b g) (sym (standing old new a)) h)

pub holder_of_new : (holds : ℕ → ℕ → Bool) (old new : List Row) (b g : ℕ) → Alike old new → HoldingHolder holds (owner old)
    (stands old) b g → HoldingHolder holds (owner new) (stands new) b g
holder_of_new holds old new b g a h =
    subst (λ (z : ℕ → ℕ). HoldingHolder holds z (stands new) b g) (owners old new a)
    (subst (λ (z : ℕ → Bool). HoldingHolder holds (owner old) z b g) (standing old new a) h)

stays_old : (holds : ℕ → ℕ → Bool) (cost : ℕ → ℕ) (credits : ℕ) (old new : List Row) (g : ℕ) → Alike old new
    → RowStays holds cost credits new g → RowStays holds cost credits old g
stays_old holds cost credits old new g a (inl e) = inl (ap (λ (f : ℕ → Bool). f g) (standing old new a) ∙ e)
stays_old holds cost credits old new g a (inr (inl e)) = inr (inl (ap (λ (f : ℕ → Bool). f g) (outs old new a) ∙ e))
stays_old holds cost credits old new g a (inr (inr (inl e))) = inr (inr (inl e))
stays_old holds cost credits old new g a (inr (inr (inr e))) = inr (inr (inr (e.0, e.1, holder_of_old holds old new e.0 g a e.2)))

-- ---- the walk

pub record Finds (old : List Row) (holders oldp : List ℕ) (oldw : List Watch) (rows : List Row) (prices : List ℕ)
    (watchers : List Watch) (start from credits : ℕ) : Type 0 where
  pub begun : start ≤ from
  pub above : 0 < from
  pub alike : Alike old rows
  pub safe : IsSafe rows holders
  pub counts : RowCounts rows prices watchers
  pub stay : (holds : ℕ → ℕ → Bool) (fills : ℕ → Bool) (cost : ℕ → ℕ) → RowStands holds fills cost old holders oldp oldw
      → RowStands holds fills cost rows holders prices watchers
  pub passed : (holds : ℕ → ℕ → Bool) (fills : ℕ → Bool) (cost : ℕ → ℕ) → RowStands holds fills cost old holders oldp oldw
      → AllStay holds cost credits old start from

pub finds_begins : (rows : List Row) (holders prices : List ℕ) (watchers : List Watch) (start credits : ℕ) → 0 < start
    → IsSafe rows holders → RowCounts rows prices watchers → Finds rows holders prices watchers rows prices watchers start
    start credits
finds_begins rows holders prices watchers start credits p i c =
    record {
      begun = omega arith;
      above = p;
      alike = alike_itself rows;
      safe = i;
      counts = c;
      stay = λ holds fills cost s. s;
      passed = λ holds fills cost s g a b. absurd (omega arith);
    }

too_dear : (holds : ℕ → ℕ → Bool) (fills : ℕ → Bool) (cost : ℕ → ℕ) (rows : List Row) (holders prices : List ℕ)
    (watchers : List Watch) (credits g : ℕ) → RowStands holds fills cost rows holders prices watchers
    → credits < 255 → g < length rows → credits < get_or prices g 0 → RowStays holds cost credits rows g
too_dear holds fills cost rows holders prices watchers credits g s few l k =
    elim (dear (stands rows g) (is_out rows g) (watches watchers g) (cost g) credits few
    (subst (λ n. credits < n) (s.priced g l) k)) as (λ _. RowStays holds cost credits rows g) [
      | inl e ↦ inl e
      | inr (inl e) ↦ inr (inl e)
      | inr (inr (inl e)) ↦ inr (inr (inl e))
      | inr (inr (inr e)) ↦ inr (inr (inr (watches watchers g, e, s.watched g e)))
    ]

-- up to the first that is paid
up_to : (holds : ℕ → ℕ → Bool) (fills : ℕ → Bool) (cost : ℕ → ℕ) (old : List Row) (holders oldp : List ℕ)
    (oldw : List Watch) (rows : List Row) (prices : List ℕ) (watchers : List Watch) (start from credits end : ℕ)
    → Finds old holders oldp oldw rows prices watchers start from credits → credits < 255 → end ≤ length rows
    → ((i : ℕ) → from ≤ i → i < end → credits < get_or prices i 0)
    → RowStands holds fills cost old holders oldp oldw → AllStay holds cost credits old start end
up_to holds fills cost old holders oldp oldw rows prices watchers start from credits end f few inside above s g a b =
    let n = f.counts.has_prices in
    elim (below_or_not g from) as (λ _. RowStays holds cost credits old g) [
      | inl k ↦ f.passed holds fills cost s g a k
      | inr k ↦ stays_old holds cost credits old rows g f.alike (too_dear holds fills cost rows holders prices watchers
          credits g (f.stay holds fills cost s) few (omega arith) (above g k b))
    ]

pub finds_none : (old : List Row) (holders oldp : List ℕ) (oldw : List Watch) (rows : List Row) (prices : List ℕ)
    (watchers : List Watch) (start from credits : ℕ)
    → Finds old holders oldp oldw rows prices watchers start from credits → credits < 255 → AllAbove credits prices from (length prices)
    → (holds : ℕ → ℕ → Bool) (fills : ℕ → Bool) (cost : ℕ → ℕ) → RowStands holds fills cost old holders oldp oldw
    → AllStay holds cost credits old start (length old)
finds_none old holders oldp oldw rows prices watchers start from credits f few h holds fills cost s g a b =
    let n = f.counts.has_prices in
    let m = f.alike.count in
    up_to holds fills cost old holders oldp oldw rows prices watchers start from credits (length rows) f few
    (omega arith) (λ i p q. h i p (omega arith)) s g a (omega arith)

pub finds_over : (old : List Row) (holders oldp : List ℕ) (oldw : List Watch) (rows : List Row) (prices : List ℕ)
    (watchers : List Watch) (start from credits : ℕ)
    → Finds old holders oldp oldw rows prices watchers start from credits → length rows ≤ from
    → (holds : ℕ → ℕ → Bool) (fills : ℕ → Bool) (cost : ℕ → ℕ) → RowStands holds fills cost old holders oldp oldw
    → AllStay holds cost credits old start (length old)
finds_over old holders oldp oldw rows prices watchers start from credits f l holds fills cost s g a b =
    let m = f.alike.count in f.passed holds fills cost s g a (omega arith)

-- what is paid for has a row
paid_inside : (rows : List Row) (prices : List ℕ) (watchers : List Watch) (from credits g : ℕ) → RowCounts rows prices watchers
    → credits < 255 → IsFirstPrice credits prices from g → g < length rows
paid_inside rows prices watchers from credits g c few i = (c.apart g i.within (let k = i.paid in omega arith)).0

-- nothing holds up the first that is paid
pub finds_one : (old : List Row) (holders oldp : List ℕ) (oldw : List Watch) (rows : List Row) (prices : List ℕ)
    (watchers : List Watch) (start from credits g : ℕ)
    → Finds old holders oldp oldw rows prices watchers start from credits → credits < 255 → IsFirstPrice credits prices from g
    → (holds : ℕ → ℕ → Bool) (fills : ℕ → Bool) (cost : ℕ → ℕ)
    → ((h : ℕ) → 0 < h → HoldingHolder holds (owner rows) (stands rows) h g → ⊥) → RowStands holds fills cost old holders oldp
    oldw → IsLeast holds cost credits old start g
finds_one old holders oldp oldw rows prices watchers start from credits g f few i holds fills cost free s =
    let l = paid_inside rows prices watchers from credits g f.counts few i in
    let b = i.behind in
    let q = f.begun in
    let now = f.stay holds fills cost s in
    let c = cheap (stands rows g) (is_out rows g) (watches watchers g) (cost g) credits few
    (subst (λ k. k ≤ credits) (now.priced g l) i.paid) in
    record {
      behind = omega arith;
      lower = up_to holds fills cost old holders oldp oldw rows prices watchers start from credits g f few (omega arith) i.above s;
      unsettled = ap (λ (z : ℕ → Bool). z g) (standing old rows f.alike) ∙ c.0;
      apart = ap (λ (z : ℕ → Bool). z g) (outs old rows f.alike) ∙ c.1;
      paid = c.2;
      free = λ h p k. free h p (holder_of_new holds old rows h g f.alike k);
    }

-- ---- one is found to wait, and noted so

watched_at : (watchers new : List Watch) (index b g : ℕ) → ((x : ℕ) → watches new x ≡ put_watch (watches watchers) index b x)
    → g ≡ index → watches new g ≡ b
watched_at watchers new index b g h e = h g ∙ at (watches watchers) index b g e
  where
    at : (f : ℕ → ℕ) (k v g : ℕ) → g ≡ k → put_watch f k v g ≡ v
    at f k v g e = grind (arith, e)

watched_off : (watchers new : List Watch) (index b g : ℕ) → ((x : ℕ) → watches new x ≡ put_watch (watches watchers) index b x)
    → (g ≡ index → ⊥) → watches new g ≡ watches watchers g
watched_off watchers new index b g h e = h g ∙ off (watches watchers) index b g e
  where
    off : (f : ℕ → ℕ) (k v g : ℕ) → (g ≡ k → ⊥) → put_watch f k v g ≡ f g
    off f k v g e = grind (arith, e)

pub length_set : (prices : List ℕ) (i v : ℕ) → length (set prices i v) ≡ length prices
length_set prices i v = grind (arith, common_steps)

counts_noted : (rows two : List Row) (prices : List ℕ) (watchers new : List Watch) (index b : ℕ)
    → RowCounts rows prices watchers → Alike rows two → index < length rows → length new ≡ length watchers
    → ((x : ℕ) → watches new x ≡ put_watch (watches watchers) index b x) → RowCounts two (set prices index 255) new
counts_noted rows two prices watchers new index b c a l n h =
    let e = length_set prices index 255 in
    let m = a.count in
    let x = c.has_prices in
    let y = c.has_watchers in
    record {
      has_prices = omega arith;
      has_watchers = omega arith;
      few = subst (λ k. k < 2 ^ 32) (sym n) c.few;
      apart = λ g p q. (
          elim (two_ways g) as (λ _. (g < length two) × (watches new g ≡ 0)) [
            | inl i ↦ absurd (let v : get_or (set prices index 255) g 0
                ≡ 255 = rw (i, get_or-set_same prices index 255 0 (omega arith)) refl in
                omega arith)
            | inr i ↦ (
                let w = c.apart g (subst (λ k. g < k) e p) (subst (λ k. k < 255) (get_or-set_other prices index g 255 0 i) q) in
                (subst (λ k. g < k) (sym m) w.0, watched_off watchers new index b g h i ∙ w.1)
                )
          ]
          );
      inside = λ g p. (
          elim (two_ways g) as (λ _. g < length two) [
            | inl i ↦ (let z = i in omega arith)
            | inr i ↦ subst (λ k. g < k) (sym m) (c.inside g (subst (λ k. 0 < k) (watched_off watchers new index b g h i) p))
          ]
          );
    }
  where
    two_ways : (g : ℕ) → (g ≡ index) ⊎ (g ≡ index → ⊥)
    two_ways g = grind arith

first_new : (holds : ℕ → ℕ → Bool) (old new : List Row) → Alike old new → AreFirst holds (owner old) (stands old)
    → AreFirst holds (owner new) (stands new)
first_new holds old new a h =
    subst (λ (z : ℕ → ℕ). AreFirst holds z (stands new)) (owners old new a)
    (subst (λ (z : ℕ → Bool). AreFirst holds (owner old) z) (standing old new a) h)

stands_noted : (holds : ℕ → ℕ → Bool) (fills : ℕ → Bool) (cost : ℕ → ℕ) (rows two : List Row) (holders prices : List ℕ)
    (watchers new : List Watch) (index b : ℕ) → RowStands holds fills cost rows holders prices watchers
    → length rows ≤ length prices → Alike rows two → index < length rows → 0 < b → FitsRows holds fills two holders
    → HoldingHolder holds (owner rows) (stands rows) b index
    → ((x : ℕ) → watches new x ≡ put_watch (watches watchers) index b x) → RowStands holds fills cost two holders (set prices index 255) new
stands_noted holds fills cost rows two holders prices watchers new index b s n a l p fits held h =
    record {
      fits = fits;
      first = first_new holds rows two a s.first;
      watched = λ g k. (
          elim (ways g) as (λ _. HoldingHolder holds (owner two) (stands two) (watches new g) g) [
            | inl e ↦ (let v = watched_at watchers new index b g h e in
                subst (λ x. HoldingHolder holds (owner two) (stands two) x g) (sym v)
                (subst (λ x. HoldingHolder holds (owner two) (stands two) b x) (sym e)
                (holder_of_new holds rows two b index a held)))
            | inr e ↦ (
                let v = watched_off watchers new index b g h e in
                subst (λ x. HoldingHolder holds (owner two) (stands two) x g) (sym v)
                (holder_of_new holds rows two (watches watchers g) g a (s.watched g (subst (λ x. 0 < x) v k)))
                )
          ]
          );
      priced = λ g k. (
          elim (ways g) as (λ _. get_or (set prices index 255) g 0 ≡ price_of (stands two g) (is_out two g) (watches new g) (cost g)) [
            | inl e ↦ (
                let v = watched_at watchers new index b g h e in
                let t : get_or (set prices index 255) g 0
                ≡ 255 = rw (e, get_or-set_same prices index 255 0 (omega arith)) refl in
                t ∙ sym (watched_price (stands two g) (is_out two g) (watches new g) (cost g) (subst (λ z. 0 < z) (sym v) p))
                )
            | inr e ↦ (
                let v = watched_off watchers new index b g h e in
                get_or-set_other prices index g 255 0 e ∙ s.priced g (subst (λ z. g < z) a.count k)
                ∙ (λ t. price_of ((standing rows two a) t g) ((outs rows two a) t g) ((sym v) t) (cost g))
                )
          ]
          );
    }
  where
    ways : (g : ℕ) → (g ≡ index) ⊎ (g ≡ index → ⊥)
    ways g = grind arith

pub finds_held : (old : List Row) (holders oldp : List ℕ) (oldw : List Watch) (rows two : List Row) (prices : List ℕ)
    (watchers new : List Watch) (start from credits g b : ℕ)
    → Finds old holders oldp oldw rows prices watchers start from credits → credits < 255 → IsFirstPrice credits prices from
    g → Alike rows two → IsSafe two holders → 0 < b
    → ((holds : ℕ → ℕ → Bool) (fills : ℕ → Bool) → FitsRows holds fills rows holders → 0 < b
    → HoldingHolder holds (owner rows) (stands rows) b g)
    → ((holds : ℕ → ℕ → Bool) (fills : ℕ → Bool) → FitsRows holds fills rows holders → AreFirst holds (owner rows)
    (stands rows) → FitsRows holds fills two holders)
    → length new ≡ length watchers → ((x : ℕ) → watches new x ≡ put_watch (watches watchers) g b x)
    → Finds old holders oldp oldw two (set prices g 255) new start (g + 1) credits
finds_held old holders oldp oldw rows two prices watchers new start from credits g b f few i a safe p some fits n h =
    let c = f.counts.has_prices in
    let k = i.behind in
    let q = f.begun in
    let l = paid_inside rows prices watchers from credits g f.counts few i in
    record {
      begun = omega arith;
      above = omega arith;
      alike = alike_then old rows two f.alike a;
      safe = safe;
      counts = counts_noted rows two prices watchers new g b f.counts a l n h;
      stay = λ holds fills cost s. (let now = f.stay holds fills cost s in stands_noted holds fills cost rows two
          holders prices watchers new g b now c a l p (fits holds fills now.fits now.first)
          (some holds fills now.fits p) h);
      passed = λ holds fills cost s x d e. (
          elim (ways x) as (λ _. RowStays holds cost credits old x) [
            | inl z ↦ inr (inr (inr (
              b,
              p,
              subst (λ y. HoldingHolder holds (owner old) (stands old) b y) (sym z)
                  (holder_of_old holds old rows b g f.alike (some holds fills (f.stay holds fills cost s).fits p)),
            )))
            | inr z ↦ up_to holds fills cost old holders oldp oldw rows prices watchers start from credits g f few
                (omega arith) i.above s x d (omega arith)
          ]
          );
    }
  where
    ways : (x : ℕ) → (x ≡ g) ⊎ (x ≡ g → ⊥)
    ways x = grind arith

-- ---- what is left behind

pub finds_stands : (old : List Row) (holders oldp : List ℕ) (oldw : List Watch) (rows two : List Row) (prices : List ℕ)
    (watchers : List Watch) (start from credits : ℕ)
    → Finds old holders oldp oldw rows prices watchers start from credits → Alike rows two
    → ((holds : ℕ → ℕ → Bool) (fills : ℕ → Bool) → FitsRows holds fills rows holders → AreFirst holds (owner rows)
    (stands rows) → FitsRows holds fills two holders)
    → (holds : ℕ → ℕ → Bool) (fills : ℕ → Bool) (cost : ℕ → ℕ) → RowStands holds fills cost old holders oldp oldw
    → RowStands holds fills cost two holders prices watchers
finds_stands old holders oldp oldw rows two prices watchers start from credits f a fits holds fills cost s =
    let now = f.stay holds fills cost s in
    record {
      fits = fits holds fills now.fits now.first;
      first = first_new holds rows two a now.first;
      watched = λ g k. holder_of_new holds rows two (watches watchers g) g a (now.watched g k);
      priced = λ g k. now.priced g (subst (λ z. g < z) a.count k)
          ∙ (λ t. price_of ((standing rows two a) t g) ((outs rows two a) t g) (watches watchers g) (cost g));
    }

pub finds_counts : (rows two : List Row) (prices : List ℕ) (watchers : List Watch) → RowCounts rows prices watchers
    → Alike rows two → RowCounts two prices watchers
finds_counts rows two prices watchers c a =
    record {
      has_prices = subst (λ k. k ≤ length prices) (sym a.count) c.has_prices;
      has_watchers = subst (λ k. k ≤ length watchers) (sym a.count) c.has_watchers;
      few = c.few;
      apart = λ g p q. (let w = c.apart g p q in (subst (λ k. g < k) (sym a.count) w.0, w.1));
      inside = λ g p. subst (λ k. g < k) (sym a.count) (c.inside g p);
    }
