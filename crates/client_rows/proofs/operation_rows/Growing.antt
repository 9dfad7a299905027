-- Prices and watchers may reach further than the rows.
use Rattle.std.proofs.Common.{◌≡◌, ℕ, ◌<◌, ◌≤◌, ◌^◌, Bool, List, [], ◌∷◌, ◌++◌, length, set, get_or, refl, ap, ◌∙◌, arith}
use Rattle.std.proofs.Common.{subst, ◌⊎◌, inl, inr, Result, Ok, Err, OnErr}
use Rattle.std.proofs.lemmas.Grind.{common_steps}
use Rattle.std.proofs.lemmas.List.{get_or-set_other}
use Rattle.base_lists.specs.declared.watch_lists.Link.{Link as Watch}
use Rattle.base_lists.specs.watch_lists.Listed.{no_link, watches}
use Rattle.base_lists.proofs.watch_lists.Columns.{link_more}
use Rattle.client_rows.specs.declared.operation_rows.row.Row.{Row}
use Rattle.client_rows.specs.operation_rows.Choosing.{RowCounts}
use Rattle.client_rows.specs.operation_rows.Moves.{StandsRows}
use Rattle.client_rows.specs.operation_rows.Taking.{Grew}
use Rattle.client_rows.proofs.operation_rows.Adding.{length_more}
use Rattle.client_rows.proofs.operation_rows.Changing.{rewatched}
use Rattle.client_rows.proofs.operation_rows.Finding.{length_set}

below_or_not : (i n : ℕ) → (i < n) ⊎ (n ≤ i)
below_or_not i n = grind arith

ways : (x y : ℕ) → (x ≡ y) ⊎ (x ≡ y → ⊥)
ways x y = grind arith

pub grew_none : (prices : List ℕ) → Grew prices prices
grew_none prices = record { more = omega arith; kept = λ g l. refl; never = λ g l k. absurd (omega arith) }

at_end : (prices : List ℕ) (g : ℕ) → length prices ≤ g → g < length (prices ++ 255 ∷ []) → get_or (prices ++ 255 ∷ []) g 0 ≡ 255
at_end prices g l k = grind (arith, common_steps)

at_front : (prices : List ℕ) (g : ℕ) → g < length prices → get_or (prices ++ 255 ∷ []) g 0 ≡ get_or prices g 0
at_front prices g l = grind (arith, common_steps)

longer : (prices : List ℕ) → length prices ≤ length (prices ++ 255 ∷ [])
longer prices = grind (arith, common_steps)

pub grew_one : (prices : List ℕ) → Grew prices (prices ++ 255 ∷ [])
grew_one prices = record { more = longer prices; kept = at_front prices; never = at_end prices }

pub watch_more : (watchers : List Watch) (g : ℕ) → watches (watchers ++ no_link ∷ []) g ≡ watches watchers g
watch_more watchers g = ap (λ (r : Watch). r.watch) (link_more watchers g)

pub counts_grown : (rows : List Row) (prices grown : List ℕ) (watchers spread : List Watch) → RowCounts rows prices watchers
    → Grew prices grown → length watchers ≤ length spread → length spread < 2 ^ 32
    → ((g : ℕ) → watches spread g ≡ watches watchers g) → RowCounts rows grown spread
counts_grown rows prices grown watchers spread c w l f h =
    let m = w.more in
    let x = c.has_prices in
    let y = c.has_watchers in
    record {
      has_prices = omega arith;
      has_watchers = omega arith;
      few = f;
      apart = λ g a b. (
          elim (below_or_not g (length prices)) as (λ _. (g < length rows) × (watches spread g ≡ 0)) [
            | inl k ↦ (let v = c.apart g k (subst (λ z. z < 255) (w.kept g k) b) in (v.0, h g ∙ v.1))
            | inr k ↦ absurd (let e = w.never g k a in omega arith)
          ]
          );
      inside = λ g a. c.inside g (subst (λ z. 0 < z) (h g) a);
    }

pub stands_grown : (holds : ℕ → ℕ → Bool) (fills : ℕ → Bool) (rows : List Row) (holders prices grown : List ℕ)
    (watchers spread : List Watch) → RowCounts rows prices watchers → Grew prices grown
    → ((g : ℕ) → watches spread g ≡ watches watchers g)
    → StandsRows holds fills rows holders prices watchers → StandsRows holds fills rows holders grown spread
stands_grown holds fills rows holders prices grown watchers spread c w h s =
    let x = c.has_prices in
    rewatched holds fills rows holders grown watchers spread h (record {
      fits = s.fits;
      first = s.first;
      watched = s.watched;
      priced = λ g l. w.kept g (omega arith) ∙ s.priced g l;
    })

nought : (x : ℕ) → (0 < x → ⊥) → x ≡ 0
nought x h = elim (below_or_not 0 x) as (λ _. x ≡ 0) [ inl k ↦ absurd (h k) | inr k ↦ omega arith ]

-- and one row more has its price
pub counts_more : (rows : List Row) (r : Row) (prices : List ℕ) (watchers : List Watch) (v : ℕ) → RowCounts rows prices watchers
    → length rows < length prices → length rows < length watchers → RowCounts (rows ++ r ∷ []) (set prices (length rows) v) watchers
counts_more rows r prices watchers v c p q =
    let m = length_more rows r in
    let k = length_set prices (length rows) v in
    record {
      has_prices = omega arith;
      has_watchers = omega arith;
      few = c.few;
      apart = λ g a b. (
          elim (ways g (length rows)) as (λ _. (g < length (rows ++ r ∷ [])) × (watches watchers g ≡ 0)) [
            | inl e ↦ (
              omega arith,
              nought (watches watchers g) (λ z. (let i = c.inside g z in omega arith)),
            )
            | inr e ↦ (
                let w = c.apart g (omega arith) (subst (λ z. z < 255) (get_or-set_other prices (length rows) g v 0 e) b) in
                (let z = w.0 in omega arith, w.1)
                )
          ]
          );
      inside = λ g a. (let i = c.inside g a in omega arith);
    }

-- ---- what is left where memory runs out

pub on_err : {T E P : Type 0} (r : Result T E) → P → OnErr r P
on_err (Ok x) p = tt
on_err (Err e) p = p
