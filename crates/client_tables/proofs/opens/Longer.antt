-- Rows beside a list that goes on: no stretch of a row reaches into what is new.
use Rattle.std.proofs.Common.{◌≡◌, ℕ, ◌<◌, ◌≤◌, ◌+◌, Bool, true, false, List, [], ◌∷◌, ◌++◌, length, take, get_or, refl}
use Rattle.std.proofs.Common.{ap, sym, ◌∙◌, arith, subst}
use Rattle.std.proofs.Common.{◌⊎◌, inl, inr}
use Rattle.std.proofs.lemmas.Grind.{common_steps}
use Rattle.base_lists.specs.range_index.Tops.{RangeGoesOn}
use Rattle.base_lists.specs.declared.watch_lists.Link.{Link as Watch}
use Rattle.spec_exchange.specs.Client.{Client}
use Rattle.client_rows.specs.declared.operation_rows.row.Row.{Row}
use Rattle.client_rows.specs.operation_rows.Rows.{row_at, no_row, stands, owner, kind, begins, ends}
use Rattle.client_rows.specs.operation_rows.Holding.{FitsRows, IsEntry, IsSafe, Leads, on_chain}
use Rattle.client_rows.specs.operation_rows.Moves.{StandsRows}
use Rattle.client_rows.specs.Shown.{ShowsRows, fills_by, waits_by}

below_or_not : (i n : ℕ) → (i < n) ⊎ (n ≤ i)
below_or_not i n = grind arith

beyond : (rows : List Row) (g : ℕ) → length rows ≤ g → row_at rows g ≡ no_row
beyond rows g l = grind (arith, common_steps)

append_none : (xs : List ℕ) → xs ≡ xs ++ []
append_none xs = grind (arith, common_steps)

front_of : (xs ys : List ℕ) (i : ℕ) → i < length xs → get_or (xs ++ ys) i 0 ≡ get_or xs i 0
front_of xs ys i l = grind (arith, common_steps)

length_both : (xs ys : List ℕ) → length (xs ++ ys) ≡ length xs + length ys
length_both xs ys = grind (arith, common_steps)

-- a list that only went on is as it was once it is cut
take_front : (xs ys : List ℕ) → take (length xs) (xs ++ ys) ≡ xs
take_front [] ys = refl
take_front (x ∷ xs) ys = ap (λ (l : List ℕ). x ∷ l) (take_front xs ys)

pub cut_back : (old new : List ℕ) → RangeGoesOn old new → take (length old) new ≡ old
cut_back old new w = ap (λ (l : List ℕ). take (length old) l) w.1 ∙ take_front old w.0

pub goes_back : (old new : List ℕ) → new ≡ old → RangeGoesOn old new
goes_back old new e = ([], e ∙ append_none old)

module _ (rows : List Row) (holders more : List ℕ) (safe : IsSafe rows holders) where
  inside : (g i : ℕ) → i < ends rows g → i < length holders
  inside g i l =
      elim (below_or_not g (length rows)) as (λ _. i < length holders) [
        | inl q ↦ (let e = (safe.listed g q).ends in omega arith)
        | inr q ↦ absurd (let z : ends rows g ≡ 0 = ap (λ (r : Row). r.holders_end) (beyond rows g q) in omega arith)
      ]

  same_at : (g i : ℕ) → i < ends rows g → get_or (holders ++ more) i 0 ≡ get_or holders i 0
  same_at g i l = front_of holders more i (inside g i l)

  fits_longer : (holds : ℕ → ℕ → Bool) (fills : ℕ → Bool) → FitsRows holds fills rows holders → FitsRows holds fills rows (holders ++ more)
  fits_longer holds fills f =
      record {
        own = f.own;
        opens = f.opens;
        changing = f.changing;
        filling = f.filling;
        suits = f.suits;
        entries = λ g i a b. subst (λ z. (z < g) × (owner rows z ≡ owner rows g) × (holds z g ≡ true))
            (sym (same_at g i b)) (f.entries g i a b);
        numbered = λ g i a b. subst (λ z. 0 < z) (sym (same_at g i b)) (f.numbered g i a b);
        covered = λ g h p l s w. (
            elim (f.covered g h p l s w) as (λ _. (stands rows h ≡ false) ⊎ (IsEntry holds (owner rows) (holders ++ more) (begins rows g)
            (ends rows g) h ⊎ (on_chain (kind rows g) (owner rows) (kind rows) fills h g ≡ true))) [
              | inl z ↦ inl z
              | inr (inl z) ↦ inr (inl (record {
                at = z.at;
                behind = z.behind;
                within = z.within;
                leads = subst (λ y. Leads holds (owner rows) h y) (sym (same_at g z.at z.within)) z.leads;
              }))
              | inr (inr z) ↦ inr (inr z)
            ]
            );
      }

  pub safe_longer : IsSafe rows (holders ++ more)
  safe_longer =
      let n = length_both holders more in
      record {
        descend = safe.descend;
        listed = λ g l. (
            let s = safe.listed g l in
            let e = s.ends in
            record {
              begins = s.begins;
              ends = omega arith;
              each = λ i a b. subst (λ z. z < length rows) (sym (same_at g i b)) (s.each i a b);
              some = λ i a b. subst (λ z. 0 < z) (sym (same_at g i b)) (s.some i a b);
            }
            );
        nought = safe.nought;
        owned = safe.owned;
      }

  stands_longer : (holds : ℕ → ℕ → Bool) (fills : ℕ → Bool) (prices : List ℕ) (watchers : List Watch)
      → StandsRows holds fills rows holders prices watchers → StandsRows holds fills rows (holders ++ more) prices watchers
  stands_longer holds fills prices watchers s =
      record { fits = fits_longer holds fills s.fits; first = s.first; watched = s.watched; priced = s.priced }

  pub shows_longer : (prices : List ℕ) (watchers : List Watch) (c : Client) → ShowsRows rows holders prices watchers c
      → ShowsRows rows (holders ++ more) prices watchers c
  shows_longer prices watchers c s =
      record { places = s.places; sends = s.sends; stand = stands_longer (waits_by c.op) (fills_by c.op) prices watchers s.stand }
