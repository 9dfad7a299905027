-- Rows that stand right by some tests stand right by others that tell the same of what has rows.
use Rattle.std.proofs.Common.{◌≡◌, ℕ, ◌<◌, ◌≤◌, ◌==◌, ◌&&◌, Bool, true, false, List, length, get_or, refl, ap, sym, ◌∙◌, arith}
use Rattle.std.proofs.Common.{◌⊎◌, inl, inr}
use Rattle.std.proofs.lemmas.Grind.{common_steps}
use Rattle.client_values.specs.declared.operations.shapes.Kind.{Kind}
use Rattle.client_values.specs.declared.operations.shapes.Kind.TheVariants as kinds
use Rattle.base_lists.specs.declared.watch_lists.Link.{Link as Watch}
use Rattle.base_lists.specs.watch_lists.Listed.{watches}
use Rattle.client_rows.specs.declared.operation_rows.row.Row.{Row}
use Rattle.client_rows.specs.declared.operation_rows.chains.Chain.TheVariants as chains
use Rattle.client_rows.specs.operation_rows.Rows.{row_at, no_row, stands, owner, kind, begins, ends, links}
use Rattle.client_rows.specs.operation_rows.Chains.{Chained}
use Rattle.client_rows.specs.operation_rows.Choosing.{RowCounts}
use Rattle.client_rows.specs.operation_rows.Holding.{AreFirst, FitsRows, IsEntry, IsSafe, Leads, on_chain, on_filled}
use Rattle.client_rows.specs.operation_rows.Moves.{StandsRows}
use Rattle.client_rows.proofs.operation_rows.Holding.{same_of}

below_or_not : (i n : ℕ) → (i < n) ⊎ (n ≤ i)
below_or_not i n = grind arith

clash : (b : Bool) → b ≡ true → b ≡ false → ⊥
clash b h k = absurd (cc)

pub such_of : (x y : ℕ) (b : Bool) → ((x == y) && b) ≡ true → b ≡ true
such_of x y b e = grind arith

pub both : (x y : ℕ) (b : Bool) → x ≡ y → b ≡ true → ((x == y) && b) ≡ true
both x y b e f = grind arith

beyond : (rows : List Row) (g : ℕ) → length rows ≤ g → row_at rows g ≡ no_row
beyond rows g l = grind (arith, common_steps)

pub chain_by : (k : Kind) (o : ℕ → ℕ) (d : ℕ → Kind) (fills fills2 : ℕ → Bool) (h g : ℕ) → fills2 h ≡ fills h
    → on_chain k o d fills2 h g ≡ on_chain k o d fills h g
chain_by kinds.Create o d fills fills2 h g e = refl
chain_by kinds.Write o d fills fills2 h g e = refl
chain_by kinds.Read o d fills fills2 h g e = refl
chain_by kinds.End o d fills fills2 h g e = refl
chain_by kinds.Change o d fills fills2 h g e = refl
chain_by kinds.Lock o d fills fills2 h g e = refl
chain_by kinds.Look o d fills fills2 h g e = ap (λ b. ((o h) == (o g)) && b) e
chain_by kinds.List o d fills fills2 h g e = refl
chain_by kinds.Close o d fills fills2 h g e = refl

module _ (holds holds2 : ℕ → ℕ → Bool) (fills fills2 : ℕ → Bool) (rows : List Row) (holders : List ℕ)
    (same : (h g : ℕ) → h < length rows → g < length rows → holds2 h g ≡ holds h g)
    (alike : (h : ℕ) → h < length rows → fills2 h ≡ fills h) (safe : IsSafe rows holders)
    (owned : (h : ℕ) → 0 < h → h < length rows → 0 < owner rows h) where
  no_stand : (h : ℕ) → length rows ≤ h → stands rows h ≡ false
  no_stand h l = ap (λ (r : Row). r.unsettled) (beyond rows h l)

  no_owner : (h : ℕ) → length rows ≤ h → owner rows h ≡ 0
  no_owner h l = ap (λ (r : Row). r.create) (beyond rows h l)

  -- what has no row is on no one's open
  apart : (g h : ℕ) → length rows ≤ g → owner rows h ≡ owner rows g → stands rows h ≡ false
  apart g h l e =
      elim (below_or_not h (length rows)) as (λ _. stands rows h ≡ false) [
        | inr q ↦ no_stand h q
        | inl q ↦ (
            elim (below_or_not 0 h) as (λ _. stands rows h ≡ false) [
              | inl p ↦ absurd (let a = owned h p q in let b = e ∙ no_owner g l in omega arith)
              | inr p ↦ (let z : h ≡ 0 = omega arith in ap (λ i. stands rows i) z ∙ safe.nought)
            ]
            )
      ]

  filling_by : Chained (links chains.Filled rows) (on_filled (owner rows) fills) (stands rows)
      → Chained (links chains.Filled rows) (on_filled (owner rows) fills2) (stands rows)
  filling_by c =
      record {
        gap = λ g h a b e. (
            elim (below_or_not h (length rows)) as (λ _. stands rows h ≡ false) [
              | inr q ↦ no_stand h q
              | inl q ↦ c.gap g h a b (both (owner rows h) (owner rows g) (fills h)
                  (same_of (owner rows h) (owner rows g) (fills2 h) e)
                  (sym (alike h q) ∙ such_of (owner rows h) (owner rows g) (fills2 h) e))
            ]
            );
        same = λ g p h. (let e = own g p in λ t. ((owner rows h) == (e t)) && fills2 h);
        is = λ g p. (
            let l : links chains.Filled rows g < length rows = inside g p in
            both (owner rows (links chains.Filled rows g)) (owner rows g) (fills2 (links chains.Filled rows g)) (own g p)
            (alike (links chains.Filled rows g) l ∙ such_of (owner rows (links chains.Filled rows g)) (owner rows g)
            (fills (links chains.Filled rows g)) (c.is g p))
            );
      }
    where
      own : (g : ℕ) → 0 < links chains.Filled rows g → owner rows (links chains.Filled rows g) ≡ owner rows g
      own g p = same_of (owner rows (links chains.Filled rows g)) (owner rows g) (fills (links chains.Filled rows g)) (c.is g p)

      inside : (g : ℕ) → 0 < links chains.Filled rows g → links chains.Filled rows g < length rows
      inside g p =
          elim (below_or_not g (length rows)) as (λ _. links chains.Filled rows g < length rows) [
            | inl q ↦ (let d = safe.descend.filled g in omega arith)
            | inr q ↦ absurd (let z : links chains.Filled rows g ≡ 0 = ap (λ (r : Row). r.filled) (beyond rows g q) in omega arith)
          ]

  leads_by : (h l : ℕ) → l < length rows → Leads holds (owner rows) h l → Leads holds2 (owner rows) h l
  leads_by h l a (inl e) = inl e
  leads_by h l a (inr e) = (let b = e.0 in inr (e.0, e.1, same h l (omega arith) a ∙ e.2))

  pub fits_by : FitsRows holds fills rows holders → FitsRows holds2 fills2 rows holders
  fits_by f =
      record {
        own = f.own;
        opens = f.opens;
        changing = f.changing;
        filling = filling_by f.filling;
        suits = λ h g l e. (
            elim (below_or_not g (length rows)) as (λ _. (h ≡ owner rows g) ⊎ (holds2 h g ≡ true)) [
              | inl q ↦ (
                  let p : h < length rows = omega arith in
                  elim (f.suits h g l (sym (chain_by (kind rows g) (owner rows) (kind rows) fills fills2 h g (alike h p)) ∙ e))
                  as (λ _. (h ≡ owner rows g) ⊎ (holds2 h g ≡ true)) [ inl z ↦ inl z | inr z ↦ inr (same h g p q ∙ z) ]
                  )
              | inr q ↦ absurd (clash (on_chain (kind rows g) (owner rows) (kind rows) fills2 h g) e
                  (ap (λ (r : Row). on_chain r.kind (owner rows) (kind rows) fills2 h g) (beyond rows g q)))
            ]
            );
        entries = λ g i a b. (
            let e = f.entries g i a b in
            let l = e.0 in
            elim (below_or_not g (length rows)) as (λ _. (get_or holders i 0 < g) × (owner rows (get_or holders i 0) ≡ owner rows g)
            × (holds2 (get_or holders i 0) g ≡ true)) [
              | inl q ↦ (e.0, e.1, same (get_or holders i 0) g (omega arith) q ∙ e.2)
              | inr q ↦ absurd (let z : ends rows g ≡ 0 = ap (λ (r : Row). r.holders_end) (beyond rows g q) in omega arith)
            ]
            );
        numbered = f.numbered;
        covered = λ g h p l s w. (
            elim (below_or_not g (length rows)) as (λ _. (stands rows h ≡ false) ⊎ (IsEntry holds2 (owner rows) holders (begins rows g)
            (ends rows g) h ⊎ (on_chain (kind rows g) (owner rows) (kind rows) fills2 h g ≡ true))) [
              | inr q ↦ inl (apart g h q s)
              | inl q ↦ (
                  let m : h < length rows = omega arith in
                  elim (f.covered g h p l s (sym (same h g m q) ∙ w)) as (λ _. (stands rows h ≡ false) ⊎ (IsEntry holds2 (owner rows)
                  holders (begins rows g) (ends rows g) h ⊎ (on_chain (kind rows g) (owner rows) (kind rows) fills2 h g ≡ true))) [
                    | inl z ↦ inl z
                    | inr (inl z) ↦ (
                        let y = (f.entries g z.at z.behind z.within).0 in
                        inr (inl (record {
                          at = z.at;
                          behind = z.behind;
                          within = z.within;
                          leads = leads_by h (get_or holders z.at 0) (omega arith) z.leads;
                        }))
                        )
                    | inr (inr z) ↦ inr (inr (chain_by (kind rows g) (owner rows) (kind rows) fills fills2 h g (alike h m) ∙ z))
                  ]
                  )
            ]
            );
      }

  first_by : AreFirst holds (owner rows) (stands rows) → AreFirst holds2 (owner rows) (stands rows)
  first_by f g h p e l s w =
      elim (below_or_not g (length rows)) as (λ _. stands rows h ≡ false) [
        | inl q ↦ f g h p e l s (sym (same h g (omega arith) q) ∙ w)
        | inr q ↦ apart g h q s
      ]

  pub stands_by : (prices : List ℕ) (watchers : List Watch) → RowCounts rows prices watchers
      → StandsRows holds fills rows holders prices watchers → StandsRows holds2 fills2 rows holders prices watchers
  stands_by prices watchers c s =
      record {
        fits = fits_by s.fits;
        first = first_by s.first;
        watched = λ g p. (
            let b = s.watched g p in
            let l = c.inside g p in
            let k = b.lower in
            record {
              lower = b.lower;
              unsettled = b.unsettled;
              same = b.same;
              why = elim b.why as (λ _. (watches watchers g ≡ owner rows g) ⊎ (holds2 (watches watchers g) g ≡ true)) [
                | inl e ↦ inl e
                | inr e ↦ inr (same (watches watchers g) g (omega arith) l ∙ e)
              ];
            }
            );
        priced = s.priced;
      }
