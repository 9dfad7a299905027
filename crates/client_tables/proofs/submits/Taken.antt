-- The rows with one more show the client that took it.
use Rattle.std.proofs.Common.{◌≡◌, ℕ, ◌+◌, ◌<◌, ◌≤◌, ◌==◌, ◌&&◌, ◌||◌, if◌then◌else◌, List, [], ◌∷◌, ◌++◌, length, ap, sym, ◌∙◌, arith}
use Rattle.std.proofs.Common.{subst, ◌⊎◌, inl, inr}
use Rattle.std.proofs.lemmas.Grind.{common_steps}
use Rattle.base_lists.specs.declared.watch_lists.Link.{Link as Watch}
use Rattle.spec_exchange.specs.Table.{put}
use Rattle.spec_exchange.specs.Operations.{Op, charge, create_of, holds_up, is_create, is_firm, is_unsettled, weight}
use Rattle.spec_exchange.specs.Client.{Client, outcome_at_first, take_op}
use Rattle.spec_exchange.specs.Schedules.{cost}
use Rattle.client_values.specs.operations.Waiting.{kind_of}
use Rattle.client_rows.specs.declared.operation_rows.row.Row.{Row}
use Rattle.client_rows.specs.operation_rows.Rows.{row_at, no_row, stands, owner, kind, costs}
use Rattle.client_rows.specs.operation_rows.Choosing.{RowCounts}
use Rattle.client_rows.specs.operation_rows.Holding.{IsSafe}
use Rattle.client_rows.specs.operation_rows.Moves.{StandsRows}
use Rattle.client_rows.proofs.operation_rows.Adding.{at_new, at_old, length_more}
use Rattle.client_rows.proofs.operation_rows.Walking.{put_at, put_off}
use Rattle.client_rows.specs.Shown.{RowShowsPlaces, ShowsRows, ShowsSends, fills_by, is_row_filled, waits_by}
use Rattle.client_tables.specs.submits.Taken.{IsRowOf}
use Rattle.client_tables.proofs.submits.Wider.{stands_by}

ways : (x y : ℕ) → (x ≡ y) ⊎ (x ≡ y → ⊥)
ways x y = grind arith

three : (x y : ℕ) → (x < y) ⊎ ((x ≡ y) ⊎ (y < x))
three x y = grind arith

beyond : (rows : List Row) (g : ℕ) → length rows ≤ g → row_at rows g ≡ no_row
beyond rows g l = grind (arith, common_steps)

module _ (rows : List Row) (r : Row) (c : Client) (op : Op) where
  abbrev pub more : List Row
  more = rows ++ r ∷ []

  abbrev pub n : ℕ
  n = length rows

  apart : (g : ℕ) → g < n → g ≡ n → ⊥
  apart g l e = omega arith

  -- the tests tell the same of what was there
  waits_same : (h g : ℕ) → h < n → g < n → waits_by (put c.op n op) h g ≡ waits_by c.op h g
  waits_same h g a b = λ t. holds_up (put_off c.op n op h (apart h a) t) (put_off c.op n op g (apart g b) t)

  fills_same : (h : ℕ) → h < n → fills_by (put c.op n op) h ≡ fills_by c.op h
  fills_same h a = ap (λ x. is_row_filled x) (put_off c.op n op h (apart h a))

  pub stand_same : (holders prices : List ℕ) (watchers : List Watch) → IsSafe rows holders → RowCounts rows prices watchers
      → ((h : ℕ) → 0 < h → h < n → 0 < owner rows h)
      → StandsRows (waits_by c.op) (fills_by c.op) rows holders prices watchers
      → StandsRows (waits_by (put c.op n op)) (fills_by (put c.op n op)) rows holders prices watchers
  stand_same holders prices watchers safe k o s = stands_by (waits_by c.op) (waits_by (put c.op n op)) (fills_by c.op)
      (fills_by (put c.op n op)) rows holders waits_same fills_same safe o prices watchers k s

  -- a column that is the same of a number that isn't taken
  col_more : {X : Type 0} (f : Row → X) (k : ℕ → X) → ((g : ℕ) → k g ≡ f (row_at rows g)) → f r ≡ f no_row
      → (g : ℕ) → k g ≡ f (row_at more g)
  col_more f k s e g =
      elim (ways g n) as (λ _. k g ≡ f (row_at more g)) [
        | inl q ↦ s g ∙ ap f (ap (λ i. row_at rows i) q ∙ beyond rows n (omega arith)) ∙ sym e ∙ sym (ap f (at_new rows r))
            ∙ ap (λ i. f (row_at more i)) (sym q)
        | inr q ↦ s g ∙ sym (ap f (at_old rows r g q))
      ]

  sends_more : IsRowOf r c n op
      → ShowsSends rows c.sent c.outstanding_on c.asks_attach c.unanswered c.sequence_of c.slot_of c.number_of
      → ShowsSends more c.sent c.outstanding_on c.asks_attach c.unanswered c.sequence_of c.slot_of c.number_of
  sends_more i s =
      record {
        sent_is = col_more (λ (w : Row). w.sent) c.sent s.sent_is i.sent_is;
        out_is = col_more (λ (w : Row). w.outstanding_on) c.outstanding_on s.out_is i.out_is;
        asks_is = col_more (λ (w : Row). w.asking) c.asks_attach s.asks_is i.asks_is;
        unanswered_is = col_more (λ (w : Row). w.unanswered) c.unanswered s.unanswered_is i.unanswered_is;
        sequence_is = col_more (λ (w : Row). w.sequence) c.sequence_of s.sequence_is i.sequence_is;
        slot_is = col_more (λ (w : Row). w.slot) c.slot_of s.slot_is i.slot_is;
        number_is = col_more (λ (w : Row). w.slot_number) c.number_of s.number_is i.number_is;
      }

  row_new : {X : Type 0} (f : Row → X) (g : ℕ) → g ≡ n → f (row_at more g) ≡ f r
  row_new f g q = ap (λ i. f (row_at more i)) q ∙ ap f (at_new rows r)

  row_old : {X : Type 0} (f : Row → X) (g : ℕ) → (g ≡ n → ⊥) → f (row_at more g) ≡ f (row_at rows g)
  row_old f g q = ap f (at_old rows r g q)

  lower : (g : ℕ) → n ≡ c.taken + 1 → g ≤ n → (g ≡ n → ⊥) → g ≤ c.taken
  lower g e l q =
      elim (three g n) as (λ _. g ≤ c.taken) [ inl k ↦ omega arith | inr (inl k) ↦ absurd (q k) | inr (inr k) ↦ absurd (omega arith) ]

  -- what one costs, by what it asks
  abbrev cost_by : ℕ → Op → ℕ
  cost_by g x = if is_create x || (c.live && (c.attached (create_of g x) == c.session_number)) then charge (weight x) else 1

  places_more : n ≡ c.taken + 1 → IsRowOf r c n op → RowShowsPlaces rows c.taken c.op c.outcome (λ g. cost c g)
      → RowShowsPlaces more n (put c.op n op) (put c.outcome n (outcome_at_first c n op)) (λ g. cost (take_op c n op) g)
  places_more e i s =
      let m = length_more rows r in
      record {
        has_row = λ g p l. omega arith;
        is_taken = λ g p l. omega arith;
        creates = λ g p l. (
            elim (ways g n) as (λ _. create_of g (put c.op n op g) ≡ owner more g) [
              | inl q ↦ (λ t. create_of (q t) (put_at c.op n op g q t)) ∙ i.create_is ∙ sym (row_new (λ (w : Row). w.create) g q)
              | inr q ↦ ap (λ x. create_of g x) (put_off c.op n op g q) ∙ s.creates g p (lower g e l q)
                  ∙ sym (row_old (λ (w : Row). w.create) g q)
            ]
            );
        kinds = λ g p l. (
            elim (ways g n) as (λ _. kind_of (put c.op n op g) ≡ kind more g) [
              | inl q ↦ ap (λ x. kind_of x) (put_at c.op n op g q) ∙ i.kind_is ∙ sym (row_new (λ (w : Row). w.kind) g q)
              | inr q ↦ ap (λ x. kind_of x) (put_off c.op n op g q) ∙ s.kinds g p (lower g e l q)
                  ∙ sym (row_old (λ (w : Row). w.kind) g q)
            ]
            );
        charges = λ g p l. (
            elim (ways g n) as (λ _. charge (weight (put c.op n op g)) ≡ (row_at more g).charge) [
              | inl q ↦ ap (λ x. charge (weight x)) (put_at c.op n op g q) ∙ i.charge_is ∙ sym (row_new (λ (w : Row). w.charge) g q)
              | inr q ↦ ap (λ x. charge (weight x)) (put_off c.op n op g q) ∙ s.charges g p (lower g e l q)
                  ∙ sym (row_old (λ (w : Row). w.charge) g q)
            ]
            );
        unsettled = λ g p l. (
            elim (ways g n) as (λ _. is_unsettled (put c.outcome n (outcome_at_first c n op) g) ≡ stands more g) [
              | inl q ↦ ap (λ x. is_unsettled x) (put_at c.outcome n (outcome_at_first c n op) g q) ∙ i.unsettled_is
                  ∙ sym (row_new (λ (w : Row). w.unsettled) g q)
              | inr q ↦ ap (λ x. is_unsettled x) (put_off c.outcome n (outcome_at_first c n op) g q) ∙ s.unsettled g p (lower g e l q)
                  ∙ sym (row_old (λ (w : Row). w.unsettled) g q)
            ]
            );
        firm_is = λ g p l. (
            elim (ways g n) as (λ _. is_firm (put c.outcome n (outcome_at_first c n op) g) ≡ (row_at more g).firm) [
              | inl q ↦ ap (λ x. is_firm x) (put_at c.outcome n (outcome_at_first c n op) g q) ∙ i.firm_is
                  ∙ sym (row_new (λ (w : Row). w.firm) g q)
              | inr q ↦ ap (λ x. is_firm x) (put_off c.outcome n (outcome_at_first c n op) g q) ∙ s.firm_is g p (lower g e l q)
                  ∙ sym (row_old (λ (w : Row). w.firm) g q)
            ]
            );
        pays = λ g p l u. (
            elim (ways g n) as (λ _. cost (take_op c n op) g ≡ costs more g) [
              | inl q ↦ ap (λ x. cost (take_op c n op) x) q ∙ i.cost_is (sym (row_new (λ (w : Row). w.unsettled) g q) ∙ u)
                  ∙ sym (row_new (λ (w : Row). w.cost) g q)
              | inr q ↦ ap (λ x. cost_by g x) (put_off c.op n op g q)
                  ∙ s.pays g p (lower g e l q) (sym (row_old (λ (w : Row). w.unsettled) g q) ∙ u)
                  ∙ sym (row_old (λ (w : Row). w.cost) g q)
            ]
            );
      }

  pub taken_shown : (holders prices prices2 : List ℕ) (watchers watchers2 : List Watch) → n ≡ c.taken + 1 → IsRowOf r c n op
      → ShowsRows rows holders prices watchers c
      → StandsRows (waits_by (put c.op n op)) (fills_by (put c.op n op)) more holders prices2 watchers2
      → ShowsRows more holders prices2 watchers2 (take_op c n op)
  taken_shown holders prices prices2 watchers watchers2 e i s t =
      record { places = places_more e i s.places; sends = sends_more i s.sends; stand = t }

-- ---- room is made

pub kept_shown : (rows new : List Row) (holders prices prices2 : List ℕ) (watchers watchers2 : List Watch) (c : Client) → new ≡ rows
    → ShowsRows rows holders prices watchers c → StandsRows (waits_by c.op) (fills_by c.op) new holders prices2 watchers2
    → ShowsRows new holders prices2 watchers2 c
kept_shown rows new holders prices prices2 watchers watchers2 c e s t =
    record {
      places = subst (λ (xs : List Row). RowShowsPlaces xs c.taken c.op c.outcome (λ g. cost c g)) (sym e) s.places;
      sends = subst (λ (xs : List Row). ShowsSends xs c.sent c.outstanding_on c.asks_attach c.unanswered c.sequence_of c.slot_of
          c.number_of) (sym e) s.sends;
      stand = t;
    }
