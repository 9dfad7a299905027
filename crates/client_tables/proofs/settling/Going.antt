-- Some settle, and all else of a row stays.
use Rattle.std.proofs.Common.{◌≡◌, ℕ, ◌<◌, Bool, false, List, length, set, refl, ap, sym, ◌∙◌, arith, ◌⊎◌, inl, inr}
use Rattle.client_rows.specs.declared.operation_rows.row.Row.{Row}
use Rattle.client_rows.specs.operation_rows.Rows.{row_at, stands}
use Rattle.client_rows.proofs.operation_rows.Walking.{count_same, row_here, row_there}
use Rattle.client_rows.proofs.operation_rows.Changing.{col_kept, settled_row}
use Rattle.client_tables.specs.settling.Shown.{GoesSettled}

ways : (x y : ℕ) → (x ≡ y) ⊎ (x ≡ y → ⊥)
ways x y = grind arith

kept_at : {X : Type 0} (f : Row → X) (rows : List Row) (x : ℕ) (r : Row) → x < length rows → f r ≡ f (row_at rows x)
    → (g : ℕ) → f (row_at (set rows x r) g) ≡ f (row_at rows g)
kept_at f rows x r h e g = sym (λ t. (col_kept f rows x r h e t) g)

pub goes_none : (rows : List Row) → GoesSettled rows rows
goes_none rows =
    record {
      count = refl;
      create = λ g. refl;
      opens = λ g. refl;
      kinds = λ g. refl;
      sent = λ g. refl;
      asks = λ g. refl;
      slots = λ g. refl;
      out = λ g. refl;
      settled = λ g e. e;
    }

pub goes_both : (a b c : List Row) → GoesSettled a b → GoesSettled b c → GoesSettled a c
goes_both a b c p q =
    record {
      count = q.count ∙ p.count;
      create = λ g. q.create g ∙ p.create g;
      opens = λ g. q.opens g ∙ p.opens g;
      kinds = λ g. q.kinds g ∙ p.kinds g;
      sent = λ g. q.sent g ∙ p.sent g;
      asks = λ g. q.asks g ∙ p.asks g;
      slots = λ g. q.slots g ∙ p.slots g;
      out = λ g. q.out g ∙ p.out g;
      settled = λ g e. q.settled g (p.settled g e);
    }

still : (rows : List Row) (x : ℕ) (firm : Bool) (g : ℕ) → x < length rows → stands rows g ≡ false
    → stands (set rows x (settled_row rows x firm)) g ≡ false
still rows x firm g h e =
    elim (ways g x) as (λ _. stands (set rows x (settled_row rows x firm)) g ≡ false) [
      | inl q ↦ ap (λ (r : Row). r.unsettled) (row_here rows x (settled_row rows x firm) g h q)
      | inr q ↦ ap (λ (r : Row). r.unsettled) (row_there rows x (settled_row rows x firm) g q) ∙ e
    ]

pub goes_one : (rows : List Row) (x : ℕ) (firm : Bool) → x < length rows → GoesSettled rows (set rows x (settled_row rows x firm))
goes_one rows x firm h =
    let r = settled_row rows x firm in
    record {
      count = count_same rows x r;
      create = kept_at (λ (w : Row). w.create) rows x r h refl;
      opens = kept_at (λ (w : Row). w.«open») rows x r h refl;
      kinds = kept_at (λ (w : Row). w.kind) rows x r h refl;
      sent = kept_at (λ (w : Row). w.sent) rows x r h refl;
      asks = kept_at (λ (w : Row). w.asking) rows x r h refl;
      slots = kept_at (λ (w : Row). w.slot) rows x r h refl;
      out = kept_at (λ (w : Row). w.outstanding_on) rows x r h refl;
      settled = λ g e. still rows x firm g h e;
    }
