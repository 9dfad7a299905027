-- What is outstanding of some is lost, and where each stands stays.
use Rattle.std.proofs.Common.{◌≡◌, ℕ, ◌+◌, ◌<◌, ◌≤◌, Bool, true, false, List, length, set, take, get_or, refl, ap, sym, ◌∙◌}
use Rattle.std.proofs.Common.{arith, ◌⊎◌, inl, inr, is_some, None}
use Rattle.std.proofs.lemmas.List.{take_all, take_more}
use Rattle.spec_exchange.specs.Table.{has}
use Rattle.client_rows.specs.declared.operation_rows.row.Row.{Row}
use Rattle.client_rows.specs.operation_rows.Rows.{row_at, is_out}
use Rattle.client_rows.proofs.operation_rows.Walking.{count_same, row_here, row_there}
use Rattle.client_rows.proofs.operation_rows.Changing.{col_kept}
use Rattle.client_tables.specs.cuts.Cutting.{CutLoses}
use Rattle.client_tables.proofs.cuts.Columns.{has_other, true_or_false}

ways : (x y : ℕ) → (x ≡ y) ⊎ (x ≡ y → ⊥)
ways x y = grind arith

kept_at : {X : Type 0} (f : Row → X) (rows : List Row) (x : ℕ) (r : Row) → x < length rows → f r ≡ f (row_at rows x)
    → (g : ℕ) → f (row_at (set rows x r) g) ≡ f (row_at rows g)
kept_at f rows x r h e g = sym (λ t. (col_kept f rows x r h e t) g)

pub loses_none : (rows : List Row) → CutLoses rows rows
loses_none rows =
    record {
      count = refl;
      create = λ g. refl;
      opens = λ g. refl;
      kinds = λ g. refl;
      unsettled = λ g. refl;
      sent = λ g. refl;
      asks = λ g. refl;
      slots = λ g. refl;
      out = λ g e. e;
    }

pub loses_both : (a b c : List Row) → CutLoses a b → CutLoses b c → CutLoses a c
loses_both a b c p q =
    record {
      count = q.count ∙ p.count;
      create = λ g. q.create g ∙ p.create g;
      opens = λ g. q.opens g ∙ p.opens g;
      kinds = λ g. q.kinds g ∙ p.kinds g;
      unsettled = λ g. q.unsettled g ∙ p.unsettled g;
      sent = λ g. q.sent g ∙ p.sent g;
      asks = λ g. q.asks g ∙ p.asks g;
      slots = λ g. q.slots g ∙ p.slots g;
      out = λ g e. p.out g (q.out g e);
    }

lost_out : (rows : List Row) (x : ℕ) (r : Row) (g : ℕ) → x < length rows → r.outstanding_on ≡ None
    → is_out (set rows x r) g ≡ true → is_out rows g ≡ true
lost_out rows x r g h n e =
    elim (ways g x) as (λ _. is_out rows g ≡ true) [
      | inl q ↦ absurd (clash (is_out (set rows x r) g) e
          (ap (λ (w : Row). is_some w.outstanding_on) (row_here rows x r g h q) ∙ ap (λ o. is_some o) n))
      | inr q ↦ sym (ap (λ (w : Row). is_some w.outstanding_on) (row_there rows x r g q)) ∙ e
    ]
  where
    clash : (b : Bool) → b ≡ true → b ≡ false → ⊥
    clash b p q = absurd (cc)

pub loses_one : (rows : List Row) (x : ℕ) (b : Bool) → x < length rows
    → CutLoses rows (set rows x (record (row_at rows x) { outstanding_on = None; unanswered = b }))
loses_one rows x b h =
    let r : Row = record (row_at rows x) { outstanding_on = None; unanswered = b } in
    record {
      count = count_same rows x r;
      create = kept_at (λ (w : Row). w.create) rows x r h refl;
      opens = kept_at (λ (w : Row). w.«open») rows x r h refl;
      kinds = kept_at (λ (w : Row). w.kind) rows x r h refl;
      unsettled = kept_at (λ (w : Row). w.unsettled) rows x r h refl;
      sent = kept_at (λ (w : Row). w.sent) rows x r h refl;
      asks = kept_at (λ (w : Row). w.asking) rows x r h refl;
      slots = kept_at (λ (w : Row). w.slot) rows x r h refl;
      out = λ g e. lost_out rows x r g h refl e;
    }

-- ---- nothing is outstanding any more

stays_none : (a b : Bool) → (a ≡ true → b ≡ true) → b ≡ false → a ≡ false
stays_none true b h e = absurd (let t = h refl in cc)
stays_none false b h e = refl

pub false_true : false ≡ true → ⊥
false_true e = absurd (cc)

pub lost_here : (rows new : List Row) (x : ℕ) (b : Bool) → x < length rows
    → new ≡ set rows x (record (row_at rows x) { outstanding_on = None; unanswered = b }) → is_out new x ≡ false
lost_here rows new x b h e =
    let r : Row = record (row_at rows x) { outstanding_on = None; unanswered = b } in
    ap (λ (z : List Row). is_out z x) e ∙ ap (λ (w : Row). is_some w.outstanding_on) (row_here rows x r x h refl)

-- of the front of a list, with the next one
pub none_next : (old new : List Row) (xs : List ℕ) (i : ℕ) → i < length xs → CutLoses old new → is_out new (get_or xs i 0) ≡ false
    → ((g : ℕ) → has g (take i xs) ≡ true → is_out old g ≡ false) → (g : ℕ) → has g (take (i + 1) xs) ≡ true → is_out new g ≡ false
none_next old new xs i l s n h g e =
    elim (ways g (get_or xs i 0)) as (λ _. is_out new g ≡ false) [
      | inl q ↦ ap (λ y. is_out new y) q ∙ n
      | inr q ↦ stays_none (is_out new g) (is_out old g) (s.out g)
          (h g (sym (has_other g (get_or xs i 0) (take i xs) q) ∙ ap (λ (z : List ℕ). has g z) (sym (take_more xs i 0 l)) ∙ e))
    ]

pub none_whole : (old new : List Row) (xs : List ℕ) (i : ℕ) → length xs ≤ i → CutLoses old new
    → ((g : ℕ) → has g (take i xs) ≡ true → is_out new g ≡ false) → ((g : ℕ) → is_out old g ≡ true → has g xs ≡ true)
    → (g : ℕ) → is_out new g ≡ false
none_whole old new xs i l s h w g =
    elim (true_or_false (is_out old g)) as (λ _. is_out new g ≡ false) [
      | inl e ↦ h g (ap (λ (z : List ℕ). has g z) (take_all i xs l) ∙ w g e)
      | inr e ↦ stays_none (is_out new g) (is_out old g) (s.out g) e
    ]
