-- The row of a create is the one that the model's client takes.
use Rattle.std.proofs.Common.{◌≡◌, ℕ, ◌+◌, ◌<◌, ◌≤◌, ◌^◌, ◌||◌, Bool, true, false, if◌then◌else◌, List, length}
use Rattle.std.proofs.Common.{refl, ap, sym, ◌∙◌, subst, arith, ◌⊎◌, inl, inr}
use Rattle.base_lists.specs.declared.watch_lists.Link.{Link as Watch}
use Rattle.spec_exchange.specs.Table.{put}
use Rattle.spec_exchange.specs.Operations.{Op, OpCreate, OpWrite, OpRead, OpEnd, OpTime, OpRename, OpRemove, OpLock}
use Rattle.spec_exchange.specs.Operations.{OpUnlock, OpFlush, OpStat, OpList, OpClose}
use Rattle.spec_exchange.specs.Operations.{NoOpen, Unsettled, charge, create_of, is_create, is_firm, is_unsettled, keeps_limits, weight}
use Rattle.spec_exchange.specs.Client.{Client, create_for, is_attached, is_gone, outcome_at_first, take_op}
use Rattle.spec_exchange.specs.Schedules.{cost}
use Rattle.law_client.specs.table.Kept.{TableKept}
use Rattle.client_values.specs.declared.operations.shapes.Shape.{Shape}
use Rattle.client_values.specs.declared.operations.shapes.Kind.TheVariants as kinds
use Rattle.client_values.specs.operations.Waiting.{at_of, kind_of, size_of}
use Rattle.client_rows.specs.declared.operation_rows.row.Row.{Row}
use Rattle.client_rows.proofs.operation_rows.Walking.{put_at, put_off}
use Rattle.client_values.specs.declared.outcomes.outcome.Outcome.{Outcome as Settled}
use Rattle.client_rows.specs.Shown.{ShowsRows}
use Rattle.client_tables.specs.settling.Shown.{outcome_by}
use Rattle.client_tables.specs.submits.Taken.{IsRowOf}
use Rattle.client_tables.specs.opens.Opened.{IsOpenOn}
use Rattle.client_tables.specs.whole_table.Shown.{TableBounds}
use Rattle.client_steps.specs.submits_on_opens.Rows.{fresh_row}
use Rattle.client_steps.proofs.submits_on_opens.Onto.{at_below, clash, next_is}

ways : (x y : ℕ) → (x ≡ y) ⊎ (x ≡ y → ⊥)
ways x y = grind arith

true_or_false : (b : Bool) → (b ≡ true) ⊎ (b ≡ false)
true_or_false true = inl refl
true_or_false false = inr refl

-- a create is on its own open
own_create : (g : ℕ) (op : Op) → is_create op ≡ true → create_of g op ≡ g
own_create g (OpCreate path access share disposition persist directory) e = refl
own_create g (OpWrite create at bytes) e = absurd (cc)
own_create g (OpRead create at size) e = absurd (cc)
own_create g (OpEnd create size) e = absurd (cc)
own_create g (OpTime create time) e = absurd (cc)
own_create g (OpRename create path) e = absurd (cc)
own_create g (OpRemove create) e = absurd (cc)
own_create g (OpLock create at m exclusive) e = absurd (cc)
own_create g (OpUnlock create at m) e = absurd (cc)
own_create g (OpFlush create) e = absurd (cc)
own_create g (OpStat create) e = absurd (cc)
own_create g (OpList create) e = absurd (cc)
own_create g (OpClose create) e = absurd (cc)

pub first_of : (c : Client) (n : ℕ) (op : Op) → is_create op ≡ true → outcome_at_first c n op ≡ Unsettled
first_of c n op e = ap (λ b. if b then Unsettled else if is_gone c (create_of n op) then NoOpen (create_of n op) else Unsettled) e

up_to : (g n t : ℕ) → g ≤ n → n ≡ t + 1 → (g ≡ n → ⊥) → g ≤ t
up_to g n t l e q = omega arith

same_least : (n : ℕ) → n ≤ n
same_least n = omega arith

not_below : (n : ℕ) → n < n → ⊥
not_below n l = omega arith

module _ (rows : List Row) (holders prices : List ℕ) (watchers : List Watch) (c : Client) (op : Op)
    (s : ShowsRows rows holders prices watchers c) (kept : TableKept c) (b : TableBounds c) (p : 0 < length rows)
    (made : is_create op ≡ true)
    (limits : keeps_limits op ≡ true) where
  pub next_one : length rows ≡ c.taken + 1
  next_one = next_is rows holders prices watchers c s p

  created : (g : ℕ) → 0 < g → g ≤ c.taken → 0 < create_for c g
  created g a h =
      elim (true_or_false (is_create (c.op g))) as (λ _. 0 < create_for c g) [
        | inl e ↦ subst (λ x. 0 < x) (sym (kept.ordered.itself g e)) a
        | inr e ↦ (kept.ordered.owned g a h e).0
      ]

  fits : (g : ℕ) → 0 < g → g ≤ length rows → at_of (put c.op (length rows) op g) < 2 ^ 64
  fits g a h =
      elim (ways g (length rows)) as (λ _. at_of (put c.op (length rows) op g) < 2 ^ 64) [
        | inl e ↦ subst (λ x. at_of x < 2 ^ 64) (sym (put_at c.op (length rows) op g e)) (at_below op limits)
        | inr e ↦ subst (λ x. at_of x < 2 ^ 64) (sym (put_off c.op (length rows) op g e))
            (at_below (c.op g) (b.limits g a (up_to g (length rows) c.taken h next_one e)))
      ]

  first_cost : cost (take_op c (length rows) op) (length rows) ≡ charge (weight op)
  first_cost =
      ap (λ (o : Op). if is_create o || is_attached c (create_of (length rows) o) then charge (weight o) else 1)
      (put_at c.op (length rows) op (length rows) refl)
      ∙ ap (λ x. if x || is_attached c (create_of (length rows) op) then charge (weight op) else 1) made

  module _ (shape : Shape) (number at : ℕ) (k : shape.kind ≡ kind_of op) (f : shape.at ≡ at_of op) (z : shape.size ≡ size_of op)
      (h : shape.charge ≡ charge (weight op)) (e : number ≡ length rows) where
    abbrev row : Row
    row = fresh_row shape shape.charge number at true

    row_of : IsRowOf row c (length rows) op
    row_of =
        record {
          kind_is = sym k;
          create_is = own_create (length rows) op made ∙ sym e;
          charge_is = sym h;
          unsettled_is = ap (λ x. is_unsettled x) (first_of c (length rows) op made);
          firm_is = ap (λ x. is_firm x) (first_of c (length rows) op made);
          cost_is = λ u. first_cost ∙ sym h;
          sent_is = refl;
          out_is = refl;
          asks_is = refl;
          unanswered_is = refl;
          sequence_is = refl;
          slot_is = refl;
          number_is = refl;
        }

    pub row_on_own : IsOpenOn rows c op (length rows) (length rows) shape row
    row_on_own =
        record {
          row = row_of;
          kind_is = refl;
          at_is = sym f;
          size_is = sym z;
          own = own_create (length rows) op made;
          some = p;
          below = same_least (length rows);
          itself = λ q. absurd (not_below (length rows) q);
          created = created;
          fits = fits;
          late = λ u. absurd (clash (is_unsettled (outcome_at_first c (length rows) op))
              (ap (λ x. is_unsettled x) (first_of c (length rows) op made)) u);
        }

pub first_so : (c : Client) (n : ℕ) (op : Op) (o : Settled) → is_create op ≡ true → outcome_at_first c n op ≡ outcome_by true o
first_so c n op o e = first_of c n op e

-- a create is no lock
pub create_no_lock : (op : Op) → is_create op ≡ true → kind_of op ≡ kinds.Lock → ⊥
create_no_lock (OpCreate path access share disposition persist directory) e k = absurd (cc)
create_no_lock (OpWrite create at bytes) e k = absurd (cc)
create_no_lock (OpRead create at size) e k = absurd (cc)
create_no_lock (OpEnd create size) e k = absurd (cc)
create_no_lock (OpTime create time) e k = absurd (cc)
create_no_lock (OpRename create path) e k = absurd (cc)
create_no_lock (OpRemove create) e k = absurd (cc)
create_no_lock (OpLock create at m exclusive) e k = absurd (cc)
create_no_lock (OpUnlock create at m) e k = absurd (cc)
create_no_lock (OpFlush create) e k = absurd (cc)
create_no_lock (OpStat create) e k = absurd (cc)
create_no_lock (OpList create) e k = absurd (cc)
create_no_lock (OpClose create) e k = absurd (cc)
