-- What operations cost without a session.
use Rattle.std.proofs.Common.{◌≡◌, ℕ, ◌+◌, ◌<◌, ◌≤◌, ◌&&◌, ◌||◌, nat_le, nat_lt, Bool, true, false, if◌then◌else◌, List, length, set}
use Rattle.std.proofs.Common.{refl, ap, sym, ◌∙◌, arith, ◌⊎◌, inl, inr}
use Rattle.base_lists.specs.declared.watch_lists.Link.{Link as Watch}
use Rattle.spec_exchange.specs.Table.{put}
use Rattle.spec_exchange.specs.Operations.{Op, OpCreate, OpWrite, OpRead, OpEnd, OpTime, OpRename, OpRemove, OpLock, OpUnlock, OpFlush}
use Rattle.spec_exchange.specs.Operations.{OpStat, OpList, OpClose, charge, is_create, weight}
use Rattle.spec_exchange.specs.Client.{Client}
use Rattle.spec_exchange.specs.Schedules.{cost}
use Rattle.client_values.specs.declared.operations.shapes.Kind.{Kind}
use Rattle.client_values.specs.operations.Waiting.{kind_of}
use Rattle.client_rows.specs.declared.operation_rows.row.Row.{Row}
use Rattle.client_rows.specs.operation_rows.Rows.{row_at, stands, kind}
use Rattle.client_rows.specs.operation_rows.Moves.{StandsRows}
use Rattle.client_rows.proofs.operation_rows.Walking.{count_same, put_at, put_off}
use Rattle.client_rows.proofs.operation_rows.Changing.{col_kept}
use Rattle.client_rows.specs.Shown.{ShowsRows, fills_by, waits_by}
use Rattle.client_tables.specs.costs.Costs.{ShowsPaid, cost_where, priced_row, unattached_cost}
use Rattle.client_tables.proofs.costs.Paid.{paid_one}
use Rattle.client_tables.specs.cuts.Cutting.{end_all}
use Rattle.client_tables.specs.settling.Shown.{AreSettledBelow, GoesSettled}
use Rattle.client_tables.specs.session_ends.Ending.{ending}

ways : (x y : ℕ) → (x ≡ y) ⊎ (x ≡ y → ⊥)
ways x y = grind arith

below_or_past : (k n : ℕ) → (k < n) ⊎ (n ≤ k)
below_or_past k n = grind arith

clash : (b : Bool) → b ≡ true → b ≡ false → ⊥
clash b p q = absurd (cc)

-- ---- of one operation

unattached_is : (op : Op) → (if is_create op || false then charge (weight op) else 1) ≡ unattached_cost (kind_of op) (charge (weight op))
unattached_is (OpCreate path access share disposition persist directory) = refl
unattached_is (OpWrite create at bytes) = refl
unattached_is (OpRead create at size) = refl
unattached_is (OpEnd create size) = refl
unattached_is (OpTime create time) = refl
unattached_is (OpRename create path) = refl
unattached_is (OpRemove create) = refl
unattached_is (OpLock create at n exclusive) = refl
unattached_is (OpUnlock create at n) = refl
unattached_is (OpFlush create) = refl
unattached_is (OpStat create) = refl
unattached_is (OpList create) = refl
unattached_is (OpClose create) = refl

cost_ending : (c : Client) (g : ℕ) (k : Kind) (n : ℕ) → kind_of (c.op g) ≡ k → charge (weight (c.op g)) ≡ n
    → unattached_cost k n ≡ cost (ending c) g
cost_ending c g k n e f = sym (unattached_is (c.op g) ∙ (λ t. unattached_cost (e t) (f t)))

-- ---- of those from one number on and below another

abbrev pub unpaid : Client → (from n : ℕ) → ℕ → ℕ
unpaid c from n g = if nat_le from g && nat_lt g n then cost (ending c) g else cost (end_all c) g

abbrev either : Client → ℕ → Bool → ℕ
either c g b = if b then cost (ending c) g else cost (end_all c) g

test_here : (from g n : ℕ) → from ≤ n → g ≡ n → (nat_le from g && nat_lt g (n + 1)) ≡ true
test_here from g n l e = grind arith

test_there : (from g n : ℕ) → (g ≡ n → ⊥) → (nat_le from g && nat_lt g (n + 1)) ≡ (nat_le from g && nat_lt g n)
test_there from g n e = grind arith

test_none : (from g : ℕ) → (nat_le from g && nat_lt g from) ≡ false
test_none from g = grind arith

test_in : (from g n : ℕ) → from ≤ g → g < n → (nat_le from g && nat_lt g n) ≡ true
test_in from g n l h = grind arith

unpaid_next : (c : Client) (from n v : ℕ) → from ≤ n → v ≡ cost (ending c) n
    → (g : ℕ) → put (unpaid c from n) n v g ≡ unpaid c from (n + 1) g
unpaid_next c from n v l e g =
    elim (ways g n) as (λ _. put (unpaid c from n) n v g ≡ unpaid c from (n + 1) g) [
      | inl q ↦ put_at (unpaid c from n) n v g q ∙ e ∙ ap (λ x. cost (ending c) x) (sym q)
          ∙ sym (ap (λ b. either c g b) (test_here from g n l q))
      | inr q ↦ put_off (unpaid c from n) n v g q ∙ ap (λ b. either c g b) (sym (test_there from g n q))
    ]

paid_with : (rows : List Row) (holders prices : List ℕ) (watchers : List Watch) (c : Client) (old new : ℕ → ℕ) → ((g : ℕ) → old g ≡ new g)
    → ShowsPaid rows holders prices watchers c old → ShowsPaid rows holders prices watchers c new
paid_with rows holders prices watchers c old new e s =
    let p = s.places in
    record {
      places = record {
        has_row = p.has_row;
        is_taken = p.is_taken;
        creates = p.creates;
        kinds = p.kinds;
        charges = p.charges;
        unsettled = p.unsettled;
        firm_is = p.firm_is;
        pays = λ g a l u. sym (e g) ∙ p.pays g a l u;
      };
      sends = s.sends;
      stand = s.stand;
    }

module _ (rows : List Row) (holders prices : List ℕ) (watchers : List Watch) (c : Client) (from n : ℕ) where
  pub unpaid_begins : ShowsRows rows holders prices watchers (end_all c)
      → ShowsPaid rows holders prices watchers (end_all c) (unpaid c from from)
  unpaid_begins s =
      paid_with rows holders prices watchers (end_all c) (λ g. cost (end_all c) g) (unpaid c from from)
      (λ g. sym (ap (λ b. either c g b) (test_none from g))) (record { places = s.places; sends = s.sends; stand = s.stand })

  pub unpaid_one : (after : List ℕ) → 0 < n → n < length rows → from ≤ n
      → ShowsPaid rows holders prices watchers (end_all c) (unpaid c from n)
      → StandsRows (waits_by c.op) (fills_by c.op) (set rows n (priced_row false (row_at rows n))) holders after watchers
      → ShowsPaid (set rows n (priced_row false (row_at rows n))) holders after watchers (end_all c) (unpaid c from (n + 1))
  unpaid_one after p h l s t =
      let v = cost_where false (kind rows n) (row_at rows n).charge in
      let a = s.places.is_taken n p h in
      let two = set rows n (priced_row false (row_at rows n)) in
      paid_with two holders after watchers (end_all c) (put (unpaid c from n) n v) (unpaid c from (n + 1))
      (unpaid_next c from n v l (cost_ending c n (kind rows n) (row_at rows n).charge (s.places.kinds n p a) (s.places.charges n p a)))
      (paid_one rows n false holders prices after watchers (end_all c) (unpaid c from n) h s t)

  pub unpaid_ends : AreSettledBelow rows from → length rows ≤ n → ShowsPaid rows holders prices watchers (end_all c) (unpaid c from n)
      → ShowsRows rows holders prices watchers (ending c)
  unpaid_ends b l s =
      let p = s.places in
      record {
        places = record {
          has_row = p.has_row;
          is_taken = p.is_taken;
          creates = p.creates;
          kinds = p.kinds;
          charges = p.charges;
          unsettled = p.unsettled;
          firm_is = p.firm_is;
          pays = λ g a m u. sym (ap (λ x. either c g x) (test_in from g n (behind g u) (higher g (length rows) n (p.has_row g a m) l)))
              ∙ p.pays g a m u;
        };
        sends = s.sends;
        stand = s.stand;
      }
    where
      behind : (g : ℕ) → stands rows g ≡ true → from ≤ g
      behind g u =
          elim (below_or_past g from) as (λ _. from ≤ g) [
            | inl k ↦ absurd (clash (stands rows g) u (b g k))
            | inr k ↦ k
          ]

      higher : (g m n : ℕ) → g < m → m ≤ n → g < n
      higher g m n a k = omega arith

-- ---- the rows but for their costs

kept_at : {X : Type 0} (f : Row → X) (rows : List Row) (x : ℕ) (r : Row) → x < length rows → f r ≡ f (row_at rows x)
    → (g : ℕ) → f (row_at (set rows x r) g) ≡ f (row_at rows g)
kept_at f rows x r h e g = sym (λ t. (col_kept f rows x r h e t) g)

pub stands_priced : (rows : List Row) (x : ℕ) → x < length rows → (g : ℕ)
    → stands (set rows x (priced_row false (row_at rows x))) g ≡ stands rows g
stands_priced rows x h = kept_at (λ (w : Row). w.unsettled) rows x (priced_row false (row_at rows x)) h refl

pub goes_priced : (rows : List Row) (x : ℕ) → x < length rows → GoesSettled rows (set rows x (priced_row false (row_at rows x)))
goes_priced rows x h =
    let r = priced_row false (row_at rows x) in
    record {
      count = count_same rows x r;
      create = kept_at (λ (w : Row). w.create) rows x r h refl;
      opens = kept_at (λ (w : Row). w.«open») rows x r h refl;
      kinds = kept_at (λ (w : Row). w.kind) rows x r h refl;
      sent = kept_at (λ (w : Row). w.sent) rows x r h refl;
      asks = kept_at (λ (w : Row). w.asking) rows x r h refl;
      slots = kept_at (λ (w : Row). w.slot) rows x r h refl;
      out = kept_at (λ (w : Row). w.outstanding_on) rows x r h refl;
      settled = λ g e. stands_priced rows x h g ∙ e;
    }
