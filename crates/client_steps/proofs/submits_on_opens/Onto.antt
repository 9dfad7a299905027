-- The row of an operation that comes onto an open is the one that the model's client takes.
use Rattle.std.proofs.Common.{◌≡◌, ℕ, zero, suc, ◌+◌, ◌-◌, ◌<◌, ◌≤◌, ◌^◌, ◌&&◌, ◌||◌, not, nat_lt, nat_le, Bool, true, false, if◌then◌else◌}
use Rattle.std.proofs.Common.{List, length, refl, ap, sym, ◌∙◌, subst, arith, ◌⊎◌, inl, inr, lit<}
use Rattle.base_lists.specs.declared.watch_lists.Link.{Link as Watch}
use Rattle.spec_exchange.specs.Table.{put}
use Rattle.spec_exchange.specs.Operations.{Op, OpCreate, OpWrite, OpRead, OpEnd, OpTime, OpRename, OpRemove, OpLock}
use Rattle.spec_exchange.specs.Operations.{OpUnlock, OpFlush, OpStat, OpList, OpClose}
use Rattle.spec_exchange.specs.Operations.{NoOpen, Unsettled, are_below, charge, create_of, fits_64, holds_up, is_create, is_firm}
use Rattle.spec_exchange.specs.Operations.{is_unsettled, keeps_limits, weight}
use Rattle.spec_exchange.specs.Client.{Client, create_for, is_attached, is_gone, outcome_at_first, take_op}
use Rattle.spec_exchange.specs.Schedules.{cost}
use Rattle.law_client.specs.table.Kept.{TableKept}
use Rattle.client_values.specs.declared.operations.shapes.Shape.{Shape}
use Rattle.client_values.specs.operations.Waiting.{at_of, kind_of, size_of}
use Rattle.client_rows.specs.declared.operation_rows.row.Row.{Row}
use Rattle.client_rows.proofs.operation_rows.Walking.{put_at, put_off}
use Rattle.client_values.specs.declared.outcomes.outcome.Outcome.{Outcome as Settled}
use Rattle.client_values.specs.declared.outcomes.outcome.Outcome.TheVariants as outcomes
use Rattle.client_values.specs.outcomes.Meaning.{outcome_of}
use Rattle.client_rows.specs.Shown.{ShowsRows}
use Rattle.client_tables.specs.settling.Shown.{outcome_by}
use Rattle.client_tables.specs.submits.Taken.{IsRowOf}
use Rattle.client_tables.specs.opens.Opened.{IsOpenOn}
use Rattle.client_tables.specs.whole_table.Shown.{TableBounds}
use Rattle.client_steps.specs.submits_on_opens.Rows.{fresh_row}

ways : (x y : ℕ) → (x ≡ y) ⊎ (x ≡ y → ⊥)
ways x y = grind arith

true_or_false : (b : Bool) → (b ≡ true) ⊎ (b ≡ false)
true_or_false true = inl refl
true_or_false false = inr refl

pub clash : (b : Bool) → b ≡ true → b ≡ false → ⊥
clash true e f = absurd (cc)
clash false e f = absurd (cc)

-- ---- how many rows there are

one_or_more : (n : ℕ) → (n ≤ 1) ⊎ (1 < n)
one_or_more n = grind arith

next_by : (taken n : ℕ) → (0 < taken → taken < n) → (0 < n - 1 → n - 1 ≤ taken) → 0 < n → n ≡ taken + 1
next_by zero n h t p =
    elim (one_or_more n) as (λ _. n ≡ 0 + 1) [
      | inl l ↦ omega arith
      | inr l ↦ absurd (let w = t (omega arith) in omega arith)
    ]
next_by (suc k) n h t p = let w = h (omega arith) in let v = t (omega arith) in omega arith

last_in : (n : ℕ) → 0 < n → n - 1 < n
last_in n p = omega arith

same_least : (n : ℕ) → n ≤ n
same_least n = omega arith

pub next_is : (rows : List Row) (holders prices : List ℕ) (watchers : List Watch) (c : Client) → ShowsRows rows holders prices watchers c
    → 0 < length rows → length rows ≡ c.taken + 1
next_is rows holders prices watchers c s p =
    next_by c.taken (length rows) (λ a. s.places.has_row c.taken a (same_least c.taken))
    (λ a. s.places.is_taken (length rows - 1) a (last_in (length rows) p)) p

-- ---- what it asks

first_below : (n : ℕ) (b : Bool) → (nat_lt n 0x1_0000_0000_0000_0000 && b) ≡ true → n < 2 ^ 64
first_below n b e = grind arith

least_below : 0 < 2 ^ 64
least_below = lit< tt

pub at_below : (op : Op) → keeps_limits op ≡ true → at_of op < 2 ^ 64
at_below (OpCreate path access share disposition persist directory) e = least_below
at_below (OpWrite create at bytes) e = first_below at (are_below 256 bytes && nat_le (length bytes) 1048577) e
at_below (OpRead create at size) e = first_below at (nat_le size 1048577) e
at_below (OpEnd create size) e = least_below
at_below (OpTime create time) e = least_below
at_below (OpRename create path) e = least_below
at_below (OpRemove create) e = least_below
at_below (OpLock create at n exclusive) e = first_below at (fits_64 n) e
at_below (OpUnlock create at n) e = first_below at (fits_64 n) e
at_below (OpFlush create) e = least_below
at_below (OpStat create) e = least_below
at_below (OpList create) e = least_below
at_below (OpClose create) e = least_below

-- ---- how it settles at first, by whether it is a create and whether its own is gone

unsettled_by : (is gone : Bool) (x : ℕ) → is ≡ false
    → is_unsettled (if is then Unsettled else if gone then NoOpen x else Unsettled) ≡ not gone
unsettled_by true gone x e = absurd (cc)
unsettled_by false true x e = refl
unsettled_by false false x e = refl

firm_by : (is gone : Bool) (x : ℕ) → is_firm (if is then Unsettled else if gone then NoOpen x else Unsettled) ≡ false
firm_by true gone x = refl
firm_by false true x = refl
firm_by false false x = refl

gone_by : (is gone : Bool) (x : ℕ) → is_unsettled (if is then Unsettled else if gone then NoOpen x else Unsettled) ≡ false → gone ≡ true
gone_by true gone x e = absurd (cc)
gone_by false true x e = refl
gone_by false false x e = absurd (cc)

-- its outcome, where its row is settled at once
first_by : (is gone : Bool) (x create : ℕ) (o : Settled) → is ≡ false → (gone ≡ true → o ≡ outcomes.NoOpen create) → x ≡ create
    → (if is then Unsettled else if gone then NoOpen x else Unsettled) ≡ outcome_by (not gone) o
first_by true gone x create o e h q = absurd (cc)
first_by false true x create o e h q = ap (λ y. NoOpen y) q ∙ sym (ap (λ z. outcome_of z) (h refl))
first_by false false x create o e h q = refl

pub first_is : (c : Client) (n : ℕ) (op : Op) (create : ℕ) (gone : Bool) (o : Settled) → is_create op ≡ false → create_of n op ≡ create
    → gone ≡ is_gone c create → (gone ≡ true → o ≡ outcomes.NoOpen create) → outcome_at_first c n op ≡ outcome_by (not gone) o
first_is c n op create gone o e q g h =
    ap (λ z. if is_create op then Unsettled else if z then NoOpen (create_of n op) else Unsettled) (ap (λ y. is_gone c y) q ∙ sym g)
    ∙ first_by (is_create op) gone (create_of n op) create o e h q

up_to : (g n t : ℕ) → g ≤ n → n ≡ t + 1 → (g ≡ n → ⊥) → g ≤ t
up_to g n t l e q = omega arith

before : (h n t : ℕ) → h < n → n ≡ t + 1 → h ≤ t
before h n t l e = omega arith

within : (x n : ℕ) → x < n → x ≤ n
within x n l = omega arith

module _ (rows : List Row) (holders prices : List ℕ) (watchers : List Watch) (c : Client) (op : Op) (create : ℕ)
    (s : ShowsRows rows holders prices watchers c) (kept : TableKept c) (b : TableBounds c) (p : 0 < create) (l : create < length rows)
    (made : is_create (c.op create) ≡ true) (other : is_create op ≡ false) (names : (g : ℕ) → create_of g op ≡ create)
    (limits : keeps_limits op ≡ true) where
  pub counted_so : length rows ≡ c.taken + 1
  counted_so = next_is rows holders prices watchers c s (some create (length rows) p l)
    where
      some : (x y : ℕ) → 0 < x → x < y → 0 < y
      some x y a b = omega arith

  created : (g : ℕ) → 0 < g → g ≤ c.taken → 0 < create_for c g
  created g a h =
      elim (true_or_false (is_create (c.op g))) as (λ _. 0 < create_for c g) [
        | inl e ↦ subst (λ x. 0 < x) (sym (kept.ordered.itself g e)) a
        | inr e ↦ (kept.ordered.owned g a h e).0
      ]

  fits : (g : ℕ) → 0 < g → g ≤ length rows → at_of (put c.op (length rows) op g) < 2 ^ 64
  fits g a h =
      elim (ways g (length rows)) as (λ _. at_of (put c.op (length rows) op g) < 2 ^ 64) [
        | inl e ↦ subst (λ x. at_of x < 2 ^ 64) (sym (put_at c.op (length rows) op g e)) (at_below op limits)
        | inr e ↦ subst (λ x. at_of x < 2 ^ 64) (sym (put_off c.op (length rows) op g e))
            (at_below (c.op g) (b.limits g a (up_to g (length rows) c.taken h counted_so e)))
      ]

  late : is_unsettled (outcome_at_first c (length rows) op) ≡ false → (h : ℕ) → 0 < h → h < length rows
      → create_for c h ≡ create_of (length rows) op → holds_up (c.op h) op ≡ true → is_unsettled (c.outcome h) ≡ false
  late u h a k same holds =
      let gone = gone_by (is_create op) (is_gone c (create_of (length rows) op)) (create_of (length rows) op) u in
      let t = before h (length rows) c.taken k counted_so in
      elim (true_or_false (is_create (c.op h))) as (λ _. is_unsettled (c.outcome h) ≡ false) [
        | inl e ↦ absurd (clash (holds_up (c.op h) op) holds (passes (c.op h) op e))
        | inr e ↦ kept.stands.gone_settled h a t e (ap (λ x. is_gone c x) same ∙ gone)
      ]
    where
      passes : (x y : Op) → is_create x ≡ true → holds_up x y ≡ false
      passes (OpCreate path access share disposition persist directory) y e = refl
      passes (OpWrite create at bytes) y e = absurd (cc)
      passes (OpRead create at size) y e = absurd (cc)
      passes (OpEnd create size) y e = absurd (cc)
      passes (OpTime create time) y e = absurd (cc)
      passes (OpRename create path) y e = absurd (cc)
      passes (OpRemove create) y e = absurd (cc)
      passes (OpLock create at m exclusive) y e = absurd (cc)
      passes (OpUnlock create at m) y e = absurd (cc)
      passes (OpFlush create) y e = absurd (cc)
      passes (OpStat create) y e = absurd (cc)
      passes (OpList create) y e = absurd (cc)
      passes (OpClose create) y e = absurd (cc)

  cost_by : (is attached : Bool) (x : ℕ) → is ≡ false → (if is || attached then x else 1) ≡ (if attached then x else 1)
  cost_by true attached x e = absurd (cc)
  cost_by false attached x e = refl

  pub first_cost : (pays : ℕ) → pays ≡ (if is_attached c create then charge (weight op) else 1)
      → cost (take_op c (length rows) op) (length rows) ≡ pays
  first_cost pays e =
      ap (λ (o : Op). if is_create o || is_attached c (create_of (length rows) o) then charge (weight o) else 1)
      (put_at c.op (length rows) op (length rows) refl)
      ∙ ap (λ x. if is_create op || is_attached c x then charge (weight op) else 1) (names (length rows))
      ∙ cost_by (is_create op) (is_attached c create) (charge (weight op)) other ∙ sym e

  module _ (shape : Shape) (pays at : ℕ) (gone : Bool) (k : shape.kind ≡ kind_of op) (f : shape.at ≡ at_of op) (z : shape.size ≡ size_of op)
      (h : shape.charge ≡ charge (weight op)) (g : gone ≡ is_gone c create)
      (e : pays ≡ (if is_attached c create then charge (weight op) else 1)) where
    abbrev row : Row
    row = fresh_row shape pays create at (not gone)

    pub row_of : IsRowOf row c (length rows) op
    row_of =
        record {
          kind_is = sym k;
          create_is = names (length rows);
          charge_is = sym h;
          unsettled_is = unsettled_by (is_create op) (is_gone c (create_of (length rows) op)) (create_of (length rows) op) other
              ∙ ap (λ x. not x) (ap (λ x. is_gone c x) (names (length rows)) ∙ sym g);
          firm_is = firm_by (is_create op) (is_gone c (create_of (length rows) op)) (create_of (length rows) op);
          cost_is = λ u. first_cost pays e;
          sent_is = refl;
          out_is = refl;
          asks_is = refl;
          unanswered_is = refl;
          sequence_is = refl;
          slot_is = refl;
          number_is = refl;
        }

    pub row_on : IsOpenOn rows c op create (length rows) shape row
    row_on =
        record {
          row = row_of;
          kind_is = refl;
          at_is = sym f;
          size_is = sym z;
          own = names (length rows);
          some = p;
          below = within create (length rows) l;
          itself = λ q. sym (s.places.creates create p (s.places.is_taken create p l)) ∙ kept.ordered.itself create made;
          created = created;
          fits = fits;
          late = late;
        }
