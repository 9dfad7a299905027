-- Operations settle with their session one after the other, from below.
use Rattle.std.proofs.Common.{◌≡◌, ℕ, zero, suc, ◌+◌, ◌-◌, ◌<◌, ◌≤◌, ◌&&◌, ◌||◌, nat_lt, not, Bool, true, false, if◌then◌else◌}
use Rattle.std.proofs.Common.{List, length, refl, ap, sym, ◌∙◌, subst, arith, ◌⊎◌, inl, inr}
use Rattle.base_lists.specs.declared.watch_lists.Link.{Link as Watch}
use Rattle.spec_exchange.specs.Table.{put}
use Rattle.spec_exchange.specs.Operations.{Op, Outcome, is_create, is_firm, is_unsettled, persists}
use Rattle.spec_exchange.specs.Client.{Client, create_for, end_session, outcome_after_end, plain_after_end}
use Rattle.law_client.specs.table.Kept.{TableKept}
use Rattle.law_client.specs.table.Columns.{IsClientFirst, ops_of, standing_of}
use Rattle.law_client.proofs.table.Ended.{end_keeps}
use Rattle.client_values.specs.declared.operations.values.OpKind.{OpKind}
use Rattle.client_rows.specs.declared.operation_rows.row.Row.{Row}
use Rattle.client_rows.specs.operation_rows.Rows.{row_at, stands, owner, kind}
use Rattle.client_rows.proofs.operation_rows.Walking.{put_at, put_off}
use Rattle.client_values.specs.declared.outcomes.outcome.Outcome.{Outcome as Settled}
use Rattle.client_values.specs.declared.outcomes.outcome.Outcome.TheVariants as outcomes
use Rattle.client_rows.specs.Shown.{ShowsRows}
use Rattle.client_tables.specs.settling.Shown.{GoesSettled, ShowsValues, op_at}
use Rattle.client_rows.specs.open_marks.Marks.{is_create_kind}
use Rattle.client_tables.specs.session_ends.Ending.{AreEndingsOwned, ended_below}
use Rattle.client_tables.proofs.session_ends.Lost.{after_left, after_lost, after_settled, create_kind, still_waits}

ways : (x y : ℕ) → (x ≡ y) ⊎ (x ≡ y → ⊥)
ways x y = grind arith

below_or_past : (k n : ℕ) → (k < n) ⊎ (n ≤ k)
below_or_past k n = grind arith

test_here : (g n : ℕ) → g ≡ n → nat_lt g (n + 1) ≡ true
test_here g n e = grind arith

test_there : (g n : ℕ) → (g ≡ n → ⊥) → nat_lt g (n + 1) ≡ nat_lt g n
test_there g n e = grind arith

test_itself : (n : ℕ) → nat_lt n n ≡ false
test_itself n = grind arith

test_below : (g n : ℕ) → g < n → nat_lt g n ≡ true
test_below g n l = grind arith

test_past : (g n : ℕ) → n ≤ g → nat_lt g n ≡ false
test_past g n l = grind arith

-- ---- outcomes

module _ (c : Client) where
  abbrev by : ℕ → Bool → Outcome
  by g b = if b then outcome_after_end c g (c.outcome g) else c.outcome g

  pub end_next : (x : ℕ) (v : Outcome) → outcome_after_end c x (c.outcome x) ≡ v
      → (g : ℕ) → put (ended_below c x).outcome x v g ≡ (ended_below c (x + 1)).outcome g
  end_next x v e g =
      elim (ways g x) as (λ _. put (ended_below c x).outcome x v g ≡ (ended_below c (x + 1)).outcome g) [
        | inl q ↦ put_at (ended_below c x).outcome x v g q ∙ sym e ∙ ap (λ y. outcome_after_end c y (c.outcome y)) (sym q)
            ∙ sym (ap (λ b. by g b) (test_here g x q))
        | inr q ↦ put_off (ended_below c x).outcome x v g q ∙ ap (λ b. by g b) (sym (test_there g x q))
      ]

  pub end_kept : (x : ℕ) → outcome_after_end c x (c.outcome x) ≡ c.outcome x
      → (g : ℕ) → (ended_below c x).outcome g ≡ (ended_below c (x + 1)).outcome g
  end_kept x e g =
      elim (ways g x) as (λ _. (ended_below c x).outcome g ≡ (ended_below c (x + 1)).outcome g) [
        | inl q ↦ ap (λ b. by g b) (ap (λ y. nat_lt y x) q ∙ test_itself x)
            ∙ sym (ap (λ b. by g b) (test_here g x q) ∙ ap (λ y. outcome_after_end c y (c.outcome y)) q ∙ e ∙ ap c.outcome (sym q))
        | inr q ↦ ap (λ b. by g b) (sym (test_there g x q))
      ]

  pub end_itself : (x : ℕ) → (ended_below c x).outcome x ≡ c.outcome x
  end_itself x = ap (λ b. by x b) (test_itself x)

  pub end_below : (x y : ℕ) → y < x → (ended_below c x).outcome y ≡ outcome_after_end c y (c.outcome y)
  end_below x y l = ap (λ b. by y b) (test_below y x l)

  -- where all below are settled it is as before
  pub end_begun : (n : ℕ) → ((g : ℕ) → 0 < g → g ≤ c.taken → g < n → is_unsettled (c.outcome g) ≡ false)
      → (g : ℕ) → 0 < g → g ≤ c.taken → c.outcome g ≡ (ended_below c n).outcome g
  end_begun n h g p l =
      elim (below_or_past g n) as (λ _. c.outcome g ≡ (ended_below c n).outcome g) [
        | inl m ↦ sym (end_below n g m ∙ after_settled c g (c.outcome g) (h g p l m))
        | inr m ↦ sym (ap (λ b. by g b) (test_past g n m))
      ]

  -- and behind the last one all is as the end leaves it
  pub end_whole : (n : ℕ) → c.taken < n → (g : ℕ) → 0 < g → g ≤ c.taken → (ended_below c n).outcome g ≡ (end_session c).outcome g
  end_whole n l g p m = end_below n g (higher g c.taken n m l)
    where
      higher : (g m n : ℕ) → g ≤ m → m < n → g < n
      higher g m n a k = omega arith

  -- what settles with the session waits for nothing then: behind the end of it each lower one that held it up is settled
  pub end_first : (x : ℕ) (v : Outcome) → TableKept c → 0 < x → x ≤ c.taken → outcome_after_end c x (c.outcome x) ≡ v
      → is_unsettled v ≡ false
      → IsClientFirst (ops_of (ended_below c x)) (standing_of (ended_below c x)) x
  end_first x v k p t e u = λ h a l same holds.
      ap (λ o. is_unsettled o) (end_below x h l)
      ∙ (end_keeps c k).stands.settled_first x p t (ap (λ o. is_unsettled o) e ∙ u) h a l same holds

-- ---- the relation, where outcomes are alike

pub rows_alike : (rows : List Row) (holders prices : List ℕ) (watchers : List Watch) (c : Client) (old new : ℕ → Outcome)
    → ((g : ℕ) → 0 < g → g ≤ c.taken → old g ≡ new g)
    → ShowsRows rows holders prices watchers (record (end_session c) { outcome = old })
    → ShowsRows rows holders prices watchers (record (end_session c) { outcome = new })
rows_alike rows holders prices watchers c old new e s =
    let p = s.places in
    record {
      places = record {
        has_row = p.has_row;
        is_taken = p.is_taken;
        creates = p.creates;
        kinds = p.kinds;
        charges = p.charges;
        unsettled = λ g a l. ap (λ o. is_unsettled o) (sym (e g a l)) ∙ p.unsettled g a l;
        firm_is = λ g a l. ap (λ o. is_firm o) (sym (e g a l)) ∙ p.firm_is g a l;
        pays = p.pays;
      };
      sends = s.sends;
      stand = s.stand;
    }

pub values_alike : (rows : List Row) (ops : List OpKind) (settled : List Settled) (taken : ℕ) (op : ℕ → Op) (old new : ℕ → Outcome)
    → ((g : ℕ) → 0 < g → g ≤ taken → old g ≡ new g) → ShowsValues rows ops settled taken op old
    → ShowsValues rows ops settled taken op new
values_alike rows ops settled taken op old new e s =
    record {
      ops_counted = s.ops_counted;
      settled_counted = s.settled_counted;
      op_is = s.op_is;
      outcome_is = λ g p l. sym (e g p l) ∙ s.outcome_is g p l;
    }

pub last_row : (taken m n : ℕ) → ((g : ℕ) → 0 < g → g ≤ taken → g < m) → m ≤ n → 0 < n → taken < n
last_row zero m n h l p = p
last_row (suc t) m n h l p = let w = h (suc t) (omega arith) (omega arith) in omega arith

-- ---- one operation, by its row

both_by : {a b c d : Bool} → a ≡ b → c ≡ d → (a && not c) ≡ (b && not d)
both_by e f = λ t. (e t) && not (f t)

module _ (rows : List Row) (holders prices : List ℕ) (watchers : List Watch) (ops : List OpKind) (settled : List Settled)
    (c : Client) (x : ℕ) (p : 0 < x) (l : x < length rows) (own : (0 < owner rows x) × (owner rows x < length rows))
    (s : ShowsRows rows holders prices watchers (ended_below c x))
    (v : ShowsValues rows ops settled c.taken c.op (ended_below c x).outcome) where
  pub taken_so : x ≤ c.taken
  taken_so = s.places.is_taken x p l

  pub create_is : create_for c x ≡ owner rows x
  create_is = s.places.creates x p taken_so

  unsettled_so : is_unsettled (c.outcome x) ≡ stands rows x
  unsettled_so = ap (λ o. is_unsettled o) (sym (end_itself c x)) ∙ s.places.unsettled x p taken_so

  persists_so : persists (c.op (create_for c x)) ≡ persists (op_at ops (owner rows x))
  persists_so = ap (λ y. persists (c.op y)) create_is
      ∙ ap (λ o. persists o) (v.op_is (owner rows x) own.0 (s.places.is_taken (owner rows x) own.0 own.1))

  pub left_so : (not (stands rows x) || persists (op_at ops (owner rows x))) ≡ true → outcome_after_end c x (c.outcome x) ≡ c.outcome x
  left_so t = after_left c x (stands rows x) (persists (op_at ops (owner rows x))) unsettled_so persists_so t

  pub lost_so : (not (stands rows x) || persists (op_at ops (owner rows x))) ≡ false
      → (is_unsettled (c.outcome x) ≡ true) × (outcome_after_end c x (c.outcome x) ≡ plain_after_end c x (owner rows x))
  lost_so t =
      let w = after_lost c x (stands rows x) (persists (op_at ops (owner rows x))) unsettled_so persists_so t in
      (w.0, w.1 ∙ ap (λ y. plain_after_end c x y) create_is)

  pub sent_so : c.sent x ≡ (row_at rows x).sent
  sent_so = s.sends.sent_is x

  pub kind_so : is_create (c.op x) ≡ is_create_kind (kind rows x)
  kind_so = create_kind (c.op x) ∙ ap (λ k. is_create_kind k) (s.places.kinds x p taken_so)

  -- of its create it is told as before the end whether it is waited for
  pub waits_so : TableKept c → is_create (c.op x) ≡ false
      → (is_unsettled (c.outcome (owner rows x)) && not (c.sent (owner rows x)))
      ≡ (stands rows (owner rows x) && not (row_at rows (owner rows x)).sent)
  waits_so k n =
      let y = owner rows x in
      let w = k.ordered.owned x p taken_so n in
      let lower : y < x = subst (λ z. z < x) create_is w.1 in
      let create : is_create (c.op y) ≡ true = subst (λ z. is_create (c.op z) ≡ true) create_is w.2 in
      let t = s.places.is_taken y own.0 own.1 in
      sym (still_waits c y create)
      ∙ both_by (ap (λ o. is_unsettled o) (sym (end_below c x y lower)) ∙ s.places.unsettled y own.0 t) (s.sends.sent_is y)

-- ---- two tests

pub at_once : (b q : Bool) → b ≡ false → (not b || q) ≡ true
at_once true q e = absurd (cc)
at_once false q e = refl

pub only_if : (b q : Bool) → b ≡ true → (not b || q) ≡ q
only_if true q e = refl
only_if false q e = absurd (cc)

-- ---- one place below a count

pub place_in : (y m n : ℕ) → y < m → n ≡ m - 1 → y ≤ n
place_in y m n l e = omega arith

pub owned_moved : (rows new : List Row) → GoesSettled rows new → AreEndingsOwned rows → AreEndingsOwned new
owned_moved rows new m o g p l =
    let w = o g p (subst (λ n. g < n) m.count l) in (
      subst (λ y. 0 < y) (sym (m.create g)) w.0,
      subst (λ y. y < length new) (sym (m.create g))
          (subst (λ n. owner rows g < n) (sym m.count) w.1),
    )
