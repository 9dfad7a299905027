-- What was taken, and how it settled.
use Rattle.std.proofs.Common.{◌≡◌, ℕ, ◌-◌, ◌<◌, ◌≤◌, ◌&&◌, nat_le, nat_lt, Bool, true, false, slice_index_or, ap, ◌∙◌, arith}
use Rattle.spec_exchange.specs.Client.{Client, is_taken}
use Rattle.law_client.proofs.table.Chosen.{and_left, and_right, is_at_most, is_positive}
use Rattle.client_values.specs.declared.outcomes.outcome.Outcome.TheVariants as outcomes
use Rattle.client_tables.specs.settling.Shown.{outcome_by}
use Rattle.client_rows.specs.operation_rows.Rows.{stands}
use Rattle.client_steps.specs.declared.whole_client.client.Client.{Client as Core}
use Rattle.client_steps.specs.whole_client.Shown.{ShowsClient}

pub above : (c : Client) (g : ℕ) → is_taken c g ≡ true → 0 < g
above c g e = is_positive g (and_left (nat_lt 0 g) (nat_le g c.taken) e)

pub below : (c : Client) (g : ℕ) → is_taken c g ≡ true → g ≤ c.taken
below c g e = is_at_most g c.taken (and_right (nat_lt 0 g) (nat_le g c.taken) e)

yes_less : (x y : ℕ) → x < y → nat_lt x y ≡ true
yes_less x y l = grind arith

yes_most : (x y : ℕ) → x ≤ y → nat_le x y ≡ true
yes_most x y l = grind arith

pub taken_so : (c : Client) (g : ℕ) → 0 < g → g ≤ c.taken → is_taken c g ≡ true
taken_so c g p l = (λ t. (yes_less 0 g p) t && (yes_most g c.taken l) t)

pub not_zero : (x : ℕ) → x ≡ 0 → 0 < x → ⊥
not_zero x e p = omega arith

pub not_below : (x n : ℕ) → nat_lt x n ≡ false → x < n → ⊥
not_below x n e l = grind arith

-- the outcome of a row that is known to be settled, or not
pub outcome_so : (x : Core) (c : Client) (g : ℕ) (b : Bool) → ShowsClient x c → 0 < g → g ≤ c.taken → stands x.table.rows.items g ≡ b
    → c.outcome g ≡ outcome_by b (slice_index_or x.table.settled.items (g - 1) (outcomes.NoOpen 0))
outcome_so x c g b s p l e = s.table.values.outcome_is g p l
    ∙ ap (λ z. outcome_by z (slice_index_or x.table.settled.items (g - 1) (outcomes.NoOpen 0))) e
