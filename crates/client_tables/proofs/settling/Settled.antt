-- One operation settles, by value.
use Rattle.std.proofs.Common.{◌≡◌, ℕ, ◌-◌, ◌<◌, Bool, false, List, length, set, get_or, refl, ap, sym, ◌∙◌, arith, ◌⊎◌, inl, inr}
use Rattle.std.proofs.Math.ListN.{length-set}
use Rattle.std.proofs.lemmas.List.{get_or-set_same, get_or-set_other}
use Rattle.spec_exchange.specs.Table.{put}
use Rattle.spec_exchange.specs.Operations.{Op, Outcome, is_unsettled}
use Rattle.client_values.specs.declared.operations.values.OpKind.{OpKind}
use Rattle.client_rows.specs.declared.operation_rows.row.Row.{Row}
use Rattle.client_rows.specs.operation_rows.Rows.{stands}
use Rattle.client_rows.proofs.operation_rows.Walking.{put_at, put_off, row_here, row_there}
use Rattle.client_rows.proofs.operation_rows.Changing.{settled_row}
use Rattle.client_values.specs.declared.outcomes.outcome.Outcome.{Outcome as Settled}
use Rattle.client_values.specs.declared.outcomes.outcome.Outcome.TheVariants as outcomes
use Rattle.client_values.specs.outcomes.Meaning.{outcome_of}
use Rattle.client_tables.specs.settling.Shown.{ShowsValues, outcome_at, outcome_by}

pub never_unsettled : (o : Settled) → is_unsettled (outcome_of o) ≡ false
never_unsettled outcomes.Done = refl
never_unsettled (outcomes.Action action) = refl
never_unsettled (outcomes.Count count) = refl
never_unsettled (outcomes.Content bytes) = refl
never_unsettled (outcomes.Length size) = refl
never_unsettled (outcomes.Names names) = refl
never_unsettled (outcomes.Refused status) = refl
never_unsettled (outcomes.NoSlot create) = refl
never_unsettled (outcomes.NoOpen create) = refl
never_unsettled (outcomes.Unknown why) = refl

ways : (x y : ℕ) → (x ≡ y) ⊎ (x ≡ y → ⊥)
ways x y = grind arith

place_in : (x n m : ℕ) → 0 < x → x < m → n ≡ m - 1 → x - 1 < n
place_in x n m p l e = omega arith

apart : (g x : ℕ) → 0 < g → 0 < x → (g ≡ x → ⊥) → g - 1 ≡ x - 1 → ⊥
apart g x p q n e = n (omega arith)

pub values_settled : (rows : List Row) (x : ℕ) (firm : Bool) (ops : List OpKind) (settled : List Settled) (o : Settled)
    (taken : ℕ) (op : ℕ → Op) (outcome : ℕ → Outcome) → 0 < x → x < length rows → length settled ≡ length rows - 1
    → ShowsValues rows ops settled taken op outcome
    → ShowsValues (set rows x (settled_row rows x firm)) ops (set settled (x - 1) o) taken op (put outcome x (outcome_of o))
values_settled rows x firm ops settled o taken op outcome q h n s =
    let r = settled_row rows x firm in
    let new = set rows x r in
    let none : Settled = outcomes.NoOpen 0 in
    record {
      ops_counted = s.ops_counted;
      settled_counted = length-set settled (x - 1) o ∙ s.settled_counted;
      op_is = s.op_is;
      outcome_is = λ g p l. (
          elim (ways g x) as (λ _. put outcome x (outcome_of o) g ≡ outcome_at new (set settled (x - 1) o) g) [
            | inl e ↦ put_at outcome x (outcome_of o) g e
                ∙ sym (ap (λ b. outcome_by b (get_or (set settled (x - 1) o) (g - 1) none))
                (ap (λ (w : Row). w.unsettled) (row_here rows x r g h e))
                ∙ ap (λ z. outcome_of (get_or (set settled (x - 1) o) (z - 1) none)) e
                ∙ ap (λ z. outcome_of z) (get_or-set_same settled (x - 1) o none (place_in x (length settled) (length rows) q h n)))
            | inr e ↦ put_off outcome x (outcome_of o) g e ∙ s.outcome_is g p l
                ∙ sym (ap (λ b. outcome_by b (get_or (set settled (x - 1) o) (g - 1) none))
                (ap (λ (w : Row). w.unsettled) (row_there rows x r g e))
                ∙ ap (λ z. outcome_by (stands rows g) z) (get_or-set_other settled (x - 1) (g - 1) o none (apart g x p q e)))
          ]
          );
    }

-- values stay where what is unsettled stays
pub values_moved : (rows new : List Row) (ops : List OpKind) (settled : List Settled) (taken : ℕ) (op : ℕ → Op) (outcome : ℕ → Outcome)
    → ((g : ℕ) → stands new g ≡ stands rows g) → ShowsValues rows ops settled taken op outcome
    → ShowsValues new ops settled taken op outcome
values_moved rows new ops settled taken op outcome u s =
    record {
      ops_counted = s.ops_counted;
      settled_counted = s.settled_counted;
      op_is = s.op_is;
      outcome_is = λ g p l. s.outcome_is g p l
          ∙ ap (λ b. outcome_by b (get_or settled (g - 1) (outcomes.NoOpen 0))) (sym (u g));
    }
