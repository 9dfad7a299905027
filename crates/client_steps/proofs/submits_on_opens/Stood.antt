-- How a create stands, by its row and its outcome.
use Rattle.std.proofs.Common.{◌≡◌, ℕ, ◌-◌, ◌<◌, ◌≤◌, true, false, List, length, get_or, refl, ap, sym, ◌∙◌, subst, arith}
use Rattle.std.proofs.Common.{Result, Ok, Err, OnOk, OnErr}
use Rattle.std.proofs.lemmas.List.{get_or_default}
use Rattle.spec_exchange.specs.Operations.{Outcome, Unsettled, WasOk, WasRefused, NoSlot, NoOpen, Unknown, is_unsettled}
use Rattle.spec_exchange.specs.Client.{Client, is_gone, is_gone_after}
use Rattle.client_values.specs.declared.operations.values.OpKind.{OpKind}
use Rattle.client_rows.specs.declared.operation_rows.row.Row.{Row}
use Rattle.client_rows.specs.operation_rows.Rows.{no_row, stands}
use Rattle.client_values.specs.declared.outcomes.outcome.Outcome.{Outcome as Settled}
use Rattle.client_values.specs.declared.outcomes.outcome.Outcome.TheVariants as outcomes
use Rattle.client_values.specs.outcomes.Meaning.{outcome_of}
use Rattle.client_tables.specs.settling.Shown.{ShowsValues, outcome_by}

stays_by : (c : Client) (x : ℕ) (o : Outcome) → is_unsettled o ≡ true → is_gone_after c x o ≡ false
stays_by c x Unsettled e = refl
stays_by c x (WasOk reply) e = absurd (cc)
stays_by c x (WasRefused status) e = absurd (cc)
stays_by c x (NoSlot create) e = absurd (cc)
stays_by c x (NoOpen create) e = absurd (cc)
stays_by c x (Unknown why) e = absurd (cc)

pub unsettled_stays : (c : Client) (x : ℕ) → is_unsettled (c.outcome x) ≡ true → is_gone c x ≡ false
unsettled_stays c x e = stays_by c x (c.outcome x) e

-- a row that was read stands as it stands in the list
pub stands_read : (rows : List Row) (x : ℕ) (r : Row) → r ≡ get_or rows x r → x < length rows → stands rows x ≡ r.unsettled
stands_read rows x r e l = ap (λ (w : Row). w.unsettled) (get_or_default rows x no_row r l ∙ sym e)

place_in : (x n : ℕ) → 0 < x → x ≤ n → x - 1 < n
place_in x n p l = omega arith

-- of a settled one, the outcome that the table has
pub outcome_here : (rows : List Row) (ops : List OpKind) (settled : List Settled) (c : Client) (x : ℕ) (o : Settled)
    → ShowsValues rows ops settled c.taken c.op c.outcome → 0 < x → x ≤ c.taken → stands rows x ≡ false
    → o ≡ get_or settled (x - 1) o → c.outcome x ≡ outcome_of o
outcome_here rows ops settled c x o v p l u e =
    v.outcome_is x p l ∙ ap (λ b. outcome_by b (get_or settled (x - 1) (outcomes.NoOpen 0))) u
    ∙ ap (λ z. outcome_of z) (sym (e ∙ get_or_default settled (x - 1) o (outcomes.NoOpen 0) (subst (λ n. x - 1 < n) (sym v.settled_counted)
    (place_in x c.taken p l))))

-- ---- what holds of a result

pub on_ok : {T E P : Type 0} (r : Result T E) → P → OnOk r P
on_ok (Ok x) p = p
on_ok (Err e) p = tt

pub ok_two : {T E A B C : Type 0} (r : Result T E) → (A → B → C) → OnOk r A → OnOk r B → OnOk r C
ok_two (Ok x) f a b = f a b
ok_two (Err e) f a b = tt

pub err_more : {T E P Q : Type 0} (r : Result T E) → (P → Q) → OnErr r P → OnErr r Q
err_more (Ok x) f p = tt
err_more (Err e) f p = f p
