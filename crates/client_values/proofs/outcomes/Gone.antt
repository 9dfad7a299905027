-- Whether an open is gone, by how its create settled.
use Rattle.std.proofs.Common.{◌≡◌, ℕ, ◌&&◌, ◌||◌, not, Bool, true, false, ap, sym, ◌∙◌, arith}
use Rattle.spec_exchange.specs.Operations.{is_ok, persists}
use Rattle.spec_exchange.specs.Client.{Client, is_attached, is_gone, is_gone_after}
use Rattle.client_values.specs.declared.outcomes.outcome.Outcome.{Outcome as Settled}
use Rattle.client_values.specs.declared.outcomes.outcome.Outcome.TheVariants as outcomes
use Rattle.client_values.specs.outcomes.Meaning.{outcome_of}

or_true : (a b : Bool) → a ≡ true → (a || b) ≡ true
or_true a b e = grind arith

or_false : (a b : Bool) → a ≡ false → (a || b) ≡ b
or_false a b e = grind arith

of_ok : (c : Client) (create : ℕ) (o : Settled) → c.outcome create ≡ outcome_of o → is_ok (outcome_of o) ≡ true
    → is_gone c create ≡ (c.closed_ok create || (not (persists (c.op create)) && not (is_attached c create)))
of_ok c create outcomes.Done e f = ap (λ r. is_gone_after c create r) e
of_ok c create (outcomes.Action action) e f = ap (λ r. is_gone_after c create r) e
of_ok c create (outcomes.Count count) e f = ap (λ r. is_gone_after c create r) e
of_ok c create (outcomes.Content bytes) e f = ap (λ r. is_gone_after c create r) e
of_ok c create (outcomes.Length size) e f = ap (λ r. is_gone_after c create r) e
of_ok c create (outcomes.Names names) e f = ap (λ r. is_gone_after c create r) e
of_ok c create (outcomes.Refused status) e f = absurd (cc)
of_ok c create (outcomes.NoSlot other) e f = absurd (cc)
of_ok c create (outcomes.NoOpen other) e f = absurd (cc)
of_ok c create (outcomes.Unknown why) e f = absurd (cc)

pub of_other : (c : Client) (create : ℕ) (o : Settled) → c.outcome create ≡ outcome_of o → is_ok (outcome_of o) ≡ false
    → is_gone c create ≡ true
of_other c create outcomes.Done e f = absurd (cc)
of_other c create (outcomes.Action action) e f = absurd (cc)
of_other c create (outcomes.Count count) e f = absurd (cc)
of_other c create (outcomes.Content bytes) e f = absurd (cc)
of_other c create (outcomes.Length size) e f = absurd (cc)
of_other c create (outcomes.Names names) e f = absurd (cc)
of_other c create (outcomes.Refused status) e f = ap (λ r. is_gone_after c create r) e
of_other c create (outcomes.NoSlot other) e f = ap (λ r. is_gone_after c create r) e
of_other c create (outcomes.NoOpen other) e f = ap (λ r. is_gone_after c create r) e
of_other c create (outcomes.Unknown why) e f = ap (λ r. is_gone_after c create r) e

pub gone_shut : (c : Client) (create : ℕ) (o : Settled) → c.outcome create ≡ outcome_of o → is_ok (outcome_of o) ≡ true
    → c.closed_ok create ≡ true → true ≡ is_gone c create
gone_shut c create o e f s =
    sym (of_ok c create o e f ∙ or_true (c.closed_ok create) (not (persists (c.op create)) && not (is_attached c create)) s)

pub gone_by : (c : Client) (create : ℕ) (o : Settled) (persistent attached r : Bool) → c.outcome create ≡ outcome_of o
    → is_ok (outcome_of o) ≡ true → c.closed_ok create ≡ false → persists (c.op create) ≡ persistent
    → is_attached c create ≡ attached → r ≡ (not persistent && not attached) → r ≡ is_gone c create
gone_by c create o persistent attached r e f s p a w =
    w ∙ (λ t. not (sym p t) && not (sym a t))
    ∙ sym (or_false (c.closed_ok create) (not (persists (c.op create)) && not (is_attached c create)) s)
    ∙ sym (of_ok c create o e f)
