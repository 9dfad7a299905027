-- What the closed words say where a proof needs it.
use Rattle.std.proofs.lemmas.Bool.Decides.{nat_tests}
use Rattle.std.proofs.Common.{◌≡◌, ℕ, ◌+◌, ◌≤◌, Bool, true, false, if◌then◌else◌, refl, zero, suc, arith, sym, ◌∙◌, ap}
use Rattle.spec_exchange.specs.Operations.{Op, Outcome, Unsettled, WasOk, WasRefused, NoSlot, NoOpen, Unknown}
use Rattle.spec_exchange.specs.Operations.{is_unsettled, is_ok, is_create, create_of, persists}
use Rattle.spec_exchange.specs.Client.{Client, create_for, outcome_after_end, plain_after_end}
use Rattle.spec_exchange.specs.Runs.{never_acted}
use Rattle.law_sessions.specs.messages.Connections.{makes_open}
use Rattle.law_creates.specs.Creates.{own_guid, outlives, is_full}

-- no two operations have one CreateGuid
pub guid_once : (salt g h : ℕ) → own_guid salt g ≡ own_guid salt h → g ≡ h
unfolding own_guid
guid_once salt g h e = omega (arith, e)

-- a count that is full stays so
pub full_more : (n : ℕ) → is_full n ≡ true → is_full (n + 1) ≡ true
unfolding is_full
full_more n e = grind (arith, nat_tests)

own_create : (g : ℕ) (op : Op) → makes_open op ≡ true → create_of g op ≡ g
unfolding makes_open
own_create g op e = grind arith

-- a create behind the end of its session: where it was settled it stays, where it is persistent too, and else it is unknown
pub record AfterEnd (c : Client) (g : ℕ) (old new : Outcome) : Type 0 where
  pub never : never_acted new ≡ never_acted old
  pub ok : is_ok new ≡ is_ok old
  pub still : is_unsettled new ≡ true → is_unsettled old ≡ true
  pub lasts : is_unsettled new ≡ true → c.sent g ≡ true → outlives (c.op g) ≡ true

plain_end : (c : Client) (g create : ℕ) → is_create (c.op g) ≡ true → persists (c.op g) ≡ false → AfterEnd c g Unsettled
    (plain_after_end c g create)
unfolding outlives
plain_end c g create make plain = by_sent (c.sent g) refl
  where
    by_sent : (b : Bool) → c.sent g ≡ b → AfterEnd c g Unsettled (plain_after_end c g create)
    by_sent true e = record { never = grind arith; ok = grind arith; still = grind arith; lasts = grind arith }
    by_sent false e = record { never = grind arith; ok = grind arith; still = grind arith; lasts = grind arith }

unsettled_end : (c : Client) (g create : ℕ) → is_create (c.op g) ≡ true → create ≡ g → (b : Bool)
    → persists (c.op create) ≡ b → AfterEnd c g Unsettled (if b then Unsettled else plain_after_end c g create)
unfolding outlives
unsettled_end c g create make own true e = record {
  never = refl;
  ok = refl;
  still = λ x. x;
  lasts = λ x y. (ap (λ h. persists (c.op h)) (sym own) ∙ e);
}
unsettled_end c g create make own false e = plain_end c g create make (ap (λ h. persists (c.op h)) (sym own) ∙ e)

by_outcome : (c : Client) (g : ℕ) → is_create (c.op g) ≡ true → create_for c g ≡ g → (o : Outcome)
    → AfterEnd c g o (outcome_after_end c g o)
by_outcome c g make own Unsettled = unsettled_end c g (create_for c g) make own (persists (c.op (create_for c g))) refl
by_outcome c g make own (WasOk reply) = record { never = refl; ok = refl; still = λ x. x; lasts = λ x. absurd (cc) }
by_outcome c g make own (WasRefused status) = record { never = refl; ok = refl; still = λ x. x; lasts = λ x. absurd (cc) }
by_outcome c g make own (NoSlot create) = record { never = refl; ok = refl; still = λ x. x; lasts = λ x. absurd (cc) }
by_outcome c g make own (NoOpen create) = record { never = refl; ok = refl; still = λ x. x; lasts = λ x. absurd (cc) }
by_outcome c g make own (Unknown why) = record { never = refl; ok = refl; still = λ x. x; lasts = λ x. absurd (cc) }

pub after_end : (c : Client) (g : ℕ) → makes_open (c.op g) ≡ true → AfterEnd c g (c.outcome g) (outcome_after_end c g (c.outcome g))
unfolding makes_open
after_end c g make = by_outcome c g make (own_create g (c.op g) make) (c.outcome g)

-- a count that can't be above 0
pub zero_by : (n : ℕ) → (1 ≤ n → true ≡ false) → n ≡ 0
zero_by zero f = refl
zero_by (suc n) f = absurd (let e = f (omega arith) in cc)
