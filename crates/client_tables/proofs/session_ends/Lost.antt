-- How an operation of a plain open settles with its session.
use Rattle.std.proofs.Common.{◌≡◌, ℕ, ◌&&◌, ◌||◌, not, Bool, true, false, if◌then◌else◌, refl, ap, sym, ◌∙◌}
use Rattle.spec_exchange.specs.Operations.{Op, OpCreate, OpWrite, OpRead, OpEnd, OpTime, OpRename, OpRemove, OpLock, OpUnlock, OpFlush}
use Rattle.spec_exchange.specs.Operations.{OpStat, OpList, OpClose, is_create, is_unsettled, persists}
use Rattle.spec_exchange.specs.Operations.{Outcome, NoOpen, NoSlot, SessionLost, Unknown, Unsettled, WasOk, WasRefused}
use Rattle.spec_exchange.specs.Client.{Client, create_for, outcome_after_end, plain_after_end, unsent_after_end}
use Rattle.client_values.specs.operations.Waiting.{kind_of}
use Rattle.client_rows.specs.open_marks.Marks.{is_create_kind}

pub create_kind : (op : Op) → is_create op ≡ is_create_kind (kind_of op)
create_kind (OpCreate path access share disposition persist directory) = refl
create_kind (OpWrite create at bytes) = refl
create_kind (OpRead create at size) = refl
create_kind (OpEnd create size) = refl
create_kind (OpTime create time) = refl
create_kind (OpRename create path) = refl
create_kind (OpRemove create) = refl
create_kind (OpLock create at n exclusive) = refl
create_kind (OpUnlock create at n) = refl
create_kind (OpFlush create) = refl
create_kind (OpStat create) = refl
create_kind (OpList create) = refl
create_kind (OpClose create) = refl

-- the three tests of plain_after_end, apart
abbrev by_tests : (sent create : Bool) → (lost rest : Outcome) → Outcome
by_tests sent create lost rest = if sent then lost else if create then Unsettled else rest

module _ (c : Client) (g x : ℕ) where
  abbrev gone : Outcome
  gone = Unknown (SessionLost c.session_number)

  abbrev rest : Outcome
  rest = unsent_after_end x (c.sent x) (c.outcome x)

  pub lost_sent : (number : ℕ) → c.sent g ≡ true → c.session_number ≡ number → plain_after_end c g x ≡ Unknown (SessionLost number)
  lost_sent number e n = ap (λ b. by_tests b (is_create (c.op g)) gone rest) e ∙ ap (λ z. Unknown (SessionLost z)) n

  unsent : c.sent g ≡ false → is_create (c.op g) ≡ false → plain_after_end c g x ≡ rest
  unsent e k = ap (λ b. by_tests b (is_create (c.op g)) gone rest) e ∙ ap (λ b. if b then Unsettled else rest) k

  pub left_create : c.sent g ≡ false → is_create (c.op g) ≡ true → plain_after_end c g x ≡ Unsettled
  left_create e k = ap (λ b. by_tests b (is_create (c.op g)) gone rest) e ∙ ap (λ b. if b then Unsettled else rest) k

  stays : (o : Outcome) (b : Bool) → (is_unsettled o && not b) ≡ true → unsent_after_end x b o ≡ Unsettled
  stays Unsettled true u = absurd (cc)
  stays Unsettled false u = refl
  stays (WasOk reply) b u = absurd (cc)
  stays (WasRefused status) b u = absurd (cc)
  stays (NoSlot create) b u = absurd (cc)
  stays (NoOpen create) b u = absurd (cc)
  stays (Unknown why) b u = absurd (cc)

  pub left_unsent : c.sent g ≡ false → is_create (c.op g) ≡ false → (is_unsettled (c.outcome x) && not (c.sent x)) ≡ true
      → plain_after_end c g x ≡ Unsettled
  left_unsent e k u = unsent e k ∙ stays (c.outcome x) (c.sent x) u

  goes : (o : Outcome) (b : Bool) → (is_unsettled o && not b) ≡ false → unsent_after_end x b o ≡ NoOpen x
  goes Unsettled true u = refl
  goes Unsettled false u = absurd (cc)
  goes (WasOk reply) b u = refl
  goes (WasRefused status) b u = refl
  goes (NoSlot create) b u = refl
  goes (NoOpen create) b u = refl
  goes (Unknown why) b u = refl

  pub lost_open : c.sent g ≡ false → is_create (c.op g) ≡ false → (is_unsettled (c.outcome x) && not (c.sent x)) ≡ false
      → plain_after_end c g x ≡ NoOpen x
  lost_open e k u = unsent e k ∙ goes (c.outcome x) (c.sent x) u

-- ---- what the end leaves of any operation

module _ (c : Client) (g : ℕ) where
  pub after_settled : (o : Outcome) → is_unsettled o ≡ false → outcome_after_end c g o ≡ o
  after_settled Unsettled e = absurd (cc)
  after_settled (WasOk reply) e = refl
  after_settled (WasRefused status) e = refl
  after_settled (NoSlot create) e = refl
  after_settled (NoOpen create) e = refl
  after_settled (Unknown why) e = refl

  pub after_persist : (o : Outcome) → persists (c.op (create_for c g)) ≡ true → outcome_after_end c g o ≡ o
  after_persist Unsettled e = ap (λ b. if b then Unsettled else plain_after_end c g (create_for c g)) e
  after_persist (WasOk reply) e = refl
  after_persist (WasRefused status) e = refl
  after_persist (NoSlot create) e = refl
  after_persist (NoOpen create) e = refl
  after_persist (Unknown why) e = refl

  pub after_plain : (o : Outcome) → is_unsettled o ≡ true → persists (c.op (create_for c g)) ≡ false
      → outcome_after_end c g o ≡ plain_after_end c g (create_for c g)
  after_plain Unsettled u e = ap (λ b. if b then Unsettled else plain_after_end c g (create_for c g)) e
  after_plain (WasOk reply) u e = absurd (cc)
  after_plain (WasRefused status) u e = absurd (cc)
  after_plain (NoSlot create) u e = absurd (cc)
  after_plain (NoOpen create) u e = absurd (cc)
  after_plain (Unknown why) u e = absurd (cc)

  -- it is left where it is settled, or of an open that outlives its session
  pub after_left : (b q : Bool) → is_unsettled (c.outcome g) ≡ b → persists (c.op (create_for c g)) ≡ q → (not b || q) ≡ true
      → outcome_after_end c g (c.outcome g) ≡ c.outcome g
  after_left false q e p t = after_settled (c.outcome g) e
  after_left true true e p t = after_persist (c.outcome g) p
  after_left true false e p t = absurd (cc)

  pub after_lost : (b q : Bool) → is_unsettled (c.outcome g) ≡ b → persists (c.op (create_for c g)) ≡ q → (not b || q) ≡ false
      → (is_unsettled (c.outcome g) ≡ true) × (outcome_after_end c g (c.outcome g) ≡ plain_after_end c g (create_for c g))
  after_lost false q e p t = absurd (cc)
  after_lost true true e p t = absurd (cc)
  after_lost true false e p t = (e, after_plain (c.outcome g) e p)

pub unsettled_is : (o : Outcome) → is_unsettled o ≡ true → o ≡ Unsettled
unsettled_is Unsettled e = refl
unsettled_is (WasOk reply) e = absurd (cc)
unsettled_is (WasRefused status) e = absurd (cc)
unsettled_is (NoSlot create) e = absurd (cc)
unsettled_is (NoOpen create) e = absurd (cc)
unsettled_is (Unknown why) e = absurd (cc)

-- whether a create is waited for is told behind the end as before it
none_sent : (b s : Bool) → s ≡ true → (b && not s) ≡ false
none_sent true s e = ap (λ x. not x) e
none_sent false s e = refl

pub still_waits : (c : Client) (x : ℕ) → is_create (c.op x) ≡ true
    → (is_unsettled (outcome_after_end c x (c.outcome x)) && not (c.sent x)) ≡ (is_unsettled (c.outcome x) && not (c.sent x))
still_waits c x k = by_sent (c.sent x) refl
  where
    in_both : (b : Bool) (o : Outcome) → o ≡ Unsettled → is_unsettled (if b then Unsettled else o) ≡ true
    in_both true o e = refl
    in_both false o e = ap (λ z. is_unsettled z) e

    by_outcome : (o : Outcome) → c.sent x ≡ false → (is_unsettled (outcome_after_end c x o)) ≡ is_unsettled o
    by_outcome Unsettled e =
        in_both (persists (c.op (create_for c x))) (plain_after_end c x (create_for c x)) (left_create c x (create_for c x) e k)
    by_outcome (WasOk reply) e = refl
    by_outcome (WasRefused status) e = refl
    by_outcome (NoSlot create) e = refl
    by_outcome (NoOpen create) e = refl
    by_outcome (Unknown why) e = refl

    by_sent : (s : Bool) → c.sent x ≡ s
        → (is_unsettled (outcome_after_end c x (c.outcome x)) && not (c.sent x)) ≡ (is_unsettled (c.outcome x) && not (c.sent x))
    by_sent true e = none_sent (is_unsettled (outcome_after_end c x (c.outcome x))) (c.sent x) e
        ∙ sym (none_sent (is_unsettled (c.outcome x)) (c.sent x) e)
    by_sent false e = ap (λ b. b && not (c.sent x)) (by_outcome (c.outcome x) e)
