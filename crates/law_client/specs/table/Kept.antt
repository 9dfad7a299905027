-- What holds of a client's table whatever happened, as long as it gives up only while no session is live.
use Rattle.std.specs.Prelude.{◌≡◌, ℕ, ◌<◌, ◌≤◌, true, false}
use Rattle.spec_exchange.specs.Client.{Client}
use Rattle.spec_exchange.specs.ClientStep.{ClientEvent, Finishes}
use Rattle.law_client.specs.table.Columns.{Ops, Standing, ops_of, standing_of, IsClientFirst}

-- of what was taken alone
pub record Ordered (o : Ops) : Type 0 where
  -- number 0 is none
  pub nought : o.of 0 ≡ 0
  -- an operation's create is a lower create
  pub owned : (g : ℕ) → 0 < g → g ≤ o.taken → o.create g ≡ false → 0 < o.of g × o.of g < g × o.create (o.of g) ≡ true
  pub itself : (g : ℕ) → o.create g ≡ true → o.of g ≡ g
  -- a create holds nothing up but by not being settled
  pub passes : (h g : ℕ) → o.create h ≡ true → o.holds h g ≡ false

pub record TableStands (o : Ops) (s : Standing) : Type 0 where
  -- an unsettled operation's create is unsettled or Ok
  pub opened : (g : ℕ) → 0 < g → g ≤ o.taken → o.create g ≡ false → s.unsettled g ≡ true → s.unsettled (o.of g) ≡ false
      → s.ok (o.of g) ≡ true
  pub ok_settled : (g : ℕ) → s.ok g ≡ true → s.unsettled g ≡ false
  -- what is outstanding is unsettled, was taken, has its create Ok, waits for nothing, and a session is live
  pub out_unsettled : (g : ℕ) → s.out g ≡ true → s.unsettled g ≡ true
  pub out_taken : (g : ℕ) → s.out g ≡ true → 0 < g × g ≤ o.taken
  pub out_open : (g : ℕ) → s.out g ≡ true → o.create g ≡ false → s.ok (o.of g) ≡ true
  pub out_first : (g : ℕ) → s.out g ≡ true → IsClientFirst o s g
  pub out_live : (g : ℕ) → s.out g ≡ true → s.live ≡ true
  -- what was sent was taken, has its create Ok, and waits for nothing
  pub sent_taken : (g : ℕ) → s.sent g ≡ true → 0 < g × g ≤ o.taken
  pub sent_open : (g : ℕ) → s.sent g ≡ true → o.create g ≡ false → s.ok (o.of g) ≡ true
  pub sent_first : (g : ℕ) → s.sent g ≡ true → IsClientFirst o s g
  -- what settled waits for nothing
  pub settled_first : (g : ℕ) → 0 < g → g ≤ o.taken → s.unsettled g ≡ false → IsClientFirst o s g
  -- all of an open that is gone are settled
  pub gone_settled : (g : ℕ) → 0 < g → g ≤ o.taken → o.create g ≡ false → s.gone (o.of g) ≡ true → s.unsettled g ≡ false

pub record TableKept (c : Client) : Type 0 where
  pub ordered : Ordered (ops_of c)
  pub stands : TableStands (ops_of c) (standing_of c)
  -- a channel is ready only in a live session
  pub ready : (k : ℕ) → c.ready k ≡ true → c.live ≡ true

-- it gives up only while no session is live
abbrev pub IsTimely : Client → ClientEvent → Type 0
IsTimely c (Finishes why) = c.live ≡ false
IsTimely c _ = Unit {0}
