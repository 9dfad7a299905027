-- A write or an end that settled Refused under an open that denies writers never acted: the statement, and what holds of
-- refusals in every world that a run leads to.
use Rattle.std.specs.Prelude.{◌≡◌, ℕ, ◌==◌, Bool, true, ◌||◌, List, ◌++◌, Option, Some, None, slice_get}
use Rattle.spec_exchange.specs.Status.{file_lock_conflict, disk_full}
use Rattle.spec_exchange.specs.Content.{is_change}
use Rattle.spec_exchange.specs.Operations.{Op, Outcome, WasRefused, is_write, content_op}
use Rattle.spec_exchange.specs.Client.{create_for}
use Rattle.spec_exchange.specs.Network.{World, Event, Received, ForOp, Settings, run, start}
use Rattle.spec_exchange.specs.Runs.{acts, isolates}
use Rattle.law_sessions.specs.messages.Connections.{its_create}
use Rattle.law_order.specs.order.Contents.{edits, isolating}

-- ---- the statement

-- A write or end that settled Refused, under the open of a create that settled Ok and denies writers, acted at no event, and
-- acts at none that comes: no copy of it changed or changes bytes or times.
abbrev pub RefusedNeverActs : Type 0
RefusedNeverActs =
    (z : Settings) (events more : List Event) (g status : ℕ) → (run events (start z)).client.outcome g
    ≡ WasRefused status → is_change (content_op ((run events (start z)).client.op g)) ≡ true
    → isolates (run events (start z)) (create_for (run events (start z)).client g) ≡ true → acts (events ++ more) (start z) g ≡ 0

-- ---- what holds in every world

-- a write or an end under the open of a create that denies writers
pub record Guarded (ops : ℕ → Op) (g : ℕ) : Type 0 where
  pub edit : edits (ops g) ≡ true
  pub denies : isolating (ops (its_create g (ops g))) ≡ true

-- the statuses by which a write settles as Refused though a copy of it is unanswered
abbrev pub refuses_writes : ℕ → Bool
refuses_writes status = (status == file_lock_conflict) || (status == disk_full)

-- a write to which such a reply waits hasn't acted
abbrev pub ReplyUnacted : (ℕ → Op) → (ℕ → Option ℕ) → Received → Type 0
ReplyUnacted ops first y = (g : ℕ) → y.token ≡ ForOp g → Guarded ops g → is_write (ops g) ≡ true
    → refuses_writes y.reply.status ≡ true → first g ≡ None

-- nor has an edit that settled Refused
abbrev pub SettledUnacted : (ℕ → Op) → (ℕ → Outcome) → (ℕ → Option ℕ) → Type 0
SettledUnacted ops outcome first = (g status : ℕ) → outcome g ≡ WasRefused status → Guarded ops g → first g ≡ None

-- by operation: the place at which it first acted
pub record Refusals (w : World) : Type 0 where
  pub replies : (k n : ℕ) (y : Received) → slice_get (w.conns k).down n ≡ Some y → ReplyUnacted w.client.op w.log.first y
  pub settled : SettledUnacted w.client.op w.client.outcome w.log.first
