-- The statements: over every list of events, a create, lock or unlock acts at most once, and once if acknowledged; no write
-- or set-info acts after a newer sequence reached its open; a file under an open that denies writers is one connection's.
use Rattle.std.specs.Prelude.{◌≡◌, ℕ, ◌<◌, ◌≤◌, true, false, List, ◌++◌, Some}
use Rattle.spec_exchange.specs.Order.{Legal, order_of, bytes_at_birth, bytes_at_last}
use Rattle.spec_exchange.specs.Operations.{is_ok, is_unsettled}
use Rattle.spec_exchange.specs.Network.{World, Event, Settings, run, start}
use Rattle.spec_exchange.specs.Runs.{acts, is_once, never_acted, is_newer, alters, account, isolates, stands_open}

-- once, over a run from an opening state
pub record Once (events : List Event) (w : World) : Type 0 where
  -- each create, lock and unlock acts at most once
  pub at_most : (g : ℕ) → is_once ((run events w).client.op g) ≡ true → acts events w g ≤ 1
  -- exactly once where it settled Ok
  pub acknowledged : (g : ℕ) → is_once ((run events w).client.op g) ≡ true → is_ok ((run events w).client.outcome g)
      ≡ true → acts events w g ≡ 1
  -- never where it settled Refused, NoSlot or NoOpen, and not later either
  pub never : (g : ℕ) (more : List Event) → is_once ((run events w).client.op g) ≡ true
      → never_acted ((run events w).client.outcome g) ≡ true → acts (events ++ more) w g ≡ 0

-- newer: where a write or set-info acts on an open, no pair that reached it before is newer than the message's
abbrev pub NeverAfterNewer : World → Type 0
NeverAfterNewer w = (n i o : ℕ) → n < w.log.places → i < n → alters w n o ≡ true → w.trace.reached i ≡ Some o → is_newer w i n ≡ false

-- one connection's: the order of each create that settled Ok and denies writers is legal, from the bytes behind the event in
-- which it acted to its bytes now, or before the step by which its open left
abbrev pub OneConnections : World → Type 0
OneConnections w = (c : ℕ) → isolates w c ≡ true → Legal (account w) c (order_of (account w) c)
    (bytes_at_birth (account w) c) (bytes_at_last (account w) c)

-- its bytes now are its file's, while its open stands
abbrev pub BytesNow : World → Type 0
BytesNow w = (c o : ℕ) → isolates w c ≡ true → stands_open w c o ≡ true → bytes_at_last (account w) c
    ≡ w.server.content (w.server.opened o).file

abbrev pub ExactlyOnce : Type 0
ExactlyOnce = (z : Settings) (events : List Event) → Once events (start z)

abbrev pub Newer : Type 0
Newer = (z : Settings) (events : List Event) → NeverAfterNewer (run events (start z))

abbrev pub OneConnection : Type 0
OneConnection = (z : Settings) (events : List Event) → OneConnections (run events (start z)) × BytesNow (run events (start z))

-- once settled it stays, whatever number it has
abbrev pub SettledStays : Type 0
SettledStays = (z : Settings) (events more : List Event) (g : ℕ)
    → is_unsettled ((run events (start z)).client.outcome g) ≡ false → (run (events ++ more) (start z)).client.outcome g
    ≡ (run events (start z)).client.outcome g
