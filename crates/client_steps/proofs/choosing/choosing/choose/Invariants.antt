use Rattle.std.proofs.Common.{◌≡◌, ◌+◌, ◌-◌, ◌<◌, ◌≤◌, ℕ, true, List, length}
use Rattle.spec_exchange.specs.Client.{Client, settle_no_slots}
use Rattle.law_client.specs.table.Kept.{TableKept}
use Rattle.client_tables.specs.whole_table.Shown.{TableFits, ShowsTable}
use Rattle.client_tables.specs.attached_opens.Places.{KeepsPlaces}
use Rattle.client_tables.specs.attached_opens.Opens.{ShowsAttached}
use Rattle.client_steps.proofs.choosing.Resting.{Rest}
use Rattle.client_steps.proofs.choosing.choosing.choose.Given as goal

abbrev pub invariant-loop-from : goal.invariant-loop-from
invariant-loop-from l =
    record {
      above : 0 < l.from;
      fits : TableFits l.table;
      session : l.table.session ≡ l.fn.table.session;
      places : KeepsPlaces l.fn.table.rows.items l.table.rows.items;
      shown : (c : Client) (k : ℕ) → ShowsTable l.fn.table c → ShowsAttached l.fn.table.rows.items l.attached c → TableKept c
          → c.ready k ≡ true
          → (s : List ℕ) × (ShowsTable l.table (settle_no_slots c k s)) × (Rest c k l.credits s l.from) × (l.from ≤ c.taken + 1);
    }

abbrev pub decreases-loop-from : goal.decreases-loop-from
decreases-loop-from l = length l.table.rows.items - l.from
