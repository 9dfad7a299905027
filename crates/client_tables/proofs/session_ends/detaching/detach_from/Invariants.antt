use Rattle.std.proofs.Common.{◌≡◌, ◌-◌, ◌≤◌, ℕ, List, length}
use Rattle.spec_exchange.specs.Client.{Client}
use Rattle.client_rows.specs.operation_rows.Rows.{stands}
use Rattle.client_rows.specs.operation_rows.Choosing.{RowCounts}
use Rattle.client_rows.specs.operation_rows.Holding.{IsSafe}
use Rattle.client_rows.specs.Shown.{ShowsRows}
use Rattle.client_tables.specs.costs.Costs.{ShowsPaid}
use Rattle.client_tables.specs.cuts.Cutting.{end_all}
use Rattle.client_tables.specs.settling.Shown.{GoesSettled}
use Rattle.client_tables.proofs.session_ends.Unattached.{unpaid}
use Rattle.client_tables.proofs.session_ends.detaching.detach_from.Given as goal

abbrev pub invariant-loop-at : goal.invariant-loop-at
invariant-loop-at l =
    record {
      above : l.from ≤ l.at;
      settles : GoesSettled l.fn.rows l.rows;
      stands : (g : ℕ) → stands l.rows g ≡ stands l.fn.rows g;
      counts : RowCounts l.rows l.prices l.watchers;
      safe : (holders : List ℕ) → IsSafe l.fn.rows holders → IsSafe l.rows holders;
      shown : (c : Client) (holders : List ℕ) → ShowsRows l.fn.rows holders l.fn.prices l.watchers (end_all c)
          → ShowsPaid l.rows holders l.prices l.watchers (end_all c) (unpaid c l.from l.at);
    }

abbrev pub decreases-loop-at : goal.decreases-loop-at
decreases-loop-at l = length l.rows - l.at
