use Rattle.std.proofs.Common.{◌≡◌, ◌-◌, ◌≤◌, ℕ, List, length}
use Rattle.spec_exchange.specs.Client.{Client}
use Rattle.law_client.specs.table.Kept.{TableKept}
use Rattle.client_rows.specs.operation_rows.Choosing.{RowCounts}
use Rattle.client_rows.specs.operation_rows.Holding.{IsSafe}
use Rattle.client_rows.specs.Shown.{ShowsRows}
use Rattle.client_tables.specs.cuts.Cutting.{end_all}
use Rattle.client_tables.specs.settling.Shown.{GoesSettled, ShowsValues}
use Rattle.client_tables.specs.session_ends.Ending.{ended_below}
use Rattle.client_tables.proofs.session_ends.leaving.end_from.Given as goal

abbrev pub invariant-loop-at : goal.invariant-loop-at
invariant-loop-at l =
    record {
      above : l.from ≤ l.at;
      counted : length l.settled ≡ length l.fn.settled;
      settles : GoesSettled l.fn.rows l.rows;
      counts : RowCounts l.rows l.prices l.watchers;
      safe : (holders : List ℕ) → IsSafe l.fn.rows holders → IsSafe l.rows holders;
      shown : (c : Client) (holders : List ℕ) → TableKept c → c.session_number ≡ l.number → IsSafe l.fn.rows holders
          → ShowsValues l.fn.rows l.ops l.fn.settled c.taken c.op c.outcome
          → ShowsRows l.fn.rows holders l.fn.prices l.fn.watchers (end_all c)
          → ShowsRows l.rows holders l.prices l.watchers (ended_below c l.at)
          × ShowsValues l.rows l.ops l.settled c.taken c.op (ended_below c l.at).outcome;
    }

abbrev pub decreases-loop-at : goal.decreases-loop-at
decreases-loop-at l = length l.rows - l.at
