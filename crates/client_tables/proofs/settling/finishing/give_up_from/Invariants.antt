use Rattle.std.proofs.Common.{◌≡◌, ◌-◌, ◌≤◌, ℕ, List, length}
use Rattle.spec_exchange.specs.Client.{Client}
use Rattle.client_values.specs.declared.operations.values.OpKind.{OpKind}
use Rattle.client_rows.specs.operation_rows.Choosing.{RowCounts}
use Rattle.client_rows.specs.operation_rows.Holding.{IsSafe}
use Rattle.client_values.specs.outcomes.Meaning.{why_of}
use Rattle.client_rows.specs.Shown.{ShowsRows}
use Rattle.client_tables.specs.settling.GivenUp.{finished_below}
use Rattle.client_tables.specs.settling.Shown.{AreSettledBelow, GoesSettled, ShowsValues}
use Rattle.client_tables.proofs.settling.finishing.give_up_from.Given as goal

abbrev pub invariant-loop-at : goal.invariant-loop-at
invariant-loop-at l =
    record {
      above : l.from ≤ l.at;
      counted : length l.settled ≡ length l.fn.settled;
      settles : GoesSettled l.fn.rows l.rows;
      counts : RowCounts l.rows l.prices l.watchers;
      safe : (holders : List ℕ) → IsSafe l.fn.rows holders → IsSafe l.rows holders;
      below : AreSettledBelow l.rows l.at;
      shown : (c : Client) (holders : List ℕ) → IsSafe l.fn.rows holders
          → ShowsRows l.fn.rows holders l.fn.prices l.fn.watchers c
          → ShowsRows l.rows holders l.prices l.watchers (finished_below c (why_of l.why) l.at);
      values : (c : Client) (ops : List OpKind) → ShowsValues l.fn.rows ops l.fn.settled c.taken c.op c.outcome
          → ShowsValues l.rows ops l.settled c.taken c.op (finished_below c (why_of l.why) l.at).outcome;
    }

abbrev pub decreases-loop-at : goal.decreases-loop-at
decreases-loop-at l = length l.rows - l.at
