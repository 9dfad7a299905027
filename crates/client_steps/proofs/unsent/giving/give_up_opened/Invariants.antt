use Rattle.std.proofs.Common.{◌≡◌, ◌-◌, ◌<◌, true, length}
use Rattle.spec_exchange.specs.Operations.{is_create}
use Rattle.spec_exchange.specs.Client.{Client, is_gone}
use Rattle.spec_exchange.specs.Settling.{with_no_opens}
use Rattle.law_client.specs.table.Kept.{TableKept}
use Rattle.client_rows.specs.operation_rows.Rows.{owner}
use Rattle.client_tables.specs.settling.Shown.{GoesSettled}
use Rattle.client_tables.specs.whole_table.Shown.{TableFits, ShowsTable}
use Rattle.client_steps.specs.unsent.GivenUp.{given_below, reached}
use Rattle.client_steps.proofs.unsent.giving.give_up_opened.Given as goal

abbrev pub invariant-loop-at : goal.invariant-loop-at
invariant-loop-at l =
    record {
      inside : l.at < length l.fn.table.rows.items;
      own : 0 < l.at → owner l.fn.table.rows.items l.at ≡ owner l.fn.table.rows.items l.create;
      fits : TableFits l.table;
      session : l.table.session ≡ l.fn.table.session;
      settles : GoesSettled l.fn.table.rows.items l.table.rows.items;
      shown : (c : Client) → is_gone c l.create ≡ true → is_create (c.op l.create) ≡ true → TableKept (with_no_opens c l.create)
          → ShowsTable l.fn.table c → ShowsTable l.table (given_below c l.create (reached l.at (length l.fn.table.rows.items)));
    }

abbrev pub decreases-loop-at : goal.decreases-loop-at
decreases-loop-at l = length l.fn.table.rows.items - reached l.at (length l.fn.table.rows.items)
