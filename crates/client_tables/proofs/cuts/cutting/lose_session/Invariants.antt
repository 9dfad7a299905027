use Rattle.std.proofs.Common.{◌≡◌, List, ℕ, true, false, length, take}
use Rattle.spec_exchange.specs.Table.{has}
use Rattle.client_rows.specs.operation_rows.Rows.{is_out}
use Rattle.spec_exchange.specs.Client.{Client}
use Rattle.client_rows.specs.operation_rows.Choosing.{RowCounts}
use Rattle.client_rows.specs.operation_rows.Holding.{IsSafe}
use Rattle.client_rows.specs.Shown.{ShowsRows}
use Rattle.client_tables.specs.cuts.Cutting.{CutLoses, end_of}
use Rattle.client_tables.proofs.cuts.cutting.lose_session.Given as goal

abbrev pub invariant-loop-number : goal.invariant-loop-number
invariant-loop-number l =
    record {
      count : length l.rows ≡ length l.fn.rows;
      loses : CutLoses l.fn.rows l.rows;
      none : (g : ℕ) → has g (take l.number-index l.numbers) ≡ true → is_out l.rows g ≡ false;
      counts : RowCounts l.rows l.prices l.watchers;
      safe : (holders : List ℕ) → IsSafe l.fn.rows holders → IsSafe l.rows holders;
      shown : (c : Client) (holders : List ℕ) → ShowsRows l.fn.rows holders l.fn.prices l.watchers c
          → ShowsRows l.rows holders l.prices l.watchers (end_of c (take l.number-index l.numbers));
    }
