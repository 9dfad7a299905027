use Rattle.std.proofs.Common.{◌≡◌, List, ℕ, length, take}
use Rattle.spec_exchange.specs.Client.{Client}
use Rattle.client_rows.specs.operation_rows.Choosing.{RowCounts}
use Rattle.client_rows.specs.operation_rows.Holding.{IsSafe}
use Rattle.client_rows.specs.Shown.{ShowsRows}
use Rattle.client_tables.specs.cuts.Cutting.{CutLoses, cut_of}
use Rattle.client_tables.proofs.cuts.cutting.lose_channel.Given as goal

abbrev pub invariant-loop-number : goal.invariant-loop-number
invariant-loop-number l =
    record {
      count : length l.rows ≡ length l.fn.rows;
      loses : CutLoses l.fn.rows l.rows;
      counts : RowCounts l.rows l.prices l.watchers;
      safe : (holders : List ℕ) → IsSafe l.fn.rows holders → IsSafe l.rows holders;
      shown : (c : Client) (holders : List ℕ) → ShowsRows l.fn.rows holders l.fn.prices l.watchers c
          → ShowsRows l.rows holders l.prices l.watchers (cut_of c l.channel (take l.number-index l.numbers));
    }
