use Rattle.base_lists.specs.price_table.Prices.{Before}
use Rattle.base_lists.proofs.price_table.lows.Lows.first_behind.Given as goal

abbrev pub invariant-loop-block : goal.invariant-loop-block
invariant-loop-block l = Before l.limit l.self l.from l.block
