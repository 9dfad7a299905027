use Rattle.std.proofs.Common.{◌≡◌, ◌++◌, take}
use Rattle.std.specs.List.{flat_map}
use Rattle.std.specs.String.{string_bytes}
use Rattle.script_words.specs.outcome_lines.Text.{order_line}
use Rattle.script_words.proofs.outcome_lines.orders.push_orders.Given as goal

abbrev pub invariant-loop-order : goal.invariant-loop-order
invariant-loop-order l = string_bytes l.out ≡ string_bytes l.initial.out ++ flat_map order_line (take l.order-index l.orders)
