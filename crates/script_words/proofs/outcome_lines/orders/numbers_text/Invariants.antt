use Rattle.std.proofs.Common.{◌≡◌, take}
use Rattle.std.specs.List.{flat_map}
use Rattle.std.specs.String.{string_bytes}
use Rattle.script_words.specs.outcome_lines.Text.{behind_space}
use Rattle.script_words.proofs.outcome_lines.orders.numbers_text.Given as goal

abbrev pub invariant-loop-number : goal.invariant-loop-number
invariant-loop-number l = string_bytes l.shown ≡ flat_map behind_space (take l.number-index l.numbers)
