use Rattle.std.proofs.Common.{◌≡◌, ◌++◌, take}
use Rattle.std.specs.List.{flat_map}
use Rattle.std.specs.String.{string_bytes}
use Rattle.script_words.specs.outcome_lines.Text.{behind_slash}
use Rattle.script_words.proofs.outcome_lines.outcomes.with_more.Given as goal

abbrev pub invariant-loop-name : goal.invariant-loop-name
invariant-loop-name l = string_bytes l.shown ≡ l.fn.first ++ flat_map behind_slash (take l.name-index l.more)
