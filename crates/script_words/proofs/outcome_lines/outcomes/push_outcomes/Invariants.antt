use Rattle.std.proofs.Common.{◌≡◌, ◌+◌, ◌++◌, drop, map}
use Rattle.std.specs.String.{string_bytes}
use Rattle.client_values.specs.outcomes.Meaning.{outcome_of}
use Rattle.script_words.specs.outcome_lines.Text.{settled_lines}
use Rattle.script_words.proofs.outcome_lines.outcomes.push_outcomes.Given as goal

abbrev pub invariant-loop-place : goal.invariant-loop-place
invariant-loop-place l = string_bytes l.out ++ settled_lines (l.place + 1) (map outcome_of (drop l.place l.settled))
    ≡ string_bytes l.initial.out ++ settled_lines 1 (map outcome_of l.settled)
