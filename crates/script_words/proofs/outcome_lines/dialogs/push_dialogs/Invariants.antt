use Rattle.std.proofs.Common.{◌≡◌, ◌++◌, take}
use Rattle.std.specs.List.{flat_map}
use Rattle.std.specs.String.{string_bytes}
use Rattle.client_values.specs.outcomes.Meaning.{dialog_of}
use Rattle.script_words.specs.outcome_lines.Text.{dialog_line}
use Rattle.script_words.proofs.outcome_lines.dialogs.push_dialogs.Given as goal

abbrev pub invariant-loop-dialog : goal.invariant-loop-dialog
invariant-loop-dialog l = string_bytes l.out
    ≡ string_bytes l.initial.out ++ flat_map (λ d. dialog_line (dialog_of d)) (take l.dialog-index l.dialogs)
