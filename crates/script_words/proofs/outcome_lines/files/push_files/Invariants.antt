use Rattle.std.proofs.Common.{◌≡◌, ◌++◌, take}
use Rattle.std.specs.List.{flat_map}
use Rattle.std.specs.String.{string_bytes}
use Rattle.script_words.specs.outcome_lines.Text.{file_line}
use Rattle.script_words.proofs.outcome_lines.files.push_files.Given as goal

abbrev pub invariant-loop-file : goal.invariant-loop-file
invariant-loop-file l = string_bytes l.out ≡ string_bytes l.initial.out ++ flat_map file_line (take l.file-index l.files)
