-- What was read of a script, as its definition has it, and a refusal with its line.
use Rattle.std.specs.Prelude.{ℕ, Result, Ok, Err}
use Rattle.script_words.specs.declared.values.Code.{Code}
use Rattle.script_words.specs.declared.values.Fault.{Fault}
use Rattle.script_words.specs.declared.values.Fault.TheVariants.{Memory, Refused}
use Rattle.script_words.specs.text_lines.Script.{Read}
use Rattle.script_words.specs.declared.text_lines.line.Refusal.{Refusal}
use Rattle.script_words.specs.declared.text_lines.line.Script.{Script}

abbrev pub read_of : Script → Read
read_of s = record { given = s.given; lines = s.lines.items }

-- a refusal gets its line
abbrev pub fault_at_line : {A : Type 0} → ℕ → Result A (Fault Code) → Result A (Fault Refusal)
fault_at_line line (Ok x) = Ok x
fault_at_line line (Err Memory) = Err Memory
fault_at_line line (Err (Refused code)) = Err (Refused (record { line = line; code = code }))
