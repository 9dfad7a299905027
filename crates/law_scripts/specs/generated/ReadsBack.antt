-- What is made reads back.
use Rattle.std.specs.Prelude.{◌≡◌, ℕ, ◌+◌, ◌*◌, ◌^◌, ◌≤◌, ◌<◌, Bool, true, List, [], ◌∷◌, ◌++◌, length, codes, Some, Ok}
use Rattle.std.specs.List.{flat_map}
use Rattle.script_words.specs.generator.Lines.{line_said, line_text}
use Rattle.script_words.specs.generator.Making.{made_lines}
use Rattle.script_words.specs.declared.generator.events.MadeEvent.{MadeEvent}
use Rattle.script_words.specs.declared.generator.events.MadeEvent.TheVariants as happens
use Rattle.script_words.specs.declared.generator.lines.MadeLine.{MadeLine}
use Rattle.script_words.specs.declared.generator.lines.MadeLine.TheVariants as made
use Rattle.script_words.specs.text_lines.Script.{Read, nothing_given, said, script}
use Rattle.script_words.specs.declared.text_lines.line.Line.{Line}
use Rattle.script_words.specs.Parts.{create_named}
use Rattle.script_words.specs.declared.values.Command.TheVariants.{Drill}
use Rattle.script_words.specs.declared.values.Given.{Given}

-- ---- one line

-- connections are from 0 to 255
abbrev pub IsMadeEvent : MadeEvent → Type 0
IsMadeEvent (happens.Link k) = k ≤ 255
IsMadeEvent (happens.Push k) = k ≤ 255
IsMadeEvent (happens.Serve k) = k ≤ 255
IsMadeEvent (happens.Cut k) = k ≤ 255
IsMadeEvent (happens.Drop k) = k ≤ 255
IsMadeEvent happens.Restart = Unit {0}
IsMadeEvent (happens.Crash kept) = Unit {0}
IsMadeEvent happens.Settle = Unit {0}

-- of the operations so far it is told whether each is a create: this one is
pub record IsMadeCreate (creates : List Bool) (n : ℕ) : Type 0 where
  pub few : n ≤ 1_048_576
  pub named : create_named creates n ≡ Some n

abbrev pub FitsBehind : List Bool → MadeLine → Type 0
FitsBehind creates (made.Event e) = IsMadeEvent e
FitsBehind creates (made.Create file) = file < 2 ^ 32
FitsBehind creates (made.Write create at word) = IsMadeCreate creates create × (at < 2 ^ 32)
FitsBehind creates (made.Lock create) = IsMadeCreate creates create
FitsBehind creates (made.Fill create at) = IsMadeCreate creates create × (at < 2 ^ 32)
FitsBehind creates (made.Read create) = IsMadeCreate creates create
FitsBehind creates (made.End create) = IsMadeCreate creates create
FitsBehind creates (made.Unlock create) = IsMadeCreate creates create
FitsBehind creates (made.Close create) = IsMadeCreate creates create

-- whatever settings stand in front
abbrev pub LinesReadBack : Type 0
LinesReadBack =
    (creates : List Bool) (g : Given) (l : MadeLine) → FitsBehind creates l → said Drill creates g (line_text l) ≡ Ok (Some (line_said l))

-- ---- a whole script

abbrev pub script_text : List MadeLine → List ℕ
script_text ls = flat_map (λ l. line_text l ++ codes "\n") ls

-- no setting is given, and the lines have begun
abbrev pub begun_without_settings : Given
begun_without_settings = record nothing_given { begun = true }

-- operations and events, by the numbers of their lines
unfoldable pub numbered : ℕ → List MadeLine → List Line
numbered before [] = []
numbered before (l ∷ ls) = record { number = before + 1; statement = line_said l } ∷ numbered (before + 1) ls

-- the script of a seed, with so many operations
abbrev pub made_script : ℕ → ℕ → Read
made_script seed operations = record { given = begun_without_settings; lines = numbered 0 (made_lines seed operations) }

-- within the limit on lines: a line has at most 64 bytes, so the text keeps within that on bytes
abbrev pub ScriptsReadBack : Type 0
ScriptsReadBack =
    (seed operations : ℕ) → operations ≤ 1_048_576 → length (made_lines seed operations) ≤ 4_194_304 →
    script Drill (script_text (made_lines seed operations)) ≡ Ok (made_script seed operations)

-- an operation, and at most eight events behind it
abbrev pub MadeAreFew : Type 0
MadeAreFew = (seed operations : ℕ) → length (made_lines seed operations) ≤ 1 + 9 * operations
