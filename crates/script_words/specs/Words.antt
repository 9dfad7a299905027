-- What the words of a line say: a setting, an operation or an event. `serve` takes settings alone, `run` settings and operations.
use Rattle.std.specs.Prelude.{ℕ, ◌==◌, Bool, ◌||◌, if◌then◌else◌, List, length, codes, Result, Ok, Err}
use Rattle.std.specs.Str.{bytes_eq}
use Rattle.script_words.specs.Outcome.{◌>>=◌}
use Rattle.script_words.specs.Parts.{Reading, word}
use Rattle.script_words.specs.Operations as operations
use Rattle.script_words.specs.Events as events
use Rattle.script_words.specs.Settings as settings
use Rattle.script_words.specs.declared.values.Code.{Code}
use Rattle.script_words.specs.declared.values.Code.TheVariants.{BadLine}
use Rattle.script_words.specs.declared.values.Command.{Command}
use Rattle.script_words.specs.declared.values.Given.{Given}
use Rattle.script_words.specs.declared.values.Statement.{Statement}
use Rattle.script_words.specs.declared.values.Statement.TheVariants.{Setting, Operation, Event}

-- the first word of a setting
abbrev pub names_setting : List ℕ → Bool
names_setting name = bytes_eq name (codes "cipher") || (bytes_eq name (codes "signing") || (bytes_eq name (codes "room")
    || (bytes_eq name (codes "user") || (bytes_eq name (codes "share") || bytes_eq name (codes "channels")))))

unfoldable pub setting : Command → Given → List ℕ → List (List ℕ) → Reading Statement
setting command given name words = do
  line_part ← settings.setting command given name words
  Ok (Setting line_part.0, line_part.1)

unfoldable pub operation : Command → List Bool → List (List ℕ) → Reading Statement
operation command creates words = do
  line_part ← (if settings.serves command then Err BadLine else operations.operation creates words)
  Ok (Operation line_part.0, line_part.1)

unfoldable pub event : Command → List ℕ → List (List ℕ) → Reading Statement
event command name words = do
  line_part ← (if settings.drills command then events.event name words else Err BadLine)
  Ok (Event line_part.0, line_part.1)

-- the first part of a line: the words behind it are left
unfoldable pub line_part : Command → List Bool → Given → List (List ℕ) → Reading Statement
line_part command creates given words = do
  name ← word words
  if bytes_eq name.0 (codes "op") then operation command creates name.1
      else if names_setting name.0 then setting command given name.0 name.1
      else event command name.0 name.1

abbrev pub ends_line : Statement × List (List ℕ) → Result Statement Code
ends_line reading = if length reading.1 == 0 then Ok reading.0 else Err BadLine

-- what all the words of a line say, behind operations of which it is told whether each is a create, and behind settings
unfoldable pub statement : Command → List Bool → Given → List (List ℕ) → Result Statement Code
statement command creates given words = line_part command creates given words >>= ends_line
