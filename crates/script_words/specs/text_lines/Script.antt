-- The lines of a script. A script is UTF-8 lines ended by line feeds, the last of which may be left out.
use Rattle.std.specs.Prelude.{ℕ, ◌+◌, ◌-◌, ◌==◌, nat_le, Bool, true, false, not, ◌&&◌, ◌||◌, if◌then◌else◌, List, []}
use Rattle.std.specs.Prelude.{◌∷◌, ◌++◌, length, take, slice_index, Option, Some, None, Result, Ok, Err}
use Rattle.std.specs.Str.{is_utf8}
use Rattle.spec_exchange.specs.Operations.{is_create}
use Rattle.client_values.specs.operations.Meaning.{op_of}
use Rattle.script_words.specs.Outcome.{◌>>=◌}
use Rattle.script_words.specs.Pieces.{pieces}
use Rattle.script_words.specs.Words.{statement}
use Rattle.script_words.specs.declared.values.Code.{Code}
use Rattle.script_words.specs.declared.values.Code.TheVariants.{BadLine, TooLong}
use Rattle.script_words.specs.declared.values.Command.{Command}
use Rattle.script_words.specs.declared.values.Given.{Given}
use Rattle.script_words.specs.declared.values.Setting.{Setting as Value}
use Rattle.script_words.specs.declared.values.Setting.TheVariants as settings
use Rattle.script_words.specs.declared.values.Statement.{Statement}
use Rattle.script_words.specs.declared.values.Statement.TheVariants.{Setting, Operation, Event}
use Rattle.script_words.specs.declared.text_lines.line.Line.{Line}
use Rattle.script_words.specs.declared.text_lines.line.Refusal.{Refusal}

-- ---- what earlier lines leave for the later: of each operation whether it is a create, and the settings

abbrev pub creates_in : Statement → List Bool
creates_in (Setting s) = []
creates_in (Operation kind) = is_create (op_of kind) ∷ []
creates_in (Event e) = []

abbrev pub creates_said : Option Statement → List Bool
creates_said None = []
creates_said (Some says) = creates_in says

abbrev pub given_with : Given → Value → Given
given_with g (settings.Cipher cipher) = record g { cipher = Some cipher }
given_with g (settings.Signing signing) = record g { signing = Some signing }
given_with g (settings.Room room) = record g { room = Some room }
given_with g (settings.User user) = record g { users = g.users ++ user ∷ [] }
given_with g (settings.Share share) = record g { share = Some share }
given_with g (settings.Channels channels) = record g { channels = Some channels }

abbrev pub given_after : Given → Statement → Given
given_after g (Setting s) = given_with g s
given_after g (Operation kind) = record g { begun = true }
given_after g (Event e) = record g { begun = true }

abbrev pub given_said : Given → Option Statement → Given
given_said g None = g
given_said g (Some says) = given_after g says

abbrev pub nothing_given : Given
nothing_given = record { cipher = None; signing = None; room = None; users = []; share = None; channels = None; begun = false }

-- ---- one line

-- a line that is empty or a comment
abbrev pub says_nothing : List ℕ → Bool
says_nothing line = length line == 0 || slice_index line 0 == 35

abbrev pub some : Result Statement Code → Result (Option Statement) Code
some (Ok statement) = Ok (Some statement)
some (Err code) = Err code

-- what one line says, its words divided by one space each
unfoldable pub said : Command → List Bool → Given → List ℕ → Result (Option Statement) Code
said command creates given line =
    if not (is_utf8 line) then Err BadLine
    else if says_nothing line then Ok None
    else some (statement command creates given (pieces 32 line))

-- an operation that passes the limit on them is too long
abbrev pub within : ℕ → Option Statement → Result (Option Statement) Code
within before said = if nat_le (before + length (creates_said said)) 1_048_576 then Ok said else Err TooLong

-- what a line says behind so many lines; it is too long where it passes a limit
unfoldable pub judged : Command → Bool → ℕ → List Bool → Given → List ℕ → Result (Option Statement) Code
judged command past lines creates given line =
    if past || nat_le 4_194_304 lines then Err TooLong else said command creates given line >>= within (length creates)

-- ---- all lines

-- a refusal with its line
abbrev pub at_line : {A : Type 0} → ℕ → Result A Code → Result A Refusal
at_line line (Ok x) = Ok x
at_line line (Err code) = Err (record { line = line; code = code })

-- settings are kept apart; of the others each has its line's number
abbrev pub line_of : ℕ → Statement → List Line
line_of number (Setting s) = []
line_of number (Operation kind) = record { number = number; statement = Operation kind } ∷ []
line_of number (Event e) = record { number = number; statement = Event e } ∷ []

abbrev pub line_saying : ℕ → Option Statement → List Line
line_saying number None = []
line_saying number (Some says) = line_of number says

-- What was read of a script: the settings, and the other lines that say something.
pub record Read : Type 0 where
  pub given : Given
  pub lines : List Line

abbrev pub with_lines : List Line → Read → Read
with_lines front r = record r { lines = front ++ r.lines }

-- the lines behind so many, and behind operations and settings, or the first refused line. The last one of a text that was cut at
-- the limit on bytes passes it.
unfoldable pub lines_from : Command → Bool → ℕ → List Bool → Given → List (List ℕ) → Result Read Refusal
lines_from command cut number creates given [] = Ok (record { given = given; lines = [] })
lines_from command cut number creates given (line ∷ more) = do
  says ← at_line (number + 1) (judged command (cut && length more == 0) number creates given line)
  rest ← lines_from command cut (number + 1) (creates ++ creates_said says) (given_said given says) more
  Ok (with_lines (line_saying (number + 1) says) rest)

abbrev pub lines_of : Command → Bool → List ℕ → Result Read Refusal
lines_of command cut text = lines_from command cut 0 [] nothing_given (pieces 10 text)

-- a text without a line feed at its end
abbrev pub without_last_feed : List ℕ → List ℕ
without_last_feed text = if slice_index text (length text - 1) == 10 then take (length text - 1) text else text

-- what a script says, or its first refused line
unfoldable pub script : Command → List ℕ → Result Read Refusal
script command text =
    if nat_le (length text) 268_435_456 then lines_of command false (without_last_feed text)
    else lines_of command true (take 268_435_456 text)
