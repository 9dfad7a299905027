-- The lines of a script that is made: their texts, without a line feed, and what they say.
use Rattle.std.specs.Prelude.{ℕ, true, false, if◌then◌else◌, List, ◌++◌, codes, replicate}
use Rattle.std.specs.Fmt.{decimal}
use Rattle.std.specs.Int.{w32, to_le_bytes}
use Rattle.hex.specs.Hex.{encode_lower}
use Rattle.client_values.specs.declared.operations.values.OpKind.{OpKind}
use Rattle.client_values.specs.declared.operations.values.OpKind.TheVariants as kinds
use Rattle.script_words.specs.declared.generator.events.MadeEvent.{MadeEvent}
use Rattle.script_words.specs.declared.generator.events.MadeEvent.TheVariants as happens
use Rattle.script_words.specs.declared.generator.lines.MadeLine.{MadeLine}
use Rattle.script_words.specs.declared.generator.lines.MadeLine.TheVariants as made
use Rattle.script_words.specs.declared.values.ScriptEvent.{ScriptEvent}
use Rattle.script_words.specs.declared.values.ScriptEvent.TheVariants as events
use Rattle.script_words.specs.declared.values.Statement.{Statement}
use Rattle.script_words.specs.declared.values.Statement.TheVariants as statements

-- ---- texts

unfoldable pub event_text : MadeEvent → List ℕ
event_text (happens.Link k) = codes "link " ++ decimal k
event_text (happens.Push k) = codes "push " ++ decimal k
event_text (happens.Serve k) = codes "serve " ++ decimal k
event_text (happens.Cut k) = codes "cut " ++ decimal k
event_text (happens.Drop k) = codes "drop " ++ decimal k
event_text happens.Restart = codes "restart"
event_text (happens.Crash kept) = if kept then codes "crash 0 kept" else codes "crash 0 lost"
event_text happens.Settle = codes "settle"

-- what is written is a word of 32 bits, least byte first
unfoldable pub line_text : MadeLine → List ℕ
line_text (made.Event e) = event_text e
line_text (made.Create file) = codes "op create f" ++ (decimal file ++ codes " rw - openif persist")
line_text (made.Write create at word) =
    codes "op write " ++ (decimal create ++ (codes " " ++ (decimal at ++ (codes " " ++ encode_lower (to_le_bytes w32 word)))))
line_text (made.Lock create) = codes "op lock " ++ (decimal create ++ codes " 0 10 exclusive")
line_text (made.Fill create at) = codes "op fill " ++ (decimal create ++ (codes " " ++ (decimal at ++ codes " 50 61")))
line_text (made.Read create) = codes "op read " ++ (decimal create ++ codes " 0 200")
line_text (made.End create) = codes "op end " ++ (decimal create ++ codes " 100")
line_text (made.Unlock create) = codes "op unlock " ++ (decimal create ++ codes " 0 10")
line_text (made.Close create) = codes "op close " ++ decimal create

-- ---- what they say

abbrev pub event_said : MadeEvent → ScriptEvent
event_said (happens.Link k) = events.Link k
event_said (happens.Push k) = events.Push k
event_said (happens.Serve k) = events.Serve k
event_said (happens.Cut k) = events.Cut k
event_said (happens.Drop k) = events.Drop k
event_said happens.Restart = events.Restart
event_said (happens.Crash kept) = events.Crash 0 kept
event_said happens.Settle = events.Settle

-- FILE_READ_DATA, FILE_READ_ATTRIBUTES, FILE_WRITE_DATA and FILE_WRITE_ATTRIBUTES (MS-SMB2 2.2.13.1.1), and FILE_OPEN_IF (2.2.13)
abbrev pub creates_file : ℕ → OpKind
creates_file file = kinds.Create (codes "f" ++ decimal file) 0x183 0 3 true false

abbrev pub line_said : MadeLine → Statement
line_said (made.Event e) = statements.Event (event_said e)
line_said (made.Create file) = statements.Operation (creates_file file)
line_said (made.Write create at word) = statements.Operation (kinds.Write create at (to_le_bytes w32 word))
line_said (made.Lock create) = statements.Operation (kinds.Lock create 0 10 true)
line_said (made.Fill create at) = statements.Operation (kinds.Write create at (replicate 50 0x61))
line_said (made.Read create) = statements.Operation (kinds.Read create 0 200)
line_said (made.End create) = statements.Operation (kinds.SetEnd create 100)
line_said (made.Unlock create) = statements.Operation (kinds.Unlock create 0 10)
line_said (made.Close create) = statements.Operation (kinds.Close create)
