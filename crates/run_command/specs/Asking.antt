-- What is read for `run`, and what is written of it. Of a source it is told what it had left, of source and sink how often they had
-- failed, and of a sink what it held, before and behind.
use Rattle.std.specs.Prelude.{◌≡◌, ◌⊎◌, ℕ, List, [], ◌∷◌, ◌++◌, Option, Result, Ok, Err}
use Rattle.std.specs.Io.KnownBytes.{Appends, Keeps}
use Rattle.base_outside.specs.streams.Faults.{Rose}
use Rattle.base_outside.specs.whole_texts.Outside.{AppendsFront, HasRead}
use Rattle.client_values.specs.declared.operations.values.OpKind.{OpKind}
use Rattle.script_words.specs.outcome_lines.Text.{refusal_line}
use Rattle.script_words.specs.text_lines.Script.{script}
use Rattle.script_words.specs.text_lines.Views.{read_of}
use Rattle.script_words.specs.declared.text_lines.line.Line.{Line}
use Rattle.script_words.specs.declared.text_lines.line.Refusal.{Refusal}
use Rattle.script_words.specs.declared.text_lines.line.Script.{Script}
use Rattle.script_words.specs.declared.values.Command.TheVariants.{Run}
use Rattle.script_words.specs.declared.values.Statement.{Statement}
use Rattle.script_words.specs.declared.values.Statement.TheVariants as statements
use Rattle.run_command.specs.declared.ending.Ending.{Ending}
use Rattle.run_command.specs.declared.ending.Ending.TheVariants as endings

-- the operations that lines say, in their order
abbrev pub kinds_said : Statement → List OpKind
kinds_said (statements.Setting s) = []
kinds_said (statements.Operation kind) = kind ∷ []
kinds_said (statements.Event e) = []

unfoldable pub operations_said : List Line → List OpKind
operations_said [] = []
operations_said (l ∷ ls) = kinds_said l.statement ++ operations_said ls

module _ (written written' : Option (List ℕ)) (sink sink' : ℕ) where
  -- the sink was left alone
  abbrev pub SinkStays : Type 0
  SinkStays = (sink' ≡ sink) × Keeps written written'

  -- a text was written, and it ended so; or the sink failed behind a front of it
  abbrev pub WritesText : List ℕ → Ending → Ending → Type 0
  WritesText text due ending = ((ending ≡ due) × (sink' ≡ sink) × Appends written written' text)
      ⊎ ((ending ≡ endings.SinkFailed) × Rose sink sink' × AppendsFront written written' text)

  -- a text says this; or a line of it is refused, which is written
  abbrev pub ScriptTakes : List ℕ → Result Script Ending → Type 0
  ScriptTakes text (Ok asked) = (script Run text ≡ Ok (read_of asked)) × SinkStays
  ScriptTakes text (Err endings.Memory) = SinkStays
  ScriptTakes text (Err ending) = (refusal : Refusal) × (script Run text ≡ Err refusal) × WritesText (refusal_line refusal) endings.Script ending

-- The source was read to its end, or past the limit on a script's bytes, and says this; or it failed; or a line of what was read is
-- refused, which is written; or memory ran out.
abbrev pub Asks : (left left' : Option (List ℕ)) → (source source' : ℕ) → (written written' : Option (List ℕ)) → (sink sink' : ℕ)
    → Result Script Ending → Type 0
Asks left left' source source' written written' sink sink' (Ok asked) = (source' ≡ source) × SinkStays written written' sink sink'
    × ((text : List ℕ) × HasRead left left' text × (script Run text ≡ Ok (read_of asked)))
Asks left left' source source' written written' sink sink' (Err endings.SourceFailed) = Rose source source'
    × SinkStays written written' sink sink'
Asks left left' source source' written written' sink sink' (Err endings.Memory) = (source' ≡ source)
    × SinkStays written written' sink sink'
Asks left left' source source' written written' sink sink' (Err ending) = (source' ≡ source)
    × ((text : List ℕ) × HasRead left left' text × ScriptTakes written written' sink sink' text (Err ending))
