-- What is printed, and how the command ends behind it. Of a sink it is told what it held and how often it had failed, before and behind.
use Rattle.std.specs.Prelude.{◌≡◌, ℕ, List, ◌++◌, codes, Option}
use Rattle.std.specs.Fmt.{decimal}
use Rattle.std.specs.Io.KnownBytes.{Appends, Keeps}
use Rattle.base_outside.specs.whole_texts.Outside.{AppendsFront}
use Rattle.base_outside.specs.streams.Faults.{Rose}
use Rattle.script_words.specs.outcome_lines.Text.{refusal_line}
use Rattle.serve_command.specs.declared.ending.Ending.{Ending}
use Rattle.serve_command.specs.declared.ending.Ending.TheVariants.{Memory, SinkFailed}
use Rattle.serve_command.specs.declared.server_settings.refusal.SettingsRefusal.{SettingsRefusal}
use Rattle.serve_command.specs.declared.server_settings.refusal.SettingsRefusal.TheVariants.{Line, NoUser}

abbrev pub usage_line : List ℕ
usage_line = codes "usage: smb311 drill, gen SEED OPS, serve ADDR [COUNT LEVEL], run ADDR\n"

unfoldable pub no_user_line : ℕ → List ℕ
no_user_line line = codes "line " ++ (decimal line ++ codes " no-user\n")

-- the first refused line of settings, or the one behind the last where a user is missing
abbrev pub settings_line : SettingsRefusal → List ℕ
settings_line (Line refusal) = refusal_line refusal
settings_line (NoUser line) = no_user_line line

-- where the bytes are no journal, or the gate of the first body that no server writes
unfoldable pub journal_line : ℕ → List ℕ
journal_line at = codes "journal " ++ (decimal at ++ codes "\n")

module _ (written written' : Option (List ℕ)) (faults faults' : ℕ) where
  -- the sink was left alone
  abbrev pub IsLeft : Type 0
  IsLeft = (faults' ≡ faults) × Keeps written written'

  -- nothing was printed, and it ended so
  abbrev pub IsQuiet : Ending → Ending → Type 0
  IsQuiet due ending = (ending ≡ due) × IsLeft

  -- a text was printed, and then it ended so; or the sink failed behind a front of it
  abbrev pub Prints : List ℕ → Ending → Ending → Type 0
  Prints text due SinkFailed = Rose faults faults' × AppendsFront written written' text
  Prints text due ending = (ending ≡ due) × (faults' ≡ faults) × Appends written written' text

  -- the same, where there was memory for the text
  abbrev pub PrintsIfRoom : List ℕ → Ending → Ending → Type 0
  PrintsIfRoom text due SinkFailed = Rose faults faults' × AppendsFront written written' text
  PrintsIfRoom text due Memory = IsLeft
  PrintsIfRoom text due ending = (ending ≡ due) × (faults' ≡ faults) × Appends written written' text
