-- How the top call ends: its status, what it has read and what it has written.
use Rattle.std.specs.Prelude.{◌≡◌, ℕ, ◌⊎◌, Bool, true, false, List, codes, Option, Some, None, Result, Err}
use Rattle.std.specs.Io.KnownBytes.{Appends, Consumes, IsAtEnd, Keeps}
use Rattle.law_scripts.specs.script_setup.Scripts.{drill_settings}
use Rattle.law_scripts.specs.generated.ReadsBack.{made_script, numbered, script_text}
use Rattle.script_words.specs.outcome_lines.Text.{refusal_line}
use Rattle.script_words.specs.generator.Making.{made_lines}
use Rattle.script_words.specs.declared.generator.lines.MadeLine.{MadeLine}
use Rattle.script_words.specs.text_lines.Script.{nothing_given}
use Rattle.script_words.specs.text_lines.Settings.{settings_of}
use Rattle.script_words.specs.declared.text_lines.line.Refusal.{Refusal}
use Rattle.script_words.specs.declared.text_lines.settings.Settings.{Settings}
use Rattle.law_scripts.specs.script_runs.Runs.{did_all}
use Rattle.base_outside.specs.streams.Faults.{Rose}
use Rattle.spec_world.specs.Courses.{Course, opening}
use Rattle.base_outside.specs.whole_texts.Outside.{AppendsFront, HasRead}
use Rattle.drill_command.specs.Made.{PrintsBehind, Summed}
use Rattle.drill_command.specs.Playing.{Prints, Ran, played, run_of}
use Rattle.drill_command.specs.declared.ending.Ending.{Ending}
use Rattle.drill_command.specs.declared.ending.Ending.TheVariants.{Done, Usage, Script, SourceFailed, SinkFailed, Memory}
use Rattle.drill_command.specs.declared.words.Asked.{Asked}
use Rattle.drill_command.specs.declared.words.Asked.TheVariants.{Drill, Gen}

abbrev pub usage : List ℕ
usage = codes "usage: smb311 drill, gen SEED OPS, serve ADDR [COUNT LEVEL], run ADDR\n"

-- the status that the program ends with
abbrev pub status_of : Ending → ℕ
status_of Done = 0
status_of Usage = 2
status_of Script = 3
status_of SourceFailed = 4
status_of SinkFailed = 5
status_of Memory = 8

-- What was read is a script whose run is the definitions' own and keeps the headline, and the text of that very run was written.
pub record IsDone (script seed : List ℕ) (written written' : Option (List ℕ)) : Type 0 where
  pub printed : List ℕ
  pub ran : Ran script seed printed
  pub wrote : Appends written written' printed

-- What was read has a first refused line, which was written.
pub record IsCommandRefused (script seed : List ℕ) (written written' : Option (List ℕ)) : Type 0 where
  pub refusal : Refusal
  pub refused : played script seed ≡ Err refusal
  pub wrote : Appends written written' (refusal_line refusal)

-- A front of what is due was written.
pub record IsCut (script seed : List ℕ) (written written' : Option (List ℕ)) : Type 0 where
  pub printed : List ℕ
  pub due : Prints script seed printed
  pub wrote : AppendsFront written written' printed

-- What an ending says of a refused line.
abbrev pub CommandRefuses : Refusal → (written written' : Option (List ℕ)) → (faults faults' : ℕ) → Ending → Type 0
CommandRefuses refusal written written' faults faults' Done = ⊥
CommandRefuses refusal written written' faults faults' Usage = ⊥
CommandRefuses refusal written written' faults faults' Script = (faults' ≡ faults) × Appends written written' (refusal_line refusal)
CommandRefuses refusal written written' faults faults' SourceFailed = ⊥
CommandRefuses refusal written written' faults faults' SinkFailed = Rose faults faults' × AppendsFront written written'
    (refusal_line refusal)
CommandRefuses refusal written written' faults faults' Memory = Keeps written written'

-- What an ending says of the text of a run.
abbrev pub CommandWrites : (text : List ℕ) (written written' : Option (List ℕ)) → (faults faults' : ℕ) → Ending → Type 0
CommandWrites text written written' faults faults' Done = (faults' ≡ faults) × Appends written written' text
CommandWrites text written written' faults faults' Usage = ⊥
CommandWrites text written written' faults faults' Script = ⊥
CommandWrites text written written' faults faults' SourceFailed = ⊥
CommandWrites text written written' faults faults' SinkFailed = Rose faults faults' × AppendsFront written written' text
CommandWrites text written written' faults faults' Memory = ⊥

-- What an ending says of a script that was read. The counts of faults of the sink are those before the call and behind it: what is said to
-- be written whole was written without a fault.
abbrev pub CommandAnswers : (script seed : List ℕ) (written written' : Option (List ℕ)) → (faults faults' : ℕ) → Ending → Type 0
CommandAnswers script seed written written' faults faults' Done = (faults' ≡ faults) × IsDone script seed written written'
CommandAnswers script seed written written' faults faults' Usage = ⊥
CommandAnswers script seed written written' faults faults' Script = (faults' ≡ faults) × IsCommandRefused script seed written written'
CommandAnswers script seed written written' faults faults' SourceFailed = ⊥
CommandAnswers script seed written written' faults faults' SinkFailed = Rose faults faults' × IsCut script seed written written'
CommandAnswers script seed written written' faults faults' Memory = Keeps written written'

-- The source was read to its end, or past the limit on a script's bytes, and the ending is one of what was read.
pub record HasAnswered (seed : List ℕ) (left left' written written' : Option (List ℕ)) (faults faults' : ℕ) (ending : Ending) : Type 0 where
  pub script : List ℕ
  pub read : HasRead left left' script
  pub answered : CommandAnswers script seed written written' faults faults' ending

-- The source was read to its end.
pub record HasEnded (seed : List ℕ) (left left' written written' : Option (List ℕ)) (faults faults' : ℕ) : Type 0 where
  pub script : List ℕ
  pub read : Consumes left left' script
  pub ended : IsAtEnd left'
  pub calm : faults' ≡ faults
  pub done : IsDone script seed written written'

-- What each ending says of `drill`, whose run draws from the 32 bytes of a seed: what was read, what was written, and whose count of faults
-- rose, the source's or the sink's. That memory ran out is free.
abbrev pub Drills : (seed : List ℕ) (left left' written written' : Option (List ℕ)) → (source source' sink sink' : ℕ) → Ending → Type 0
Drills seed left left' written written' source source' sink sink' Done = (source' ≡ source)
    × HasEnded seed left left' written written' sink sink'
Drills seed left left' written written' source source' sink sink' Usage = ⊥
Drills seed left left' written written' source source' sink sink' Script = (source' ≡ source)
    × HasAnswered seed left left' written written' sink sink' Script
Drills seed left left' written written' source source' sink sink' SourceFailed = Rose source source' × Keeps written written'
Drills seed left left' written written' source source' sink sink' SinkFailed = (source' ≡ source)
    × HasAnswered seed left left' written written' sink sink' SinkFailed
Drills seed left left' written written' source source' sink sink' Memory = (source' ≡ source) × Keeps written written'

-- the settings of a script that gives none, and the run of lines that are made
abbrev pub plain : Settings
plain = settings_of nothing_given

abbrev pub run_left : List MadeLine → List ℕ → Result Course Refusal
run_left ls seed = did_all (drill_settings plain seed) 0 (numbered 0 ls) (opening (drill_settings plain seed))

-- The sum of the run of a made script was written.
pub record IsSummed (key operations : ℕ) (seed : List ℕ) (written written' : Option (List ℕ)) : Type 0 where
  pub printed : List ℕ
  pub summed : Summed key operations seed printed
  pub wrote : Appends written written' printed

-- A line of it is refused, and that line was written.
pub record IsStopped (key operations : ℕ) (seed : List ℕ) (written written' : Option (List ℕ)) : Type 0 where
  pub refusal : Refusal
  pub refused : run_of (made_script key operations) seed ≡ Err refusal
  pub wrote : Appends written written' (refusal_line refusal)

-- A front of the sum, or of the refused line, was written.
pub record IsSumCut (key operations : ℕ) (seed : List ℕ) (written written' : Option (List ℕ)) : Type 0 where
  pub printed : List ℕ
  pub due : PrintsBehind key operations seed printed
  pub wrote : AppendsFront written written' printed

-- What an ending says behind a made script.
abbrev pub SumsUp : (key operations : ℕ) (seed : List ℕ) (written written' : Option (List ℕ)) → (faults faults' : ℕ) → Ending → Type 0
SumsUp key operations seed written written' faults faults' Done = (faults' ≡ faults) × IsSummed key operations seed written written'
SumsUp key operations seed written written' faults faults' Usage = ⊥
SumsUp key operations seed written written' faults faults' Script = (faults' ≡ faults) × IsStopped key operations seed written written'
SumsUp key operations seed written written' faults faults' SourceFailed = ⊥
SumsUp key operations seed written written' faults faults' SinkFailed =
    Rose faults faults' × IsSumCut key operations seed written written'
SumsUp key operations seed written written' faults faults' Memory = Keeps written written'

-- The script of two numbers was written, and behind it what the ending says.
pub record IsMade (key operations : ℕ) (seed : List ℕ) (written written' : Option (List ℕ)) (faults faults' : ℕ) (ending : Ending)
    : Type 0 where
  pub between : Option (List ℕ)
  pub script : Appends written between (script_text (made_lines key operations))
  pub behind : SumsUp key operations seed between written' faults faults' ending

-- What each ending says of `gen`: the script of its two numbers was written, and behind it the sum of that script's
-- run, or its first refused
-- line. Where the sink failed, its count of faults rose, and a front of the script was written, or all of it and behind
-- it a front of the sum
-- or of the refused line. Where memory ran out, a front of the script was written, which may be all of it.
abbrev pub CommandMakes : (key operations : ℕ) (seed : List ℕ) (written written' : Option (List ℕ)) → (faults faults' : ℕ) → Ending → Type 0
CommandMakes key operations seed written written' faults faults' Done = IsMade key operations seed written written' faults faults' Done
CommandMakes key operations seed written written' faults faults' Usage = ⊥
CommandMakes key operations seed written written' faults faults' Script = IsMade key operations seed written written' faults faults' Script
CommandMakes key operations seed written written' faults faults' SourceFailed = ⊥
CommandMakes key operations seed written written' faults faults' SinkFailed = Rose faults faults'
    × (AppendsFront written written' (script_text (made_lines key operations))
    ⊎ IsMade key operations seed written written' faults faults' SinkFailed)
CommandMakes key operations seed written written' faults faults' Memory = AppendsFront written written'
    (script_text (made_lines key operations))

-- What each ending says where the words are no command.
abbrev pub IsUsage : (written written' : Option (List ℕ)) → (faults faults' : ℕ) → Ending → Type 0
IsUsage written written' faults faults' Done = ⊥
IsUsage written written' faults faults' Usage = (faults' ≡ faults) × Appends written written' usage
IsUsage written written' faults faults' Script = ⊥
IsUsage written written' faults faults' SourceFailed = ⊥
IsUsage written written' faults faults' SinkFailed = Rose faults faults' × AppendsFront written written' usage
IsUsage written written' faults faults' Memory = ⊥

-- What an ending says, by the command that the words are.
abbrev pub CommandEnds : Option Asked → (seed : List ℕ) (left left' written written' : Option (List ℕ))
    → (source source' sink sink' : ℕ) → Ending
    → Type 0
CommandEnds None seed left left' written written' source source' sink sink' ending = IsUsage written written' sink sink' ending
CommandEnds (Some Drill) seed left left' written written' source source' sink sink' ending =
    Drills seed left left' written written' source source' sink sink' ending
CommandEnds (Some (Gen key operations)) seed left left' written written' source source' sink sink' ending =
    CommandMakes key operations seed written written' sink sink' ending

-- The source is read by `drill` alone.
abbrev pub command_reads : Option Asked → Bool
command_reads None = false
command_reads (Some Drill) = true
command_reads (Some (Gen key operations)) = false
