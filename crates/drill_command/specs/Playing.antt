-- The run of a script that was read, and what it prints.
use Rattle.std.specs.Prelude.{◌≡◌, ℕ, ◌⊎◌, List, Result, Ok, Err, MatchResult}
use Rattle.law_scripts.specs.script_setup.Scripts.{lines_in, settings_in}
use Rattle.law_scripts.specs.drill.Drills.{DrillHolds}
use Rattle.drill_command.specs.drill_text.Text.{IsText}
use Rattle.script_words.specs.outcome_lines.Text.{refusal_line}
use Rattle.script_words.specs.text_lines.Script.{Read, script}
use Rattle.script_words.specs.declared.text_lines.line.Refusal.{Refusal}
use Rattle.script_words.specs.Outcome.{◌>>=◌, Fails}
use Rattle.script_words.specs.declared.values.Command.TheVariants.{Drill}
use Rattle.script_words.specs.declared.values.Fault.{Fault}
use Rattle.script_words.specs.declared.values.Fault.TheVariants.{Memory}
use Rattle.spec_world.specs.Courses.{Course, opening}
use Rattle.spec_world.specs.Settings.{WorldSettings}
use Rattle.world_ends.specs.results.Ended.{ShowsEnded}
use Rattle.world_ends.specs.declared.results.ending.EndedWorld.{EndedWorld}
use Rattle.law_scripts.specs.script_runs.Runs.{IsCourse, did_all}

-- the course to which a script that was read leads, or its first line that isn't met
abbrev pub run_of : Read → List ℕ → Result Course Refusal
run_of read seed = did_all (settings_in read seed) 0 read.lines (opening (settings_in read seed))

-- of a text: it is judged whole before its run
abbrev pub played : List ℕ → List ℕ → Result Course Refusal
played text seed = script Drill text >>= λ read. run_of read seed

-- a script was read, each of its lines is met, its run over bytes is the definitions' own, the four sentences of the
-- headline hold of it, and
-- completeness where it ends in settling, and this is its text
pub record Ran (text seed printed : List ℕ) : Type 0 where
  pub read : Read
  pub said : script Drill text ≡ Ok read
  pub course : Course
  pub led : run_of read seed ≡ Ok course
  pub own : IsCourse (settings_in read seed) (lines_in read) course
  pub holds : DrillHolds (settings_in read seed) (lines_in read)
  pub shown : IsText course.world.values printed

-- a line is refused, and this tells which and why
pub record Refused (text seed printed : List ℕ) : Type 0 where
  pub refusal : Refusal
  pub refused : played text seed ≡ Err refusal
  pub told : printed ≡ refusal_line refusal

-- what is due to be printed
abbrev pub Prints : List ℕ → List ℕ → List ℕ → Type 0
Prints text seed printed = Ran text seed printed ⊎ Refused text seed printed

-- what a drill gives: the text of the run, or the first refused line
abbrev pub Drilled : {A : Type 0} → (A → List ℕ) → List ℕ → List ℕ → Result A (Fault Refusal) → Type 0
Drilled view text seed result = MatchResult result (λ out. Ran text seed (view out)) (λ fault. Fails fault (played text seed))

-- ---- its parts

-- the world behind the lines that were met shows the course that is due, or the refusal is that which is due
abbrev pub DrillEnds : WorldSettings → Result Course Refusal → EndedWorld → Result Unit (Fault Refusal) → Type 0
DrillEnds z due ended refused =
    MatchResult refused (λ u. (d : Course) × (due ≡ Ok d) × ShowsEnded z ended d.world) (λ fault. Fails fault due)

-- its text, or the refusal that is due
abbrev pub DrillTells : {A : Type 0} → (A → List ℕ) → Result Course Refusal → Result A (Fault Refusal) → Type 0
DrillTells view due result =
    MatchResult result (λ out. (d : Course) × (due ≡ Ok d) × IsText d.world.values (view out)) (λ fault. Fails fault due)

-- memory ran out
abbrev pub IsDrillMemory : Fault Refusal → Type 0
IsDrillMemory fault = fault ≡ Memory
