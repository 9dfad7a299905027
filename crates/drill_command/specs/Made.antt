-- The run of a script that is made, and its sum.
use Rattle.std.specs.Prelude.{◌≡◌, ℕ, ◌⊎◌, List, Result, Ok, Err, MatchResult}
use Rattle.drill_command.specs.Playing.{run_of}
use Rattle.drill_command.specs.Summing.{summary_text}
use Rattle.law_scripts.specs.script_setup.Scripts.{lines_in, settings_in}
use Rattle.law_scripts.specs.drill.Drills.{MadeHolds}
use Rattle.drill_command.specs.drill_text.Text.{outcomes_from}
use Rattle.spec_exchange.specs.Network as network
use Rattle.store_files.specs.file_tree.Stored.{AreFiles}
use Rattle.store_files.specs.declared.file_tree.files.StoredFile.{StoredFile}
use Rattle.law_scripts.specs.generated.ReadsBack.{made_script}
use Rattle.script_words.specs.outcome_lines.Text.{refusal_line}
use Rattle.script_words.specs.declared.text_lines.line.Refusal.{Refusal}
use Rattle.law_scripts.specs.script_runs.Runs.{IsCourse}
use Rattle.script_words.specs.Outcome.{Fails}
use Rattle.script_words.specs.declared.values.Fault.{Fault}
use Rattle.spec_world.specs.Courses.{Course}

-- its sum: the files are the server's, each once
pub record IsSum (w : network.World) (text : List ℕ) : Type 0 where
  pub files : List StoredFile
  pub are_files : AreFiles files w.server
  pub is : text ≡ summary_text (outcomes_from w.client.outcome 1 w.client.taken) files

-- each line of the script of these two numbers is met, its run over bytes is the definitions' own, the four sentences of the headline hold
-- of it, and this is its sum
pub record Summed (key operations : ℕ) (seed printed : List ℕ) : Type 0 where
  pub course : Course
  pub led : run_of (made_script key operations) seed ≡ Ok course
  pub own : IsCourse (settings_in (made_script key operations) seed) (lines_in (made_script key operations)) course
  pub holds : MadeHolds (settings_in (made_script key operations) seed) (lines_in (made_script key operations))
  pub shown : IsSum course.world.values printed

-- a line of it is refused, and this tells which and why
pub record Stopped (key operations : ℕ) (seed printed : List ℕ) : Type 0 where
  pub refusal : Refusal
  pub refused : run_of (made_script key operations) seed ≡ Err refusal
  pub told : printed ≡ refusal_line refusal

-- what is due to be printed behind the script
abbrev pub PrintsBehind : ℕ → ℕ → List ℕ → List ℕ → Type 0
PrintsBehind key operations seed printed = Summed key operations seed printed ⊎ Stopped key operations seed printed

-- the sum of the course that is due, or the refusal that is due
abbrev pub Totals : {A : Type 0} → (A → List ℕ) → Result Course Refusal → Result A (Fault Refusal) → Type 0
Totals view due result =
    MatchResult result (λ out. (d : Course) × (due ≡ Ok d) × IsSum d.world.values (view out)) (λ fault. Fails fault due)

-- the sum of the run, or its first line that is refused
abbrev pub Sums : {A : Type 0} → (A → List ℕ) → ℕ → ℕ → List ℕ → Result A (Fault Refusal) → Type 0
Sums view key operations seed result =
    MatchResult result (λ out. Summed key operations seed (view out)) (λ fault. Fails fault (run_of (made_script key operations) seed))
