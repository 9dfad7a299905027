-- What a script that ends in settling leaves of its operations, in the exchange over bytes.
use Rattle.std.specs.Prelude.{◌≡◌, ℕ, ◌≤◌, List, [], ◌∷◌, ◌++◌, length, Ok}
use Rattle.law_answers.specs.completeness.Completeness.{AllSettled}
use Rattle.law_replies.specs.courses.Courses.{AreHonest, course_of}
use Rattle.law_scripts.specs.script_setup.Scripts.{lines_in, settings_in}
use Rattle.script_words.specs.text_lines.Script.{Read, script}
use Rattle.script_words.specs.declared.values.Command.TheVariants.{Drill}
use Rattle.law_ties.specs.wire_facts.Fitting.{IsFitting}
use Rattle.spec_world.specs.Courses.{Line, Settles}
use Rattle.spec_world.specs.Settings.{WorldSettings}

-- its settings fit, no line forges or flips what is on its way, and its lines are few
pub record IsRunShort (z : WorldSettings) (ls : List Line) : Type 0 where
  pub fitting : IsFitting z
  pub honest : AreHonest ls
  pub few : length ls ≤ 16777216

-- each operation that the client took is settled
abbrev pub LeavesNone : WorldSettings → List Line → Type 0
LeavesNone z ls = AllSettled (course_of z ls).world.values.client

abbrev pub LinesSettle : Type 0
LinesSettle =
    (z : WorldSettings) (ls : List Line) → IsRunShort z (ls ++ Settles ∷ [])
    → LeavesNone z (ls ++ Settles ∷ [])

-- of each script that is read, whatever its run draws
abbrev pub ScriptsSettle : Type 0
ScriptsSettle =
    (text : List ℕ) (r : Read) → script Drill text ≡ Ok r → (seed : List ℕ) (ls : List Line) → lines_in r ≡ ls ++ Settles ∷ []
    → AreHonest (lines_in r) → LeavesNone (settings_in r seed) (lines_in r)
