-- What becomes of each operation of a script over bytes whose own lines lose nothing, and that ends in settling.
use Rattle.std.specs.Prelude.{◌≡◌, ℕ, ◌≤◌, ◌<◌, Bool, true, false, ◌&&◌, List, [], ◌∷◌, ◌++◌, Ok}
use Rattle.law_replies.specs.courses.Courses.{AreHonest, course_of}
use Rattle.law_scripts.specs.script_setup.Scripts.{lines_in, settings_in}
use Rattle.spec_exchange.specs.Network.{Event, run, start}
use Rattle.law_outcomes.specs.scripts.Scripts.{OperationEnds, has_given_up, is_quiet}
use Rattle.script_words.specs.text_lines.Script.{Read, script}
use Rattle.script_words.specs.declared.values.Command.TheVariants.{Drill}
use Rattle.law_scripts.specs.settling.Settled.{IsRunShort}
use Rattle.spec_world.specs.Courses.{Course, Line, Does, Settles}
use Rattle.spec_world.specs.Events.{bytes_start}
use Rattle.spec_world.specs.Settings.{WorldSettings, values_of}
use Rattle.spec_world.specs.Statements.{plainly, value_events}

-- no cut, drop, restart or crash; what a push, a link and a settling come to is the program's own
abbrev pub is_quiet_line : Line → Bool
is_quiet_line (Does e) = is_quiet e
is_quiet_line _ = true

unfoldable pub are_quiet : List Line → Bool
are_quiet [] = true
are_quiet (l ∷ ls) = is_quiet_line l && are_quiet ls

-- A run by its events: it is a run of the model of values, and where nothing is given up while an operation is unsettled, each operation
-- ends by the server's reply, or for want of a slot or an open.
pub record EachEnds (z : WorldSettings) (c : Course) (es : List Event) : Type 0 where
  pub events : c.events ≡ plainly es
  pub is_run : run (value_events z (bytes_start z) es) (start (values_of z)) ≡ c.world.values
  pub ends :
      has_given_up (value_events z (bytes_start z) es) (start (values_of z)) ≡ false → (g : ℕ) → 0 < g
      → g ≤ c.world.values.client.taken → OperationEnds (values_of z) (value_events z (bytes_start z) es) c.world.values.client g

abbrev pub LinesEnd : Type 0
LinesEnd =
    (z : WorldSettings) (ls : List Line) → IsRunShort z (ls ++ Settles ∷ []) → are_quiet (ls ++ Settles ∷ []) ≡ true
    → (es : List Event) × EachEnds z (course_of z (ls ++ Settles ∷ [])) es

-- of each script that is read, whatever its run draws
abbrev pub QuietScriptsEnd : Type 0
QuietScriptsEnd =
    (text : List ℕ) (r : Read) → script Drill text ≡ Ok r → (seed : List ℕ) (ls : List Line) → lines_in r ≡ ls ++ Settles ∷ []
    → AreHonest (lines_in r) → are_quiet (lines_in r) ≡ true
    → (es : List Event) × EachEnds (settings_in r seed) (course_of (settings_in r seed) (lines_in r)) es
