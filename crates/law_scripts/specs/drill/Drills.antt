-- What holds of the run of a script that was read.
use Rattle.std.specs.Prelude.{◌≡◌, ℕ, ◌≤◌, true, List, [], ◌∷◌, ◌++◌, Ok}
use Rattle.law_replies.specs.courses.Courses.{AreHonest, course_of}
use Rattle.law_scripts.specs.script_setup.Scripts.{lines_in, settings_in}
use Rattle.spec_exchange.specs.Network as network
use Rattle.law_scripts.specs.generated.ReadsBack.{made_script}
use Rattle.law_scripts.specs.headline.Headline.{ActsOnce}
use Rattle.law_scripts.specs.quiet_runs.Quiet.{EachEnds, are_quiet}
use Rattle.law_scripts.specs.settling.Settled.{LeavesNone}
use Rattle.script_words.specs.text_lines.Script.{Read, script}
use Rattle.script_words.specs.declared.values.Command.TheVariants.{Drill}
use Rattle.spec_world.specs.Courses.{Line, Settles}
use Rattle.spec_world.specs.Settings.{WorldSettings}
use Rattle.spec_world.specs.Statements.{Negotiated}

-- The four sentences of the headline: the first three without a forge and a flip, also of the lines in front of a script's first one, at
-- each moment; the last one of any run. And completeness, without a forge and a flip: lines that end in settling leave no operation
-- unsettled; and where none of them is a cut, a drop, a restart or a crash, and nothing was given up while an operation was unsettled, each
-- operation ends by the server's reply, or for want of a slot or an open.
pub record DrillHolds (z : WorldSettings) (ls : List Line) : Type 0 where
  pub acts_once : AreHonest ls → (es : List network.Event) × ActsOnce z (course_of z ls) es
  pub in_front : (before after : List Line) → ls ≡ before ++ after → AreHonest before
      → (es : List network.Event) × ActsOnce z (course_of z before) es
  pub negotiated : Negotiated (course_of z ls).world
  pub settled : (before : List Line) → ls ≡ before ++ Settles ∷ [] → AreHonest ls → LeavesNone z ls
  pub each_ends : (before : List Line) → ls ≡ before ++ Settles ∷ [] → AreHonest ls → are_quiet ls ≡ true
      → (es : List network.Event) × EachEnds z (course_of z ls) es

-- of each script that is read, whatever its run draws
abbrev pub ScriptsHold : Type 0
ScriptsHold = (text : List ℕ) (r : Read) → script Drill text ≡ Ok r → (seed : List ℕ) → DrillHolds (settings_in r seed) (lines_in r)

-- of each made script, which tampers with nothing; its lines may be more than a text may have
pub record MadeHolds (z : WorldSettings) (ls : List Line) : Type 0 where
  pub acts_once : (es : List network.Event) × ActsOnce z (course_of z ls) es
  pub negotiated : Negotiated (course_of z ls).world

abbrev pub MadeScriptsHold : Type 0
MadeScriptsHold =
    (key operations : ℕ) → operations ≤ 1_048_576 → (seed : List ℕ) →
    MadeHolds (settings_in (made_script key operations) seed) (lines_in (made_script key operations))
