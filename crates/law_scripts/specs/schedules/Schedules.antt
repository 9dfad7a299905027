-- How a schedule over bytes ends.
use Rattle.std.specs.Prelude.{◌≡◌, ℕ, ◌+◌, Bool, true, false, List, [], ◌∷◌, ◌++◌, length, Option, Some, None}
use Rattle.law_scripts.specs.script_setup.Scripts.{lines_in, settings_in}
use Rattle.spec_exchange.specs.Network.{may_open}
use Rattle.script_words.specs.text_lines.Script.{Read}
use Rattle.spec_world.specs.Courses.{Course, Line, LineError, Does, Forges, Flips, Pushes, Links, Settles, course, first_error, go}
use Rattle.spec_world.specs.Courses.{line_error, opening}
use Rattle.spec_world.specs.Events.{Plain, flip, forge}
use Rattle.spec_world.specs.Notes.{is_finish, is_met}
use Rattle.spec_world.specs.Settings.{WorldSettings}
use Rattle.spec_world.specs.World.{World}

-- whether the world meets a line: the end that it needs is open, or ready for a push; something waits there; what it opens is free
abbrev pub meets_line : World → Line → Bool
meets_line w (Does e) = is_met w (Plain e)
meets_line w (Forges k up bytes) = is_met w (forge k up bytes)
meets_line w (Flips k up at mask) = is_met w (flip k up at mask)
meets_line w (Pushes k) = w.values.client.ready k
meets_line w (Links k) = may_open w.values k
meets_line w Settles = true

-- the program alone gives up
abbrev pub gives_up_line : Line → Bool
gives_up_line (Does e) = is_finish (Plain e)
gives_up_line (Forges k up bytes) = false
gives_up_line (Flips k up at mask) = false
gives_up_line (Pushes k) = false
gives_up_line (Links k) = false
gives_up_line Settles = false

unfoldable pub NoneGivesUp : List Line → Type 0
NoneGivesUp [] = Unit {0}
NoneGivesUp (l ∷ ls) = (gives_up_line l ≡ false) × NoneGivesUp ls

-- each line is met behind those in front of it, from this course on
unfoldable pub AllAreMet : WorldSettings → List Line → Course → Type 0
AllAreMet z [] c = Unit {0}
AllAreMet z (l ∷ ls) c = (meets_line c.world l ≡ true) × AllAreMet z ls (go z 256 c l)

-- the schedule ends at a line: those in front of it are met, and it isn't, for this cause
pub record ScheduleEndsAt (z : WorldSettings) (ls : List Line) (c : Course) (i : ℕ) (e : LineError) : Type 0 where
  pub before : List Line
  pub line : Line
  pub after : List Line
  pub lines : ls ≡ before ++ line ∷ after
  pub place : e.line ≡ i + length before
  pub met : AllAreMet z before c
  pub unmet : meets_line (course z 256 before c).world line ≡ false
  pub cause : line_error (course z 256 before c).world line ≡ Some e.why

-- the lines from a place on, by the first error among them
abbrev pub ScheduleEnds : WorldSettings → List Line → Course → ℕ → Option LineError → Type 0
ScheduleEnds z ls c i None = AllAreMet z ls c
ScheduleEnds z ls c i (Some e) = ScheduleEndsAt z ls c i e

abbrev pub error_of : WorldSettings → List Line → Option LineError
error_of z ls = first_error z 256 0 ls (opening z)

abbrev pub SchedulesEnd : Type 0
SchedulesEnd = (z : WorldSettings) (ls : List Line) → NoneGivesUp ls → ScheduleEnds z ls (opening z) 0 (error_of z ls)

-- of each script, whatever its run draws
abbrev pub ScriptsEnd : Type 0
ScriptsEnd =
    (r : Read) (seed : List ℕ) → ScheduleEnds (settings_in r seed) (lines_in r) (opening (settings_in r seed)) 0
    (error_of (settings_in r seed) (lines_in r))
