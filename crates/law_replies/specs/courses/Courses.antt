-- Scripts in the exchange over bytes: the course of one over all 256 channels, and how many restarts and submits its own lines are.
use Rattle.std.specs.Prelude.{◌≡◌, ℕ, ◌+◌, Bool, true, false, List, [], ◌∷◌, ◌++◌, None}
use Rattle.spec_exchange.specs.Network.{Event, Submit, Restart, Crash}
use Rattle.law_ties.specs.wire_facts.Steps.{restarts_in, submits_in}
use Rattle.spec_world.specs.Courses.{Course, Line, Does, Forges, Flips, Pushes, Links, Settles, course, first_error, line_error, opening}
use Rattle.spec_world.specs.Events.{bytes_run, bytes_start}
use Rattle.spec_world.specs.Settings.{WorldSettings}
use Rattle.spec_world.specs.Statements.{plainly}

abbrev pub course_of : WorldSettings → List Line → Course
course_of z ls = course z 256 ls (opening z)

abbrev pub CourseRuns : Type 0
CourseRuns = (z : WorldSettings) (ls : List Line) → bytes_run z (course_of z ls).events (bytes_start z) ≡ (course_of z ls).world

-- ---- what the script's own lines are

abbrev pub restarts_of : Event → ℕ
restarts_of Restart = 1
restarts_of (Crash k kept) = 1
restarts_of _ = 0

abbrev pub submits_of : Event → ℕ
submits_of (Submit g op) = 1
submits_of _ = 0

abbrev pub count_line : (Event → ℕ) → Line → ℕ
count_line count (Does e) = count e
count_line count (Forges k up bytes) = 0
count_line count (Flips k up at mask) = 0
count_line count (Pushes k) = 0
count_line count (Links k) = 0
count_line count Settles = 0

unfoldable pub count_lines : (Event → ℕ) → List Line → ℕ
count_lines count [] = 0
count_lines count (l ∷ ls) = count_line count l + count_lines count ls

abbrev pub CoursesAreShort : Type 0
CoursesAreShort =
    (z : WorldSettings) (ls : List Line) (es : List Event) → (course_of z ls).events ≡ plainly es →
    (restarts_in es ≡ count_lines restarts_of ls) × (submits_in es ≡ count_lines submits_of ls)

-- ---- no line tampers with what is on its way

abbrev pub tampers : Line → Bool
tampers (Does e) = false
tampers (Forges k up bytes) = true
tampers (Flips k up at mask) = true
tampers (Pushes k) = false
tampers (Links k) = false
tampers Settles = false

unfoldable pub AreHonest : List Line → Type 0
AreHonest [] = Unit {0}
AreHonest (l ∷ ls) = (tampers l ≡ false) × AreHonest ls

abbrev pub PlainCoursesArePlain : Type 0
PlainCoursesArePlain =
    (z : WorldSettings) (ls : List Line) → AreHonest ls → (es : List Event) × ((course_of z ls).events ≡ plainly es)

-- ---- each line in the world of those in front of it

abbrev pub RefusalIsTheFirst : Type 0
RefusalIsTheFirst =
    (z : WorldSettings) (before after : List Line) (l : Line) → first_error z 256 0 (before ++ l ∷ after) (opening z) ≡ None →
    line_error (course_of z before).world l ≡ None
