-- The run of a script: its lines one after the other, up to the first whose event the world doesn't meet.
use Rattle.std.specs.Prelude.{◌≡◌, ℕ, ◌+◌, List, [], ◌∷◌, Option, Some, None, Result, Ok, Err}
use Rattle.law_replies.specs.courses.Courses.{course_of}
use Rattle.law_scripts.specs.script_setup.Scripts.{lines_of, lines_of_statement, operations_of}
use Rattle.script_words.specs.declared.text_lines.line.Line.{Line as Said}
use Rattle.script_words.specs.declared.text_lines.line.Refusal.{Refusal}
use Rattle.script_words.specs.Outcome.{◌>>=◌}
use Rattle.script_words.specs.declared.values.Code.{Code}
use Rattle.script_words.specs.declared.values.Code.TheVariants as codes
use Rattle.spec_world.specs.Courses.{Course, Line, LineError, first_error, go, line_error, opening}
use Rattle.spec_world.specs.Notes.{WorldError, NoChannel, NothingThere, InUse}
use Rattle.spec_world.specs.Settings.{WorldSettings}

-- a refusal by its cause
abbrev pub code_of : WorldError → Code
code_of (NoChannel k) = codes.NoChannel k
code_of (NothingThere k) = codes.NothingThere k
code_of (InUse k) = codes.InUse k

-- what a line of this number came to, by why it is refused
abbrev pub done_at : ℕ → Course → Option WorldError → Result Course Refusal
done_at number c None = Ok c
done_at number c (Some why) = Err (record { line = number; code = code_of why })

-- what the line of this number does to a course, over the connections from 0 to 255
unfoldable pub did : WorldSettings → ℕ → List Line → Course → Result Course Refusal
did z number [] c = Ok c
did z number (l ∷ ls) c = done_at number (go z 256 c l) (line_error c.world l) >>= λ d. did z number ls d

-- all of them, behind so many operations
unfoldable pub did_all : WorldSettings → ℕ → List Said → Course → Result Course Refusal
did_all z before [] c = Ok c
did_all z before (s ∷ more) c = did z s.number (lines_of_statement before s.statement) c
    >>= λ d. did_all z (before + operations_of s.statement) more d

-- ---- it is the course of the script's lines where none of them is refused, and its refusal is that of the first that is

pub record IsCourse (z : WorldSettings) (ls : List Line) (c : Course) : Type 0 where
  pub is : c ≡ course_of z ls
  pub met : first_error z 256 0 ls (opening z) ≡ None

pub record IsRunFirst (z : WorldSettings) (ls : List Line) (r : Refusal) : Type 0 where
  pub error : LineError
  pub first : first_error z 256 0 ls (opening z) ≡ Some error
  pub code : r.code ≡ code_of error.why

abbrev pub SchedulesAreCourses : Type 0
SchedulesAreCourses =
    (z : WorldSettings) (ls : List Said) (c : Course) → did_all z 0 ls (opening z) ≡ Ok c → IsCourse z (lines_of 0 ls) c

abbrev pub RefusalsAreFirst : Type 0
RefusalsAreFirst =
    (z : WorldSettings) (ls : List Said) (r : Refusal) → did_all z 0 ls (opening z) ≡ Err r → IsRunFirst z (lines_of 0 ls) r
