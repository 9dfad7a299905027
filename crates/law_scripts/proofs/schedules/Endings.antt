-- The first line that is refused is the first that isn't met.
use Rattle.std.proofs.Common.{◌≡◌, ℕ, ◌+◌, true, List, [], ◌∷◌, ◌++◌, Option, Some, None, is_none, refl, subst, ap}
use Rattle.std.proofs.Common.{◌∙◌, arith}
use Rattle.law_replies.specs.courses.Courses.{CourseRuns, course_of}
use Rattle.spec_world.specs.Courses.{Course, Line, LineError, course, error_or, first_error, go, line_error, opening}
use Rattle.spec_world.specs.Notes.{RefusalsAreTold, WorldError}
use Rattle.spec_world.specs.Settings.{WorldSettings}
use Rattle.law_scripts.specs.schedules.Schedules.{AllAreMet, ScheduleEnds, NoneGivesUp, SchedulesEnd, meets_line}
use Rattle.law_scripts.proofs.schedules.Meeting.{IsTold, line_told}

-- one line more
course_on : (z : WorldSettings) (front : List Line) (l : Line) (c : Course)
    → course z 256 (front ++ l ∷ []) c ≡ go z 256 (course z 256 front c) l
unfolding course
course_on z [] l c = refl
course_on z (x ∷ front) l c = course_on z front l (go z 256 c x)

-- a course that a script comes to
abbrev IsReached : WorldSettings → Course → Type 0
IsReached z c = (front : List Line) × (course_of z front ≡ c)

reached_on : (z : WorldSettings) (c : Course) (l : Line) → IsReached z c → IsReached z (go z 256 c l)
reached_on z c l h = (h.0 ++ l ∷ [], course_on z h.0 l (opening z) ∙ ap (λ (d : Course). go z 256 d l) h.1)

-- a line that is met, and how the rest ends
met_on : (z : WorldSettings) (l : Line) (ls : List Line) (c : Course) (i : ℕ) (later : Option LineError) → meets_line c.world l ≡ true
    → ScheduleEnds z ls (go z 256 c l) (i + 1) later → ScheduleEnds z (l ∷ ls) c i later
unfolding AllAreMet course
met_on z l ls c i None m h = (m, h)
met_on z l ls c i (Some e) m h = record {
  before = l ∷ h.before;
  line = h.line;
  after = h.after;
  lines = ap (λ (xs : List Line). l ∷ xs) h.lines;
  place = (let p = h.place in omega (arith, p));
  met = (m, h.met);
  unmet = h.unmet;
  cause = h.cause;
}

by_line : (z : WorldSettings) (l : Line) (ls : List Line) (c : Course) (i : ℕ) (o : Option WorldError) (later : Option LineError)
    → line_error c.world l ≡ o → IsTold c.world l → ScheduleEnds z ls (go z 256 c l) (i + 1) later
    → ScheduleEnds z (l ∷ ls) c i (error_or i o later)
unfolding AllAreMet course
by_line z l ls c i None later e told h = met_on z l ls c i later (told ∙ ap (λ (o : Option WorldError). is_none o) e) h
by_line z l ls c i (Some why) later e told h = record {
  before = [];
  line = l;
  after = ls;
  lines = refl;
  place = omega arith;
  met = tt;
  unmet = told ∙ ap (λ (o : Option WorldError). is_none o) e;
  cause = e;
}

ends_from : CourseRuns → RefusalsAreTold → (z : WorldSettings) (ls : List Line) (c : Course) (i : ℕ) → NoneGivesUp ls → IsReached z c
    → ScheduleEnds z ls c i (first_error z 256 i ls c)
unfolding first_error NoneGivesUp AllAreMet
ends_from runs told z [] c i none h = tt
ends_from runs told z (l ∷ ls) c i none h =
    let is : IsTold c.world l = subst (λ (d : Course). IsTold d.world l) h.1 (line_told runs told z h.0 l none.0) in
    by_line z l ls c i (line_error c.world l) (first_error z 256 (i + 1) ls (go z 256 c l)) refl is
    (ends_from runs told z ls (go z 256 c l) (i + 1) none.1 (reached_on z c l h))

begun : (z : WorldSettings) → IsReached z (opening z)
unfolding course
begun z = ([], refl)

pub schedules_end : CourseRuns → RefusalsAreTold → SchedulesEnd
schedules_end runs told z ls none = ends_from runs told z ls (opening z) 0 none (begun z)
