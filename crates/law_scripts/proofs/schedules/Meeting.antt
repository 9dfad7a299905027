-- A line is met exactly where it isn't refused.
use Rattle.std.proofs.Common.{◌≡◌, ℕ, Bool, true, false, List, is_none, refl, subst}
use Rattle.law_replies.specs.courses.Courses.{CourseRuns, course_of}
use Rattle.spec_exchange.specs.Network.{Open}
use Rattle.spec_world.specs.Courses.{Line, Does, Forges, Flips, Pushes, Links, Settles, line_error}
use Rattle.spec_world.specs.Events.{ByteEvent, Plain, flip, forge}
use Rattle.spec_world.specs.Notes.{RefusalsAreTold, is_finish, is_met, step_error, unless_open}
use Rattle.spec_world.specs.Settings.{WorldSettings}
use Rattle.spec_world.specs.World.{World}
use Rattle.law_scripts.specs.schedules.Schedules.{gives_up_line, meets_line}

abbrev pub IsTold : World → Line → Type 0
IsTold w l = meets_line w l ≡ is_none (line_error w l)

event_told : CourseRuns → RefusalsAreTold → (z : WorldSettings) (ls : List Line) (e : ByteEvent) → is_finish e ≡ false
    → is_met (course_of z ls).world e ≡ is_none (step_error (course_of z ls).world e)
event_told runs told z ls e h =
    subst (λ (w : World). is_met w e ≡ is_none (step_error w e)) (runs z ls) (told z (course_of z ls).events e h)

opened : (b : Bool) (k : ℕ) → b ≡ is_none (unless_open b k)
opened true k = refl
opened false k = refl

pub line_told : CourseRuns → RefusalsAreTold → (z : WorldSettings) (ls : List Line) (l : Line) → gives_up_line l ≡ false
    → IsTold (course_of z ls).world l
line_told runs told z ls (Does e) h = event_told runs told z ls (Plain e) h
line_told runs told z ls (Forges k up bytes) h = event_told runs told z ls (forge k up bytes) refl
line_told runs told z ls (Flips k up at mask) h = event_told runs told z ls (flip k up at mask) refl
line_told runs told z ls (Pushes k) h = opened ((course_of z ls).world.values.client.ready k) k
line_told runs told z ls (Links k) h = event_told runs told z ls (Plain (Open k)) refl
line_told runs told z ls Settles h = refl
