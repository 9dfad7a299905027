-- Where no line is refused, each is met in the world of those in front of it.
use Rattle.std.proofs.Common.{◌≡◌, ℕ, ◌+◌, List, [], ◌∷◌, ◌++◌, refl, Option, Some, None}
use Rattle.spec_world.specs.Courses.{Course, Line, LineError, course, error_or, first_error, go, line_error, opening}
use Rattle.spec_world.specs.Notes.{WorldError}
use Rattle.spec_world.specs.Settings.{WorldSettings}
use Rattle.law_replies.specs.courses.Courses.{RefusalIsTheFirst}

both_none : (i : ℕ) (o : Option WorldError) (later : Option LineError) → error_or i o later ≡ None → (o ≡ None) × (later ≡ None)
both_none i None later h = (refl, h)
both_none i (Some why) later h = absurd (cc)

met : (z : WorldSettings) (i : ℕ) (before after : List Line) (l : Line) (c : Course)
    → first_error z 256 i (before ++ l ∷ after) c ≡ None → line_error (course z 256 before c).world l ≡ None
unfolding first_error course
met z i [] after l c h = (both_none i (line_error c.world l) (first_error z 256 (i + 1) after (go z 256 c l)) h).0
met z i (b ∷ before) after l c h =
    met z (i + 1) before after l (go z 256 c b)
    (both_none i (line_error c.world b) (first_error z 256 (i + 1) (before ++ l ∷ after) (go z 256 c b)) h).1

pub first_met : RefusalIsTheFirst
first_met z before after l h = met z 0 before after l (opening z) h
