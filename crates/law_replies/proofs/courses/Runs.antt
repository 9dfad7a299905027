-- The events of a course lead to its world.
use Rattle.std.proofs.Common.{◌≡◌, ◌+◌, ◌*◌, List, [], ◌∷◌, ◌++◌, refl, ◌∙◌, ap}
use Rattle.spec_world.specs.Courses.{Course, Line, Does, Forges, Flips, Pushes, Links as LinksLine, Settles, course, go, opening, went_byte}
use Rattle.spec_world.specs.Events.{ByteEvent, Plain, bytes_happen, bytes_run, bytes_start, flip, forge}
use Rattle.spec_world.specs.Settings.{WorldSettings}
use Rattle.spec_world.specs.World.{World}
use Rattle.law_replies.specs.courses.Courses.{CourseRuns}
use Rattle.law_replies.proofs.courses.Loops.{CarriesOn, links, pushes, settles}

one_more : (z : WorldSettings) (es : List ByteEvent) (e : ByteEvent) (w : World)
    → bytes_run z (es ++ e ∷ []) w ≡ bytes_happen z (bytes_run z es w) e
unfolding bytes_run
one_more z [] e w = refl
one_more z (x ∷ es) e w = one_more z es e (bytes_happen z w x)

abbrev Leads : WorldSettings → Course → Type 0
Leads z c = bytes_run z c.events (bytes_start z) ≡ c.world

leads_on : (z : WorldSettings) (c : Course) (e : ByteEvent) → Leads z c → Leads z (went_byte z c e)
unfolding went_byte
leads_on z c e h = one_more z c.events e (bytes_start z) ∙ ap (λ (w : World). bytes_happen z w e) h

carries : (z : WorldSettings) → CarriesOn z (Leads z)
carries z c e own h = leads_on z c (Plain e) h

goes : (z : WorldSettings) (c : Course) (l : Line) → Leads z c → Leads z (go z 256 c l)
unfolding go
goes z c (Does e) h = leads_on z c (Plain e) h
goes z c (Forges k up bytes) h = leads_on z c (forge k up bytes) h
goes z c (Flips k up at mask) h = leads_on z c (flip k up at mask) h
goes z c (Pushes k) h = pushes z (Leads z) (carries z) c k h
goes z c (LinksLine k) h = links z (Leads z) (carries z) c k h
goes z c Settles h = settles z (Leads z) (carries z) 256 (8 * (c.world.values.client.taken + 256 + 1)) c h

courses : (z : WorldSettings) (ls : List Line) (c : Course) → Leads z c → Leads z (course z 256 ls c)
unfolding course
courses z [] c h = h
courses z (l ∷ ls) c h = courses z ls (go z 256 c l) (goes z c l h)

first : (z : WorldSettings) → Leads z (opening z)
unfolding bytes_run
first z = refl

pub course_runs : CourseRuns
course_runs z ls = courses z ls (opening z) (first z)
