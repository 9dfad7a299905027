-- A script without a forge and a flip comes to events of the network alone.
use Rattle.std.proofs.Common.{◌≡◌, ◌+◌, ◌*◌, false, List, [], ◌∷◌, ◌++◌, refl, ◌∙◌, ap}
use Rattle.spec_exchange.specs.Network.{Event}
use Rattle.spec_world.specs.Courses.{Course, Line, Does, Forges, Flips, Pushes, Links as LinksLine, Settles, course, go, opening, went}
use Rattle.spec_world.specs.Courses.{went_byte}
use Rattle.spec_world.specs.Events.{ByteEvent, Plain}
use Rattle.spec_world.specs.Settings.{WorldSettings}
use Rattle.spec_world.specs.Statements.{plainly}
use Rattle.law_replies.specs.courses.Courses.{AreHonest, PlainCoursesArePlain, tampers}
use Rattle.law_replies.proofs.courses.Loops.{CarriesOn, links, pushes, settles}

one_more : (es : List Event) (e : Event) → plainly es ++ Plain e ∷ [] ≡ plainly (es ++ e ∷ [])
unfolding plainly
one_more [] e = refl
one_more (x ∷ es) e = ap (λ (l : List ByteEvent). Plain x ∷ l) (one_more es e)

abbrev IsPlain : Course → Type 0
IsPlain c = (es : List Event) × (c.events ≡ plainly es)

plain_on : (z : WorldSettings) (c : Course) (e : Event) → IsPlain c → IsPlain (went z c e)
unfolding went_byte
plain_on z c e h = (h.0 ++ e ∷ [], ap (λ (l : List ByteEvent). l ++ Plain e ∷ []) h.1 ∙ one_more h.0 e)

carries : (z : WorldSettings) → CarriesOn z IsPlain
carries z c e own h = plain_on z c e h

goes : (z : WorldSettings) (c : Course) (l : Line) → tampers l ≡ false → IsPlain c → IsPlain (go z 256 c l)
unfolding go
goes z c (Does e) n h = plain_on z c e h
goes z c (Forges k up bytes) n h = absurd (cc)
goes z c (Flips k up at mask) n h = absurd (cc)
goes z c (Pushes k) n h = pushes z IsPlain (carries z) c k h
goes z c (LinksLine k) n h = links z IsPlain (carries z) c k h
goes z c Settles n h = settles z IsPlain (carries z) 256 (8 * (c.world.values.client.taken + 256 + 1)) c h

courses : (z : WorldSettings) (ls : List Line) (c : Course) → AreHonest ls → IsPlain c → IsPlain (course z 256 ls c)
unfolding course AreHonest
courses z [] c n h = h
courses z (l ∷ ls) c n h = courses z ls (go z 256 c l) n.1 (goes z c l n.0 h)

first : (z : WorldSettings) → IsPlain (opening z)
unfolding plainly
first z = ([], refl)

pub are_plain : PlainCoursesArePlain
are_plain z ls n = courses z ls (opening z) n (first z)
