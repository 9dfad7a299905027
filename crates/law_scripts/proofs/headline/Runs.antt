-- The laws on runs, on the run of a script.
use Rattle.std.proofs.Common.{◌≡◌, ℕ, ◌≤◌, ◌<◌, ◌^◌, List, [], ◌∷◌, ◌++◌, sym, subst, ◌∙◌, ap, arith}
use Rattle.law_replies.specs.courses.Courses.{CourseRuns, CoursesAreShort, PlainCoursesArePlain, count_lines, course_of}
use Rattle.law_replies.specs.courses.Courses.{restarts_of, submits_of}
use Rattle.spec_exchange.specs.Network as network
use Rattle.spec_exchange.specs.Statements.{BytesNow, ExactlyOnce, NeverAfterNewer, Newer, OneConnection, OneConnections}
use Rattle.law_ties.specs.wire_facts.Steps.{StepLaw, restarts_in, submits_in}
use Rattle.spec_world.specs.Courses.{Line}
use Rattle.spec_world.specs.Events.{ByteEvent, bytes_run, bytes_start}
use Rattle.spec_world.specs.Settings.{WorldSettings, values_of}
use Rattle.spec_world.specs.Statements.{Negotiated, Negotiation, plain_run, plainly, value_events}
use Rattle.spec_world.specs.World.{World}
use Rattle.law_ties.specs.wire_facts.Fitting.{IsFitting}
use Rattle.law_scripts.specs.headline.Headline.{ActsOnce, Headline, HoldsThen, IsHeadlineCounted}

-- the same run by its own events
plain_is : CourseRuns → (z : WorldSettings) (ls : List Line) (es : List network.Event) → (course_of z ls).events ≡ plainly es
    → plain_run z es ≡ (course_of z ls).world
plain_is runs z ls es e = ap (λ (l : List ByteEvent). bytes_run z l (bytes_start z)) (sym e) ∙ runs z ls

few : (n m bound : ℕ) → n ≡ m → m < bound → n < bound
few n m bound e h = subst (λ (x : ℕ). x < bound) (sym e) h

-- ---- events in front of others are no more than all

restarts_front : (before after : List network.Event) → restarts_in before ≤ restarts_in (before ++ after)
unfolding restarts_in
restarts_front [] after = omega arith
restarts_front (network.Submit g op ∷ es) after = restarts_front es after
restarts_front (network.Open k ∷ es) after = restarts_front es after
restarts_front (network.Push k slotless pick ∷ es) after = restarts_front es after
restarts_front (network.Serve k ∷ es) after = restarts_front es after
restarts_front (network.Take k ∷ es) after = restarts_front es after
restarts_front (network.Cut k ∷ es) after = restarts_front es after
restarts_front (network.Drop k ∷ es) after = restarts_front es after
restarts_front (network.Restart ∷ es) after = omega (arith, restarts_front es after)
restarts_front (network.Crash k kept ∷ es) after = omega (arith, restarts_front es after)
restarts_front (network.Wait n ∷ es) after = restarts_front es after
restarts_front (network.Finish refusal ∷ es) after = restarts_front es after

submits_front : (before after : List network.Event) → submits_in before ≤ submits_in (before ++ after)
unfolding submits_in
submits_front [] after = omega arith
submits_front (network.Submit g op ∷ es) after = omega (arith, submits_front es after)
submits_front (network.Open k ∷ es) after = submits_front es after
submits_front (network.Push k slotless pick ∷ es) after = submits_front es after
submits_front (network.Serve k ∷ es) after = submits_front es after
submits_front (network.Take k ∷ es) after = submits_front es after
submits_front (network.Cut k ∷ es) after = submits_front es after
submits_front (network.Drop k ∷ es) after = submits_front es after
submits_front (network.Restart ∷ es) after = submits_front es after
submits_front (network.Crash k kept ∷ es) after = submits_front es after
submits_front (network.Wait n ∷ es) after = submits_front es after
submits_front (network.Finish refusal ∷ es) after = submits_front es after

below : (n m bound : ℕ) → n ≤ m → m < bound → n < bound
below n m bound h f = omega (arith, h, f)

restarts_below : (es before after : List network.Event) (bound : ℕ) → es ≡ before ++ after → restarts_in es < bound
    → restarts_in before < bound
restarts_below es before after bound e h =
    below (restarts_in before) (restarts_in (before ++ after)) bound (restarts_front before after)
    (subst (λ (l : List network.Event). restarts_in l < bound) e h)

submits_below : (es before after : List network.Event) (bound : ℕ) → es ≡ before ++ after → submits_in es < bound
    → submits_in before < bound
submits_below es before after bound e h =
    below (submits_in before) (submits_in (before ++ after)) bound (submits_front before after)
    (subst (λ (l : List network.Event). submits_in l < bound) e h)

-- ---- behind any events of the network, with settings that fit

holds_then : StepLaw → ExactlyOnce → Newer → OneConnection → (z : WorldSettings) → IsFitting z → (es : List network.Event)
    → restarts_in es < 4294967295 → submits_in es < 2 ^ 64 → HoldsThen z (plain_run z es) es
holds_then steps once newer one z fits es r s =
    let t = steps z fits es r s in
    let values = sym t.in_step in
    let vs = value_events z (bytes_start z) es in
    record {
      is_run = values;
      once = once (values_of z) vs;
      newer = subst NeverAfterNewer values (newer (values_of z) vs);
      legal = subst OneConnections values (one (values_of z) vs).0;
      bytes_now = subst BytesNow values (one (values_of z) vs).1;
    }

acts_once : CourseRuns → CoursesAreShort → StepLaw → ExactlyOnce → Newer → OneConnection → (z : WorldSettings) (ls : List Line)
    → IsHeadlineCounted z ls → (es : List network.Event) → (course_of z ls).events ≡ plainly es → ActsOnce z (course_of z ls) es
acts_once runs short steps once newer one z ls h es e =
    let s = short z ls es e in
    let restarts = few (restarts_in es) (count_lines restarts_of ls) 4294967295 s.0 h.restarts in
    let submits = few (submits_in es) (count_lines submits_of ls) (2 ^ 64) s.1 h.submits in
    record {
      events = e;
      at_end = subst (λ (w : World). HoldsThen z w es) (plain_is runs z ls es e)
          (holds_then steps once newer one z h.fitting es restarts submits);
      at_each = λ before after split. holds_then steps once newer one z h.fitting before
          (restarts_below es before after 4294967295 split restarts) (submits_below es before after (2 ^ 64) split submits);
    }

pub headline : CourseRuns → CoursesAreShort → PlainCoursesArePlain → StepLaw → ExactlyOnce → Newer → OneConnection → Negotiation
    → Headline
headline runs short plain steps once newer one negotiation z ls = record {
  acts_once = λ h. (let p = plain z ls h.honest in (p.0, acts_once runs short steps once newer one z ls h p.0 p.1));
  negotiated = subst Negotiated (runs z ls) (negotiation z (course_of z ls).events);
}
