-- What holds of the run of a script.
use Rattle.std.specs.Prelude.{◌≡◌, ◌<◌, ◌^◌, List, ◌++◌}
use Rattle.law_replies.specs.courses.Courses.{AreHonest, count_lines, course_of, restarts_of, submits_of}
use Rattle.spec_exchange.specs.Network as network
use Rattle.spec_exchange.specs.Statements.{BytesNow, NeverAfterNewer, Once, OneConnections}
use Rattle.law_ties.specs.wire_facts.Fitting.{IsFitting}
use Rattle.spec_world.specs.Courses.{Course, Line}
use Rattle.spec_world.specs.Events.{bytes_start}
use Rattle.spec_world.specs.Settings.{WorldSettings, values_of}
use Rattle.spec_world.specs.Statements.{Negotiated, plain_run, plainly, value_events}
use Rattle.spec_world.specs.World.{World}

-- What holds at a moment of a run without tampering, whose events up to then these are: each outcome that stands then is true then.
pub record HoldsThen (z : WorldSettings) (w : World) (es : List network.Event) : Type 0 where
  pub is_run : network.run (value_events z (bytes_start z) es) (network.start (values_of z)) ≡ w.values
  pub once : Once (value_events z (bytes_start z) es) (network.start (values_of z))
  pub newer : NeverAfterNewer w.values
  pub legal : OneConnections w.values
  pub bytes_now : BytesNow w.values

-- A run without tampering, by the events of the model of values that it comes to: at its end, and at each moment on the way.
pub record ActsOnce (z : WorldSettings) (c : Course) (es : List network.Event) : Type 0 where
  pub events : c.events ≡ plainly es
  pub at_end : HoldsThen z c.world es
  pub at_each : (before after : List network.Event) → es ≡ before ++ after → HoldsThen z (plain_run z before) before

-- a script that the first three sentences hold of: its settings fit, and its restarts and operations are few
pub record IsHeadlineCounted (z : WorldSettings) (ls : List Line) : Type 0 where
  pub fitting : IsFitting z
  pub honest : AreHonest ls
  pub restarts : count_lines restarts_of ls < 4294967295
  pub submits : count_lines submits_of ls < 2 ^ 64

-- the four sentences: the first three without tampering, the last one of any run
pub record HeadlineHolds (z : WorldSettings) (ls : List Line) : Type 0 where
  pub acts_once : IsHeadlineCounted z ls → (es : List network.Event) × ActsOnce z (course_of z ls) es
  pub negotiated : Negotiated (course_of z ls).world

abbrev pub Headline : Type 0
Headline = (z : WorldSettings) (ls : List Line) → HeadlineHolds z ls
