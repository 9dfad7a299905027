-- What a step, or steps, of a world in code come to in the courses of the definitions.
use Rattle.std.specs.Prelude.{Result, Ok, Err, MatchResult}
use Rattle.spec_world.specs.Courses.{Course, went_byte}
use Rattle.spec_world.specs.Settings.{WorldSettings}
use Rattle.world_ends.specs.Shown.{ShowsWorld}
use Rattle.world_ends.specs.declared.events.WorldError.{WorldError}
use Rattle.world_ends.specs.declared.events.WorldError.TheVariants as errors
use Rattle.world_ends.specs.declared.events.WorldEvent.{WorldEvent}
use Rattle.world_ends.specs.declared.world.World.{World}
use Rattle.world_steps.specs.Parts.{IsWorldMemory}
use Rattle.world_steps.specs.Steps.{meant}

-- from each course to whose world it was, it is the world of what they make of it; or memory ran out
abbrev pub EventComesTo : (WorldSettings → Course → Course) → World → World → Result Unit WorldError → Type 0
EventComesTo f old new result = (z : WorldSettings) (c : Course) → ShowsWorld z old c.world
    → MatchResult result (λ u. ShowsWorld z new (f z c).world) (λ why. IsWorldMemory why)

abbrev pub went_as : WorldEvent → WorldSettings → Course → Course
went_as e z c = went_byte z c (meant c.world e)

-- one that the world doesn't meet is none
abbrev pub unmet_as : WorldError → Result Unit WorldError
unmet_as errors.Memory = Err errors.Memory
unmet_as (errors.NoChannel k) = Ok tt
unmet_as (errors.NothingThere k) = Ok tt
unmet_as (errors.InUse k) = Ok tt
