-- What linking a connection comes to.
use Rattle.std.specs.Prelude.{◌≡◌, ℕ, None, Result, Ok, Err}
use Rattle.spec_world.specs.Courses as courses
use Rattle.spec_world.specs.Courses.{Course}
use Rattle.spec_world.specs.Notes.{open_error}
use Rattle.spec_world.specs.Settings.{WorldSettings}
use Rattle.world_ends.specs.Shown.{ShowsWorld}
use Rattle.world_ends.specs.declared.events.WorldError.{WorldError}
use Rattle.world_ends.specs.declared.world.World.{World}
use Rattle.world_steps.specs.Steps.{WorldRefuses}

-- it is the course that the definitions have where the world meets the opening, or it refuses as they do
abbrev pub LinksAs : WorldSettings → Course → ℕ → World → Result Unit WorldError → Type 0
LinksAs z c k new (Ok u) = (open_error c.world k ≡ None) × ShowsWorld z new (courses.link z c k).world
LinksAs z c k new (Err why) = WorldRefuses z new c.world (open_error c.world k) why

abbrev pub Links : World → ℕ → World → Result Unit WorldError → Type 0
Links old k new result = (z : WorldSettings) (c : Course) → ShowsWorld z old c.world → LinksAs z c k new result
