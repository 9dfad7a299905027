-- Steps in a course.
use Rattle.std.proofs.Common.{◌≡◌, subst, Result, MatchResult}
use Rattle.spec_world.specs.Courses.{Course, went_byte}
use Rattle.spec_world.specs.Events.{ByteEvent, bytes_happen}
use Rattle.spec_world.specs.Settings.{WorldSettings}
use Rattle.world_ends.specs.Shown.{ShowsWorld}
use Rattle.world_ends.specs.declared.events.WorldError.{WorldError}
use Rattle.world_ends.specs.declared.world.World.{World}
use Rattle.world_steps.specs.Parts.{IsWorldMemory}

pub in_course : (z : WorldSettings) (y : World) (c : Course) (e : ByteEvent) → ShowsWorld z y (bytes_happen z c.world e)
    → ShowsWorld z y (went_byte z c e).world
unfolding went_byte
in_course z y c e h = h

-- of the same course
pub as_course : (z : WorldSettings) (x : World) (c d : Course) → c ≡ d → ShowsWorld z x c.world → ShowsWorld z x d.world
as_course z x c d e h = subst (λ (v : Course). ShowsWorld z x v.world) e h

pub result_as : (z : WorldSettings) (x : World) (r : Result Unit WorldError) (c d : Course) → c ≡ d
    → MatchResult r (λ u. ShowsWorld z x c.world) (λ why. IsWorldMemory why)
    → MatchResult r (λ u. ShowsWorld z x d.world) (λ why. IsWorldMemory why)
result_as z x r c d e h = subst (λ (v : Course). MatchResult r (λ u. ShowsWorld z x v.world) (λ why. IsWorldMemory why)) e h
