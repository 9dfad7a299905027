-- A step whose note is kept.
use Rattle.std.proofs.Common.{sym, subst, Result, Ok, Err, MatchResult}
use Rattle.spec_world.specs.Events.{bytes_happen}
use Rattle.spec_world.specs.Notes.{step_error}
use Rattle.world_ends.specs.declared.events.WorldError.{WorldError}
use Rattle.world_ends.specs.declared.events.WorldEvent.{WorldEvent}
use Rattle.world_ends.specs.declared.world.World.{World}
use Rattle.world_steps.proofs.notes.Still.{still}
use Rattle.world_steps.specs.notes.Noted.{Noted}
use Rattle.world_steps.specs.Parts.{IsWorldMemory}
use Rattle.world_steps.specs.Steps.{WorldRefuses, WorldSteps, meant}

-- the event was met, and its note is kept, or memory ran out for it
pub noted_step : (x m n y : World) (e : WorldEvent) (kept : Result Unit WorldError) → Noted x m → WorldSteps m e n (Ok tt)
    → MatchResult kept (λ u. Noted n y) (λ why. IsWorldMemory why) → WorldSteps x e y kept
noted_step x m n y e (Ok u) a s b = λ z w h.
    let r = s z w (still z x m w a h) in (r.0, still z n y (bytes_happen z w (meant w e)) b r.1)
noted_step x m n y e (Err why) a s b = λ z w h.
    subst (λ (v : WorldError). WorldRefuses z y w (step_error w (meant w e)) v) (sym b) tt

-- it was refused
pub refused_step : (x m n : World) (e : WorldEvent) (why : WorldError) → Noted x m → WorldSteps m e n (Err why) → WorldSteps x e n (Err why)
refused_step x m n e why a s = λ z w h. s z w (still z x m w a h)
