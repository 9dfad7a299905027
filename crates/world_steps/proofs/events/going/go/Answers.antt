use Rattle.std.proofs.Common.{sym, subst, Result, MatchResult}
use Rattle.world_ends.specs.declared.events.WorldError.{WorldError}
use Rattle.world_ends.specs.Shown.{ShowsWorld}
use Rattle.world_steps.specs.events.Coming.{went_as}
use Rattle.world_steps.proofs.events.Coming.{in_course}
use Rattle.world_steps.proofs.events.Unmet.{goes_unmet}
use Rattle.world_steps.specs.Parts.{IsWorldMemory}
use Rattle.world_steps.specs.Steps.{meant}
use Rattle.world_steps.proofs.events.going.go.Goals as goal

pub returns-in-Ok : goal.returns-in-Ok
returns-in-Ok c = λ z d h. in_course z c.step.new.world d (meant d.world c.args.event) (c.in-Ok.ensures z d.world h).1

pub returns-in-Err : goal.returns-in-Err
returns-in-Err c = λ z d h.
    subst (λ (r : Result Unit WorldError).
    MatchResult r (λ u. ShowsWorld z c.step.new.world (went_as c.args.event z d).world) (λ v. IsWorldMemory v))
    (sym c.unmet.ensures)
    (goes_unmet z c.args.world.now c.step.new.world d c.args.event c.in-Err.why h (c.in-Err.ensures z d.world h))
