use Rattle.std.proofs.Common.{ℕ, MatchResult, subst}
use Rattle.world_steps.specs.Parts.{IsWorldMemory}
use Rattle.world_steps.specs.dialogs.Turned.{TakesTurn}
use Rattle.world_steps.proofs.dialogs.turning.talk_by.Goals as goal

pub returns-in-Ok : goal.returns-in-Ok
returns-in-Ok c =
    let a = c.args in
    subst (λ (n : ℕ). MatchResult c.hear_by.result
    (λ u. TakesTurn a.world.now a.k a.channel n a.talk c.hear_by.new.world) (λ e. IsWorldMemory e)) c.in-Ok.ensures.0
    (c.hear_by.ensures c.in-Ok.ensures.1)
