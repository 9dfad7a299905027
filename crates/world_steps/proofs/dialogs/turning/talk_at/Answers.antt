use Rattle.std.proofs.Common.{ℕ, MatchResult, subst, is_some}
use Rattle.world_steps.specs.Parts.{IsWorldMemory}
use Rattle.world_steps.specs.dialogs.Talking.{channel_number}
use Rattle.world_steps.specs.dialogs.Turned.{TakesTurn}
use Rattle.world_steps.proofs.dialogs.turning.talk_at.Goals as goal

pub returns-in-Ok : goal.returns-in-Ok
returns-in-Ok c =
    let a = c.args in
    subst (λ (n : ℕ). MatchResult c.talk_by.result
    (λ u. TakesTurn a.world.now a.k n (channel_number (is_some a.talk.dialog.bound) a.world.now.numbers) a.talk c.talk_by.new.world)
    (λ e. IsWorldMemory e)) c.in-Ok.ensures.1 c.talk_by.ensures
