use Rattle.std.proofs.Common.{ℕ, MatchResult, subst}
use Rattle.world_steps.specs.sending.Sending.{Chooses}
use Rattle.world_steps.specs.Parts.{IsWorldMemory}
use Rattle.world_steps.proofs.sending.Asked.{chosen}
use Rattle.world_steps.proofs.sending.choosing.choose_with.Goals as goal

pub returns-in-Ok : goal.returns-in-Ok
returns-in-Ok c =
    subst (λ (k : ℕ). MatchResult c.happen.result (λ act. Chooses c.args.client.now k c.args.credits act
    c.happen.new.client) (λ e. IsWorldMemory e))
    c.in-Ok.ensures.1
    (chosen c.args.client.now c.happen.new.client c.in-Ok.channel c.args.credits c.happen.result c.happen.ensures.shown
    c.happen.ensures.told)
