use Rattle.std.proofs.Common.{ℕ, MatchResult, subst}
use Rattle.world_steps.specs.sending.Sending.{SendingGoes}
use Rattle.world_steps.specs.Parts.{IsWorldMemory}
use Rattle.world_steps.proofs.sending.pushing.send_number.Goals as goal

pub returns-in-Ok : goal.returns-in-Ok
returns-in-Ok c =
    subst (λ (g : ℕ). MatchResult c.send_up.result (λ u. SendingGoes c.args.client.now c.args.salt g c.args.asking c.args.k
    c.args.channels.now.items
    c.send_up.new.channels.items) (λ e. IsWorldMemory e)) c.in-Ok.ensures.1 c.send_up.ensures
