use Rattle.std.proofs.Common.{ℕ, MatchResult, subst}
use Rattle.world_steps.specs.taking.Replies.{Responds}
use Rattle.world_steps.specs.Parts.{IsWorldMemory}
use Rattle.world_steps.proofs.taking.Read.{responding}
use Rattle.world_steps.proofs.taking.noting.tell.Goals as goal

pub returns-in-Ok : goal.returns-in-Ok
returns-in-Ok c =
    let r = c.args.response.now in
    let reply = c.args.reply in
    subst (λ (k : ℕ). MatchResult c.happen.result
    (λ act. Responds c.args.client.now k r.number r.asking reply.status reply.body act c.happen.new.client)
    (λ e. IsWorldMemory e)) c.in-Ok.ensures.1
    (responding c.args.client.now c.happen.new.client c.in-Ok.channel r.number r.asking reply.status reply.body c.happen.result
    c.happen.ensures.shown c.happen.ensures.told)
