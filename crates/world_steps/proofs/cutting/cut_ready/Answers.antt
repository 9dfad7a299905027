use Rattle.std.proofs.Common.{ℕ, MatchResult, subst}
use Rattle.world_steps.specs.Parts.{CutsLine, IsWorldMemory}
use Rattle.world_steps.proofs.cutting.cut_ready.Goals as goal

pub returns-in-Some : goal.returns-in-Some
returns-in-Some c =
    let a = c.args in
    let n = c.cut_line.new in
    subst (λ (channel : ℕ). MatchResult c.cut_line.result
    (λ u. CutsLine a.client.now a.making.now a.channels.now.items a.k channel n.client n.making n.channels.items) (λ e. IsWorldMemory e))
    c.in-Some.ensures c.cut_line.ensures
