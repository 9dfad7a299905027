use Rattle.std.proofs.Common.{Bool, subst, sym, ◌∙◌, MatchResult}
use Rattle.world_steps.specs.dialogs.Turned.{TalkAccepts}
use Rattle.world_steps.specs.Parts.{IsWorldMemory}
use Rattle.world_steps.proofs.dialogs.joining.accept_by.Goals as goal

pub returns-then-bound : goal.returns-then-bound
returns-then-bound c =
    let a = c.args in
    subst (λ (b : Bool). MatchResult c.join_by.result
    (λ u. TalkAccepts b a.world.now a.k a.channel a.number a.dialog a.rest a.keys a.frame c.join_by.new.world) (λ e. IsWorldMemory e))
    (sym c.if-bound.true ∙ c.is_some-bound.ensures) c.join_by.ensures

pub returns-else-bound : goal.returns-else-bound
returns-else-bound c =
    let a = c.args in
    subst (λ (b : Bool). MatchResult c.enter_by.result
    (λ u. TalkAccepts b a.world.now a.k a.channel a.number a.dialog a.rest a.keys a.frame c.enter_by.new.world) (λ e. IsWorldMemory e))
    (sym c.if-bound.false ∙ c.is_some-bound.ensures) c.enter_by.ensures
