use Rattle.std.proofs.Common.{refl, sym, ◌∙◌}
use Rattle.world_steps.proofs.opening.beginning.session_bound.Goals as goal

pub returns-then-is_live : goal.returns-then-is_live
returns-then-is_live c = λ m s. (sym (c.is_live.ensures m s) ∙ c.if-is_live.true, c.id.ensures m s, c.tree.ensures m s, refl)

pub returns-else-is_live : goal.returns-else-is_live
returns-else-is_live c = λ m s. sym (c.is_live.ensures m s) ∙ c.if-is_live.false
