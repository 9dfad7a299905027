use Rattle.world_steps.proofs.Refusing.{result_with}
use Rattle.world_steps.proofs.dialogs.turning.ready_by.Goals as goal

pub returns-then-none : goal.returns-then-none
returns-then-none c = result_with c.end_by.result (λ u ends. (c.if-none.true, ends)) c.end_by.ensures
