use Rattle.std.proofs.Common.{List, ℕ, subst}
use Rattle.spec_world.specs.Hearing.{check_frame}
use Rattle.conn_core.specs.frame_messages.Checking.{Checks}
use Rattle.conn_core.proofs.frame_messages.checking.check.Goals as goal

pub returns-in-Ok-clause-checks : goal.returns-in-Ok-clause-checks
returns-in-Ok-clause-checks c = λ k guid f shown.
    subst (λ (b : List ℕ). Checks k guid (check_frame f b) c.args.now c.check_own.new.conn c.check_own.result) c.in-Ok.ensures.items
    (c.check_own.ensures.checks k guid f shown)
