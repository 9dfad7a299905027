use Rattle.std.proofs.Common.{sym, ◌∙◌}
use Rattle.server_core.proofs.durable_state.Swept.{gone_shown, stays_shown}
use Rattle.server_core.proofs.durable_state.durable.drop_gone.Goals as goal

pub returns-then-goes : goal.returns-then-goes
returns-then-goes c = λ s h o. gone_shown c.remove.result c.args.tree.now c.remove.new.self s c.args.file c.remove.ensures.done h
    (sym (c.goes.ensures s h o) ∙ c.if-goes.true)

pub returns-else-goes : goal.returns-else-goes
returns-else-goes c = λ s h o. stays_shown c.args.tree.now s c.args.file (sym (c.goes.ensures s h o) ∙ c.if-goes.false) h
