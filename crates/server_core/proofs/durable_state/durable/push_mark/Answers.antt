use Rattle.std.proofs.Common.{sym, ◌∙◌}
use Rattle.server_core.proofs.durable_state.Marks.{more_marks, none_at}
use Rattle.server_core.proofs.durable_state.durable.push_mark.Goals as goal

pub returns-then-not-goes : goal.returns-then-not-goes
returns-then-not-goes c = λ s h o. none_at s c.args.file _ (sym (c.goes.ensures s h o) ∙ c.if-not-goes.true)

pub returns : goal.returns
returns c = λ s h o. more_marks c.push.result s c.args.file _ _ _ c.no_message.ensures c.push.ensures.ok
    (sym (c.goes.ensures s h o) ∙ c.if-not-goes.false)
