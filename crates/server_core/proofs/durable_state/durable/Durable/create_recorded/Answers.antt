use Rattle.std.proofs.Common.{sym, ◌∙◌}
use Rattle.server_core.proofs.durable_state.Making.{create_none}
use Rattle.server_core.proofs.durable_state.durable.Durable.create_recorded.Goals as goal

pub returns-then-not-may_have_open : goal.returns-then-not-may_have_open
returns-then-not-may_have_open c = λ s origin i h. create_none c.args.self.now s origin c.args.made.now c.args.new.now
    (sym (c.may_have_open.ensures s h) ∙ c.if-not-may_have_open.true) h

pub returns-in-Ok : goal.returns-in-Ok
returns-in-Ok c = λ s origin i h.
    let k = c.in-Ok.ensures s i h in
    c.restore_if.ensures s origin i (sym (c.may_have_open.ensures s h) ∙ c.if-not-may_have_open.false) k.0 k.1
