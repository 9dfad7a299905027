use Rattle.std.proofs.Common.{◌∙◌, sym, ap}
use Rattle.spec_wire.specs.declared.messages.header.Header.{Header}
use Rattle.conn_core.proofs.logon_state.Moved.{is_it, not_greeted}
use Rattle.conn_core.proofs.logon_state.behind.Behind.greet_by.Goals as goal

pub returns-then-said-eq-SUCCESS : goal.returns-then-said-eq-SUCCESS
returns-then-said-eq-SUCCESS c = λ nonces guid salt now f s shows said hello chooses greets raw.
    c.greet.ensures nonces guid salt now f s shows hello chooses greets
    (ap (λ (h : Header). h.status) said.header ∙ c.if-said-eq-SUCCESS.true) raw

pub returns-else-said-eq-SUCCESS : goal.returns-else-said-eq-SUCCESS
returns-else-said-eq-SUCCESS c = λ nonces guid salt now f s shows said hello chooses greets raw.
    not_greeted nonces c.args.self.now f s c.args.response.now shows (λ greeted status.
    c.if-said-eq-SUCCESS.false (sym (ap (λ (h : Header). h.status) said.header) ∙ is_it s.header.status 0 status))
