use Rattle.std.proofs.Common.{ℕ, List, sym, ap, ◌∙◌}
use Rattle.spec_crypto.specs.sessions.Chain.{value_behind}
use Rattle.conn_core.proofs.requests.hearing.taken.Goals as goal

pub returns : goal.returns
returns c = λ messages e.
    c.take.ensures.behind
    ∙ (ap (λ (v : List ℕ). value_behind v c.args.message.now) e ∙ sym (c.chain_law.ensures messages c.args.message.now))
