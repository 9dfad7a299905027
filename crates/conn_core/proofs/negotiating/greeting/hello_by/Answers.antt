use Rattle.std.proofs.Common.{◌∙◌, sym, ap, arith, length}
use Rattle.spec_wire.specs.messages.Negotiate.{NegotiateRequestValue}
use Rattle.spec_world.specs.Negotiate.{has_dialect}
use Rattle.conn_core.proofs.negotiating.Hellos.{no_dialect}
use Rattle.conn_core.proofs.negotiating.greeting.hello_by.Goals as goal

pub returns-then-has_dialect-clause-hello : goal.returns-then-has_dialect-clause-hello
returns-then-has_dialect-clause-hello c = λ m asked.
    c.hello_in.ensures.hello m asked
    (ap (λ (v : NegotiateRequestValue). has_dialect v.dialects) (sym asked.is) ∙ (sym c.has_dialect.ensures ∙ c.if-has_dialect.true))

pub returns-else-has_dialect-clause-short : goal.returns-else-has_dialect-clause-short
returns-else-has_dialect-clause-short c = omega (arith, ap length c.refused.ensures.1)

pub returns-else-has_dialect-clause-hello : goal.returns-else-has_dialect-clause-hello
returns-else-has_dialect-clause-hello c = λ m asked.
    let g = c.args.greeter.now in
    no_dialect g.guid g.salt g.moment m c.refused.result asked.whole
    (ap (λ (v : NegotiateRequestValue). has_dialect v.dialects) (sym asked.is) ∙ (sym c.has_dialect.ensures ∙ c.if-has_dialect.false))
    c.refused.ensures.0
