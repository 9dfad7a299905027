use Rattle.std.proofs.Common.{sym, ap, ◌∙◌}
use Rattle.std.specs.Prelude.{is_some}
use Rattle.spec_crypto.specs.declared.sessions.material.Keys.{Keys}
use Rattle.client_ends.proofs.response_faults.Setups.{signed_judged, unsigned_judged}
use Rattle.client_ends.proofs.response_faults.setup.judge_signed.Goals as goal

pub returns-then-bound : goal.returns-then-bound
returns-then-bound c = λ n s has is status fits body answer.
    let binds = sym c.binds-bound.ensures ∙ c.if-bound.true in
    signed_judged c.args.d.now.config n (is_some c.args.d.now.bound) c.args.d.now.line.keys.signing c.args.header c.args.m.now c.args.token
    c.judge_bound.result has is status fits body answer binds (ap (λ (k : Keys). k.signing) (s.keys binds)) c.judge_bound.ensures

pub returns-else-bound : goal.returns-else-bound
returns-else-bound c = λ n s has is status fits body answer.
    unsigned_judged c.args.d.now.config n (is_some c.args.d.now.bound) c.args.header c.args.m.now c.args.token has is status fits body
    answer (sym c.binds-bound.ensures ∙ c.if-bound.false)
