use Rattle.std.proofs.Common.{true, false, sym, ◌∙◌}
use Rattle.std.specs.Prelude.{is_some}
use Rattle.spec_crypto.specs.tokens.Tokens.{is_final}
use Rattle.client_ends.specs.ends.Shown.{settings_of}
use Rattle.client_ends.proofs.response_faults.Setups.{final_bad, final_judged}
use Rattle.client_ends.proofs.response_faults.setup.judge_end.Goals as goal

pub returns-then-ends : goal.returns-then-ends
returns-then-ends c = λ n s has is status fits body token flags.
    final_judged c.args.d.now.config n (is_some c.args.d.now.bound) c.args.d.now.session c.args.told.now.flags c.final_keys.result
    c.args.header c.args.m.now c.judge_keys.result has is status fits body
    ((λ t. is_final (s.base t) (sym token t)) ∙ (sym c.in_ok-ends.ensures ∙ c.if-ends.true)) (c.final_keys.ensures n s) flags
    c.judge_keys.ensures

pub returns-else-ends : goal.returns-else-ends
returns-else-ends c = λ n s has is status fits body token flags.
    final_bad (settings_of c.args.d.now.config) n (is_some c.args.d.now.bound) c.args.header c.args.m.now has is status fits body
    ((λ t. is_final (s.base t) (sym token t)) ∙ (sym c.in_ok-ends.ensures ∙ c.if-ends.false))
