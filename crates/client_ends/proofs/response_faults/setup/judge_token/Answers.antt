use Rattle.std.proofs.Common.{ℕ, List, sym, ap, ◌∙◌}
use Rattle.std.specs.Prelude.{is_some}
use Rattle.spec_world.specs.Sending.{answer_of}
use Rattle.client_ends.specs.ends.Shown.{settings_of}
use Rattle.client_ends.proofs.response_faults.Setups.{interim_bad}
use Rattle.client_ends.proofs.response_faults.setup.judge_token.Goals as goal

pub returns-in-Some : goal.returns-in-Some
returns-in-Some c = λ n s has is status fits body token.
    c.judge_signed.ensures n s has is status fits body
    (ap (λ (t : List ℕ). answer_of (settings_of c.args.d.now.config) n t) (sym token) ∙ (sym (c.in_ok-answer.ensures n s) ∙ c.in-Some.is))

pub returns-in-None : goal.returns-in-None
returns-in-None c = λ n s has is status fits body token.
    interim_bad (settings_of c.args.d.now.config) n (is_some c.args.d.now.bound) c.args.header c.args.m.now has is status fits body
    (ap (λ (t : List ℕ). answer_of (settings_of c.args.d.now.config) n t) (sym token) ∙ (sym (c.in_ok-answer.ensures n s) ∙ c.in-None.is))
