use Rattle.std.proofs.Common.{[], ◌∙◌}
use Rattle.spec_crypto.specs.tokens.Tokens.{answer_token}
use Rattle.spec_world.specs.Sending.{that_fits}
use Rattle.client_ends.proofs.response_faults.Setups.{answer_is}
use Rattle.client_ends.proofs.response_faults.setup.answer_to.Goals as goal

pub returns : goal.returns
returns c = λ n s.
    let d = c.args.d.now in
    let token = c.args.told.now.token.now in
    answer_is d n token c.in_ok-answer.answer s
    (c.in_ok-answer.ensures
    ∙ (λ t. that_fits (answer_token (record {
      user = c.as_str.ensures t;
      password = c.as_str-2.ensures t;
      domain = [];
      challenge = d.challenge;
      key = d.base;
    }) token)))
