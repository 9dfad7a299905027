use Rattle.std.proofs.Common.{sym, ◌∙◌}
use Rattle.client_ends.specs.ends.Shown.{settings_of}
use Rattle.client_ends.proofs.response_faults.Greetings.{other_response}
use Rattle.client_ends.proofs.response_faults.greeting.judge_form.Goals as goal

pub returns-then-fits : goal.returns-then-fits
returns-then-fits c = λ n bound s has is status.
    c.judge_body.ensures n bound s has is status (sym (c.answers-fits.ensures n s.talk) ∙ c.if-fits.true)

pub returns-else-fits : goal.returns-else-fits
returns-else-fits c = λ n bound s has is status.
    other_response (settings_of c.args.d.now.config) n bound c.args.header c.args.m.now has is status
    (sym (c.answers-fits.ensures n s.talk) ∙ c.if-fits.false)
