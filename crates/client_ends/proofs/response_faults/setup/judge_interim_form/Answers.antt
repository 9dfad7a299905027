use Rattle.std.proofs.Common.{sym, ◌∙◌}
use Rattle.std.specs.Prelude.{is_some}
use Rattle.client_ends.specs.ends.Shown.{settings_of}
use Rattle.client_ends.proofs.response_faults.Setups.{interim_other}
use Rattle.client_ends.proofs.response_faults.setup.judge_interim_form.Goals as goal

pub returns-then-fits : goal.returns-then-fits
returns-then-fits c = λ n s has is status.
    c.judge_interim_body.ensures n s has is status (sym (c.answers-fits.ensures n s.talk) ∙ c.if-fits.true)

pub returns-else-fits : goal.returns-else-fits
returns-else-fits c = λ n s has is status.
    interim_other (settings_of c.args.d.now.config) n (is_some c.args.d.now.bound) c.args.header c.args.m.now has is status
    (sym (c.answers-fits.ensures n s.talk) ∙ c.if-fits.false)
