use Rattle.std.proofs.Common.{sym, ◌∙◌}
use Rattle.client_ends.proofs.response_faults.Trees.{tree_other}
use Rattle.client_ends.proofs.response_faults.tree.judge_form.Goals as goal

pub returns-then-fits : goal.returns-then-fits
returns-then-fits c = λ g n s has is status.
    c.judge_body.ensures g n s has is status (sym (c.answers-fits.ensures n s.0) ∙ c.if-fits.true)

pub returns-else-fits : goal.returns-else-fits
returns-else-fits c = λ g n s has is status.
    tree_other g n c.args.header c.args.m.now has is status (sym (c.answers-fits.ensures n s.0) ∙ c.if-fits.false)
