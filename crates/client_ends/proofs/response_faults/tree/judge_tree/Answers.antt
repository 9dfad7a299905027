use Rattle.std.proofs.Common.{Some}
use Rattle.client_values.specs.outcomes.Meaning.{refusal_of}
use Rattle.spec_exchange.specs.Client.{AskedTree}
use Rattle.spec_world.specs.Dialog.{response_in}
use Rattle.client_ends.specs.ends.Shown.{settings_of}
use Rattle.client_ends.proofs.response_faults.Forms.{early_judged}
use Rattle.client_ends.proofs.response_faults.tree.judge_tree.Goals as goal

pub returns-in-Ok : goal.returns-in-Ok
returns-in-Ok c = λ g n s. let e = c.in-Ok.ensures.due in c.judge_form.ensures g n s e.0 e.1 e.2

pub returns-in-Err : goal.returns-in-Err
returns-in-Err c = λ g n s.
    early_judged (settings_of g) n AskedTree (response_in (Some c.args.m.now)) (refusal_of c.in-Err.why)
    c.in-Err.ensures.due
