use Rattle.std.proofs.Common.{Result, Some, subst}
use Rattle.std.specs.Prelude.{is_some}
use Rattle.spec_exchange.specs.Client.{SaidSecond}
use Rattle.wire_bytes.specs.declared.session_messages.refusal.Refusal.{Refusal}
use Rattle.spec_world.specs.Dialog.{response_in}
use Rattle.client_ends.specs.declared.response_faults.setup.Ended.{Ended}
use Rattle.client_ends.specs.response_faults.Judging.{JudgesFinal}
use Rattle.client_ends.proofs.dialog_calls.Behind.{refused_turn}
use Rattle.client_ends.proofs.dialog_calls.hearing.hear_final.Goals as goal

pub returns-in-Ok : goal.returns-in-Ok
returns-in-Ok c = λ n s.
    let d = c.args.d.now in
    c.take_end.ensures n s
    (subst (λ (r : Result Ended Refusal). JudgesFinal d.config n (is_some d.bound) d.session c.args.m.now r) c.in-Ok.is
    (c.in_ok-told.ensures n s))

pub returns-in-Err : goal.returns-in-Err
returns-in-Err c = λ n s.
    let d = c.args.d.now in
    refused_turn (SaidSecond (is_some d.bound)) d c.refuse.new.d n (response_in (Some c.args.m.now)) c.args.channel c.in-Err.why
    c.refuse.result
    (subst (λ (r : Result Ended Refusal). JudgesFinal d.config n (is_some d.bound) d.session c.args.m.now r) c.in-Err.is
    (c.in_ok-told.ensures n s)) c.refuse.ensures
