use Rattle.std.proofs.Common.{Result, Some, subst}
use Rattle.std.specs.Prelude.{is_some}
use Rattle.spec_exchange.specs.Client.{SaidFirst}
use Rattle.wire_bytes.specs.declared.session_messages.refusal.Refusal.{Refusal}
use Rattle.spec_world.specs.Dialog.{response_in}
use Rattle.client_ends.specs.declared.response_faults.setup.Begun.{Begun}
use Rattle.client_ends.specs.response_faults.Judging.{JudgesInterim}
use Rattle.client_ends.proofs.dialog_calls.Behind.{refused_turn}
use Rattle.client_ends.proofs.dialog_calls.hearing.hear_interim.Goals as goal

pub returns-in-Ok : goal.returns-in-Ok
returns-in-Ok c = λ n number s.
    let d = c.args.d.now in
    let told = c.in_ok-told.ensures n s in
    c.take_challenge.ensures n number s
    (subst (λ (r : Result Begun Refusal). JudgesInterim d.config n (is_some d.bound) c.args.m.now r) c.in-Ok.is told)

pub returns-in-Err : goal.returns-in-Err
returns-in-Err c = λ n number s.
    let d = c.args.d.now in
    let told = c.in_ok-told.ensures n s in
    refused_turn (SaidFirst (is_some d.bound)) d c.refuse.new.d n (response_in (Some c.args.m.now)) number c.in-Err.why c.refuse.result
    (subst (λ (r : Result Begun Refusal). JudgesInterim d.config n (is_some d.bound) c.args.m.now r) c.in-Err.is told) c.refuse.ensures
