use Rattle.std.proofs.Common.{Result, Some, subst}
use Rattle.std.specs.Prelude.{is_some}
use Rattle.spec_exchange.specs.Client.{SaidNegotiate}
use Rattle.wire_bytes.specs.declared.session_messages.refusal.Refusal.{Refusal}
use Rattle.spec_world.specs.Dialog.{response_in}
use Rattle.client_ends.specs.declared.response_faults.greeting.Greeted.{Greeted}
use Rattle.client_ends.specs.response_faults.Judging.{JudgesGreeting}
use Rattle.client_ends.proofs.dialog_calls.Behind.{refused_turn}
use Rattle.client_ends.proofs.dialog_calls.hearing.hear_greeting.Goals as goal

pub returns-in-Ok : goal.returns-in-Ok
returns-in-Ok c = λ n number s.
    let d = c.args.d.now in
    let told = c.in_ok-told.ensures n (is_some d.bound) s in
    c.take_greeting.ensures n number s
    (subst (λ (r : Result Greeted Refusal). JudgesGreeting d.config n (is_some d.bound) c.args.m.now r) c.in-Ok.is told)

pub returns-in-Err : goal.returns-in-Err
returns-in-Err c = λ n number s.
    let d = c.args.d.now in
    let told = c.in_ok-told.ensures n (is_some d.bound) s in
    refused_turn (SaidNegotiate (is_some d.bound)) d c.refuse.new.d n (response_in (Some c.args.m.now)) number c.in-Err.why c.refuse.result
    (subst (λ (r : Result Greeted Refusal). JudgesGreeting d.config n (is_some d.bound) c.args.m.now r) c.in-Err.is told) c.refuse.ensures
