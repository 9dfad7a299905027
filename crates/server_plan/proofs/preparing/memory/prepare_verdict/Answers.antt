use Rattle.std.proofs.Common.{Option, ap, subst, sym}
use Rattle.wire_commands.specs.values.Meaning.{command_of, message_of}
use Rattle.spec_exchange.specs.Step as steps
use Rattle.server_checks.specs.event_heard.Heard.{PartAgrees}
use Rattle.server_checks.specs.declared.event_heard.asked.LogonPart.{LogonPart}
use Rattle.server_plan.proofs.preparing.Kept.{tables_stay}
use Rattle.server_plan.proofs.preparing.There.{there_by}
use Rattle.server_plan.proofs.preparing.Unsaid.{unsaid}
use Rattle.server_plan.proofs.preparing.memory.prepare_verdict.Goals as goal
use Rattle.server_plan.specs.reserving.Logons.{ReadyStep}

pub returns-in-Ok-clause-shown : goal.returns-in-Ok-clause-shown
returns-in-Ok-clause-shown c = rw c.in-Says.is (λ s f h a b w.
    let m = c.in-Says.message in
    let p = subst (λ (l : Option LogonPart). PartAgrees (command_of m.command) l) (sym c.as_ref.ensures.value) a in
    let x = c.in-Ok.ensures.shown p s f h b (there_by s (message_of m) _ w) in
    (x.is_ready, ap (steps.Says (message_of m)) x.verdict_is))

pub returns-in-Ok-clause-room : goal.returns-in-Ok-clause-room
returns-in-Ok-clause-room c = rw c.in-Says.is c.in-Ok.ensures.room

pub returns-in-Ok-clause-step : goal.returns-in-Ok-clause-step
returns-in-Ok-clause-step c = rw c.in-Says.is (λ L k.
    subst (λ (l : Option LogonPart). ReadyStep L.keys L.pending c.in-Says.message.connection l c.args.now c.in-Ok.done)
    c.as_ref.ensures.value (c.in-Ok.ensures.step L.keys L.pending k))

pub returns-in-Err-clause-shown : goal.returns-in-Err-clause-shown
returns-in-Err-clause-shown c = rw c.in-Says.is (λ s f h a b w.
    let m = c.in-Says.message in
    let p = subst (λ (l : Option LogonPart). PartAgrees (command_of m.command) l) (sym c.as_ref.ensures.value) a in
    c.in-Err.ensures.shown p s f h b (there_by s (message_of m) _ w))

pub returns-in-Err-clause-sure : goal.returns-in-Err-clause-sure
returns-in-Err-clause-sure c = rw c.in-Says.is c.in-Err.ensures.sure

pub returns-in_default-clause-shown : goal.returns-in_default-clause-shown
returns-in_default-clause-shown c = λ s f h a b w. (h, unsaid c.args.asked.now c.args.verdict c.in_default.not-Says)

pub returns-in_default-clause-kept : goal.returns-in_default-clause-kept
returns-in_default-clause-kept c = tables_stay c.args.t.now
