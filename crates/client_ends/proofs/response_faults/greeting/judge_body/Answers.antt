use Rattle.std.proofs.Common.{Result, subst}
use Rattle.spec_crypto.specs.declared.sessions.choice.Chosen.{Chosen}
use Rattle.wire_bytes.specs.declared.session_messages.refusal.Refusal.{Refusal}
use Rattle.client_ends.specs.ends.Shown.{settings_of}
use Rattle.client_ends.specs.dialog_responses.Greeting.{Greets}
use Rattle.client_ends.proofs.response_faults.Greetings.{found, refused}
use Rattle.client_ends.proofs.response_faults.greeting.judge_body.Goals as goal

pub returns-in-Ok : goal.returns-in-Ok
returns-in-Ok c = λ n bound s has is status fits.
    let told =
    subst (λ (r : Result Chosen Refusal). Greets (settings_of c.args.d.now.config) c.args.m.now r) c.in-Ok.is c.in_ok-told.ensures in
    found (settings_of c.args.d.now.config) n bound c.args.header c.args.m.now c.in-Ok.chosen has is status fits told

pub returns-in-Err : goal.returns-in-Err
returns-in-Err c = λ n bound s has is status fits.
    let told =
    subst (λ (r : Result Chosen Refusal). Greets (settings_of c.args.d.now.config) c.args.m.now r) c.in-Err.is c.in_ok-told.ensures in
    refused (settings_of c.args.d.now.config) n bound c.args.header c.args.m.now c.in-Err.why has is status fits told
