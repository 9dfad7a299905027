use Rattle.spec_wire.specs.messages.SessionSetup.{session_setup_response_fault, session_setup_response_in}
use Rattle.wire_bytes.specs.session_messages.Views.{session_setup_response}
use Rattle.client_ends.proofs.dialog_responses.Greetings.{no_fault, some_fault}
use Rattle.client_ends.proofs.dialog_responses.Setups.{token_is, flags_are}
use Rattle.client_ends.proofs.dialog_responses.setup.setup_told.Goals as goal

pub returns-in-Ok : goal.returns-in-Ok
returns-in-Ok c =
    let m = c.args.m.now in
    let e = c.in-Ok.ensures in
    let law = c.session_setup_response_law.ensures in
    let v = session_setup_response c.in-Ok.response in
    let is = law.one m v (session_setup_response_in m) e.1 (law.given m e.0) in
    (no_fault (session_setup_response_fault m) e.0, token_is m v is, flags_are m v is)

pub returns-in-Err : goal.returns-in-Err
returns-in-Err c = some_fault (session_setup_response_fault c.args.m.now) _ c.in-Err.ensures
