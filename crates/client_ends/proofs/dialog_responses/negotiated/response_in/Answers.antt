use Rattle.spec_wire.specs.messages.Negotiate.{negotiate_response_fault, negotiate_response_in}
use Rattle.wire_bytes.specs.session_messages.Views.{negotiate_response}
use Rattle.client_ends.proofs.dialog_responses.Greetings.{no_fault, some_fault}
use Rattle.client_ends.proofs.dialog_responses.negotiated.response_in.Goals as goal

pub returns-in-Ok : goal.returns-in-Ok
returns-in-Ok c =
    let m = c.args.m.now in
    let e = c.in-Ok.ensures in
    let law = c.negotiate_response_law.ensures in (
      no_fault (negotiate_response_fault m) e.0,
      law.one m (negotiate_response c.in-Ok.response) (negotiate_response_in m) e.1 (law.given m e.0),
    )

pub returns-in-Err : goal.returns-in-Err
returns-in-Err c = some_fault (negotiate_response_fault c.args.m.now) _ c.in-Err.ensures
