use Rattle.std.proofs.Common.{◌≡◌, [], ◌++◌, ap, ◌∙◌, refl, arith, Some}
use Rattle.spec_wire.specs.messages.Header.{header_spelling}
use Rattle.spec_wire.specs.messages.SessionSetup.{SpellsSessionSetupRequest, session_setup_request_fault, session_setup_request_in}
use Rattle.spec_wire.specs.messages.SessionSetup.{session_setup_request_spelling, SpellsSessionSetupResponse, session_setup_response_fault}
use Rattle.spec_wire.specs.messages.SessionSetup.{session_setup_response_in, session_setup_response_spelling}
use Rattle.spec_commands.specs.CommandOf.{command_of}
use Rattle.spec_commands.specs.ReplyBody.{reply_body}
use Rattle.law_commands.proofs.commands.ReadBack.{found}
use Rattle.spec_world.specs.Logon.{token_in}
use Rattle.spec_world.specs.Sending.{request_header}
use Rattle.spec_world.specs.Dialog.{setup_token, setup_flags}
use Rattle.law_ties.specs.wire_facts.Lawful.{header_as}
use Rattle.law_ties.proofs.wire_facts.Signed.{spelled, with_signature, parts}
use Rattle.law_ties.proofs.wire_facts.Setups.{request_fits, setup_value, setup_fits, setup_message, setup_says}
use Rattle.law_ties.proofs.wire_facts.Setups.{told_value, told_fits, told_body}
use Rattle.law_ties.proofs.wire_facts.Setups.{none_is}
use Rattle.law_ties.proofs.wire_facts.setups_law.Goals as goal

pub returns : goal.returns
unfolding token_in setup_token setup_flags
returns c = record {
  lawful = record {
    setup = λ t bound previous token m r i p short e. (
        let h = request_header m 1 1 bound in
        let v = setup_value bound previous token in
        let x = spelled h (session_setup_request_spelling v) r (request_fits m 1 bound i (omega arith))
        (setup_message bound previous token m r e) in
        let header = header_spelling (with_signature h x.code) in
        let long = c.header_law.ensures.length (with_signature h x.code) x.fits in
        let whole = parts h (session_setup_request_spelling v) r x in
        let law = c.session_setup_request_law.ensures in
        let fit = setup_fits bound previous token p short in
        let all = header ++ (session_setup_request_spelling v ++ []) in
        let is = found SpellsSessionSetupRequest session_setup_request_fault session_setup_request_in law.one law.whole law.given all v
        (law.again header [] v long fit) in (
          ap (λ y. (session_setup_request_in y).security) whole ∙ ap (λ y. y.security) is.1,
          ap (command_of t (header_as h r)) whole ∙ (c.dialog_request_law.ensures.setup t (header_as h r) header [] v long fit refl
              ∙ ap Some (setup_says t bound previous token m r)),
        ));
    told = λ k h token r reply bound fit is i. (
        let v = told_value reply token in
        let body = reply_body token k reply in
        let x = spelled h body r fit is in
        let header = header_spelling (with_signature h x.code) in
        let long = c.header_law.ensures.length (with_signature h x.code) x.fits in
        let all = header ++ (session_setup_response_spelling v ++ []) in
        let whole : r ≡ all = parts h body r x ∙ ap (λ b. header ++ (b ++ [])) (told_body k reply token i) in
        let law = c.session_setup_response_law.ensures in
        let is = found SpellsSessionSetupResponse session_setup_response_fault session_setup_response_in law.one law.whole law.given all v
        (law.again header [] v long (told_fits reply token i.short)) in (
          none_is (session_setup_response_fault r) (ap session_setup_response_fault whole ∙ is.0),
          ap (λ y. (session_setup_response_in y).security) whole ∙ ap (λ y. y.security) is.1,
          ap (λ y. (session_setup_response_in y).session_flags) whole ∙ ap (λ y. y.session_flags) is.1,
        ));
  };
}
