use Rattle.std.proofs.Common.{◌≡◌, false, [], ◌++◌, sym, ap, ◌∙◌, subst, arith}
use Rattle.spec_wire.specs.messages.Header.{header_spelling}
use Rattle.spec_wire.specs.messages.Negotiate.{SpellsNegotiateRequest, negotiate_request_fault, negotiate_request_in}
use Rattle.spec_wire.specs.messages.Negotiate.{negotiate_request_spelling}
use Rattle.spec_wire.specs.messages.Negotiate.{SpellsNegotiateResponse, negotiate_response_fault, negotiate_response_in}
use Rattle.spec_wire.specs.messages.Negotiate.{negotiate_response_spelling}
use Rattle.law_commands.proofs.commands.ReadBack.{found}
use Rattle.spec_world.specs.Negotiate.{negotiate_response_body}
use Rattle.spec_world.specs.Sending.{request_header, greeting_text}
use Rattle.law_ties.proofs.wire_facts.Signed.{spelled, with_signature, parts}
use Rattle.law_ties.proofs.wire_facts.Setups.{request_fits}
use Rattle.law_ties.proofs.wire_facts.Greeting.{offer_fits, asked_value, asked_fits, greeting_parts, IsRead, read_of}
use Rattle.law_ties.proofs.wire_facts.Greeted.{told_offer, told_offer_fits, told_value, told_fits, told_is, IsTold}
use Rattle.law_ties.proofs.wire_facts.Greeted.{contexts_read, choice_is_fine}
use Rattle.law_ties.proofs.wire_facts.Greeted.{hint_is_fine, cipher_is, signing_is}
use Rattle.law_ties.proofs.wire_facts.answered_law.Goals as goal

pub returns : goal.returns
returns c = record {
  answered = λ z fitting. record {
    greeted = λ salt answer_salt m now h r salted answer_salted sent few fit is. (
        let s = z.client in
        let guid = z.server.guid in
        let long = c.header_law.ensures.length (request_header m 1 0 false) (request_fits m 0 false sent (omega arith)) in
        let law = c.negotiate_request_law.ensures in
        let asked = asked_value s salt in
        let all = header_spelling (request_header m 1 0 false) ++ (negotiate_request_spelling asked ++ []) in
        let back = found SpellsNegotiateRequest negotiate_request_fault negotiate_request_in law.one law.whole law.given all asked
        (law.again (header_spelling (request_header m 1 0 false)) [] asked long
        (asked_fits s salt fitting.client (offer_fits s salt fitting.client salted))) in
        let q = greeting_text s salt m in
        let read : IsRead q s salt = subst (λ y. IsRead y s salt) (sym (greeting_parts s salt m))
        (read_of all s salt back (offer_fits s salt fitting.client salted)) in
        let w = told_offer_fits s answer_salt fitting.client answer_salted in
        let v = told_value guid answer_salt now (told_offer s) in
        let body = negotiate_response_body guid answer_salt now q in
        let x = spelled h body r fit is in
        let header = header_spelling (with_signature h x.code) in
        let there = header ++ (negotiate_response_spelling v ++ []) in
        let same : r ≡ there = parts h body r x ∙ ap (λ b. header ++ (b ++ [])) (told_is q s salt guid answer_salt now read) in
        let answer = c.negotiate_response_law.ensures in
        let heard = found SpellsNegotiateResponse negotiate_response_fault negotiate_response_in
        answer.one answer.whole answer.given there v
        (answer.again header [] v (c.header_law.ensures.length (with_signature h x.code) x.fits)
        (told_fits s guid answer_salt now fitting.server_guid few w)) in
        let t : IsTold r s guid answer_salt now = record {
          whole = ap negotiate_response_fault same ∙ heard.0;
          value = ap negotiate_response_in same ∙ heard.1;
          offer_fits = w;
        } in (
          contexts_read r s guid answer_salt now t,
          choice_is_fine r s guid answer_salt now fitting.client t,
          hint_is_fine r s guid answer_salt now t,
          cipher_is r s guid answer_salt now t,
          signing_is r s guid answer_salt now t,
        ));
  };
}
