use Rattle.std.proofs.Common.{false, [], ◌++◌, sym, subst, arith}
use Rattle.spec_wire.specs.messages.Header.{header_spelling}
use Rattle.spec_wire.specs.messages.Negotiate.{SpellsNegotiateRequest, negotiate_request_fault, negotiate_request_in}
use Rattle.spec_wire.specs.messages.Negotiate.{negotiate_request_spelling}
use Rattle.law_commands.proofs.commands.ReadBack.{found}
use Rattle.spec_world.specs.Sending.{request_header, greeting_text}
use Rattle.law_ties.proofs.wire_facts.Setups.{request_fits}
use Rattle.law_ties.proofs.wire_facts.Greeting.{offer_fits, asked_value, asked_fits, greeting_parts, IsRead, read_of}
use Rattle.law_ties.proofs.wire_facts.Greeting.{status_is, negotiated_is, client_is}
use Rattle.law_ties.proofs.wire_facts.greeting_law.Goals as goal

pub returns : goal.returns
returns c = record {
  heard = λ z fitting. record {
    greeting = λ salt m salted sent. (
        let s = z.client in
        let h = request_header m 1 0 false in
        let v = asked_value s salt in
        let fit = offer_fits s salt fitting.client salted in
        let long = c.header_law.ensures.length h (request_fits m 0 false sent (omega arith)) in
        let law = c.negotiate_request_law.ensures in
        let all = header_spelling h ++ (negotiate_request_spelling v ++ []) in
        let is = found SpellsNegotiateRequest negotiate_request_fault negotiate_request_in law.one law.whole law.given all v
        (law.again (header_spelling h) [] v long (asked_fits s salt fitting.client fit)) in
        let x : IsRead (greeting_text s salt m) s salt =
        subst (λ y. IsRead y s salt) (sym (greeting_parts s salt m)) (read_of all s salt is fit) in (
          status_is (greeting_text s salt m) s salt x,
          negotiated_is (greeting_text s salt m) s salt x,
          client_is (greeting_text s salt m) s salt x,
        ));
  };
}
