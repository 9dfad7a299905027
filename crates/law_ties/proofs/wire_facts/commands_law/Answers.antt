use Rattle.std.proofs.Common.{◌≡◌, [], ◌++◌, sym, ap, ◌∙◌, subst}
use Rattle.spec_wire.specs.messages.Header.{header_spelling}
use Rattle.spec_exchange.specs.Operations.{request_of, reconnect_of}
use Rattle.spec_commands.specs.CommandOf.{command_of}
use Rattle.spec_commands.specs.BodyOf.{body_of}
use Rattle.spec_commands.specs.ReplyBody.{reply_body}
use Rattle.spec_commands.specs.ReplyOf.{reply_of}
use Rattle.law_commands.specs.commands.Fitting.{IsHeardAlike}
use Rattle.law_ties.specs.wire_facts.Lawful.{header_as}
use Rattle.law_ties.proofs.wire_facts.Signed.{spelled, with_signature, parts}
use Rattle.law_ties.proofs.wire_facts.Commands.{same_body, nothing_heard}
use Rattle.law_ties.proofs.wire_facts.commands_law.Goals as goal

pub returns : goal.returns
returns c = record {
  lawful = record {
    own = λ t h m op guid file slot number fit is command limits g f s n pays. (
        let x = spelled h (body_of (request_of op guid file slot number)) m fit is in
        let header = header_spelling (with_signature h x.code) in
        ap (command_of t (header_as h m)) (parts h (body_of (request_of op guid file slot number)) m x)
        ∙ c.request_law.ensures.own t (header_as h m) header [] op guid file slot number
        (c.header_law.ensures.length (with_signature h x.code) x.fits) limits g f s n pays command);
    attach = λ t h m op guid file fit is command limits create g f. (
        let x = spelled h (body_of (reconnect_of op guid file)) m fit is in
        let header = header_spelling (with_signature h x.code) in
        ap (command_of t (header_as h m)) (parts h (body_of (reconnect_of op guid file)) m x)
        ∙ c.request_law.ensures.attach t (header_as h m) header [] op guid file
        (c.header_law.ensures.length (with_signature h x.code) x.fits) limits create g f command);
    reply = λ h m token op guid file slot number r fit is status ok answer. (
        let body = reply_body token (request_of op guid file slot number) r in
        let x = spelled h body m fit is in
        let header = header_spelling (with_signature h x.code) in
        let same : m ≡ header ++ (reply_body token (request_of op 0 0 0 0) r ++ []) =
        parts h body m x ∙ ap (λ b. header ++ (b ++ [])) (same_body op r guid file slot number token answer) in
        subst (λ y. IsHeardAlike op (reply_of (request_of op 0 0 0 0) (header_as h m) y).body r.body) (sym same)
        (c.reply_law.ensures (header_as h m) header [] token op 0 0 0 0 r
        (c.header_law.ensures.length (with_signature h x.code) x.fits) ok status answer));
    refused = λ k h m off. nothing_heard k (header_as h m) m off;
  };
}
