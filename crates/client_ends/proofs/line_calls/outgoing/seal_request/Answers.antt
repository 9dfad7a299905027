use Rattle.std.proofs.Common.{ℕ, true, List, ap, ◌∙◌}
use Rattle.spec_crypto.specs.sessions.Sealing.{sealed}
use Rattle.spec_wire.specs.messages.Header.{header_spelling}
use Rattle.client_ends.proofs.line_calls.Texts.{behind_front}
use Rattle.client_ends.proofs.line_calls.outgoing.seal_request.Goals as goal

pub returns : goal.returns
returns c =
    c.seal_in_place.ensures
    ∙ ap (λ (m : List ℕ). sealed c.args.keys.now true c.args.nonce.now m)
    (behind_front c.args.frame.now c.put_header.new.out (header_spelling c.args.header.now) c.requires.whole c.put_header.ensures)
