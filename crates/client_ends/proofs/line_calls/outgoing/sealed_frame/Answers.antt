use Rattle.std.proofs.Common.{ℕ, true, List, ◌++◌, drop, sym, ap, ◌∙◌}
use Rattle.spec_crypto.specs.sessions.Sealing.{sealed}
use Rattle.spec_wire.specs.messages.Header.{header_spelling}
use Rattle.client_ends.proofs.line_calls.Texts.{written}
use Rattle.client_ends.proofs.line_calls.outgoing.sealed_frame.Goals as goal

pub returns : goal.returns
returns c =
    let h = header_spelling c.args.header.now in
    c.from_vec.ensures
    ∙ (written c.seal_request.new.frame _ _ (sym (c.seal_request.auto.frame ∙ c.as_mut_slice.ensures.len))
    ∙ (c.seal_request.ensures
    ∙ ap (λ (m : List ℕ). sealed c.args.keys.now true c.args.nonce.now (h ++ drop 116 m)) c.as_mut_slice.ensures.value))
