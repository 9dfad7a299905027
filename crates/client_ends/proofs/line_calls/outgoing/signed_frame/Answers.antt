use Rattle.std.proofs.Common.{ℕ, List, ◌++◌, drop, sym, ap, ◌∙◌}
use Rattle.spec_crypto.specs.sessions.Signing.{signed}
use Rattle.spec_wire.specs.messages.Header.{header_spelling}
use Rattle.client_ends.proofs.line_calls.Texts.{written}
use Rattle.client_ends.proofs.line_calls.outgoing.signed_frame.Goals as goal

pub returns : goal.returns
returns c =
    let h = header_spelling c.args.header.now in
    c.from_vec.ensures
    ∙ (written c.sign_request.new.frame _ _ (sym (c.sign_request.auto.frame ∙ c.as_mut_slice.ensures.len))
    ∙ (c.sign_request.ensures
    ∙ ap (λ (m : List ℕ). signed c.args.signer.now (h ++ drop 64 m)) c.as_mut_slice.ensures.value))
