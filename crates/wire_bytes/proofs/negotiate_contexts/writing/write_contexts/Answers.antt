use Rattle.std.proofs.Common.{◌∙◌, ap, List, ℕ, [], ◌∷◌}
use Rattle.std.specs.Prelude.{if◌then◌else◌}
use Rattle.spec_wire.specs.messages.Contexts.{with_contexts}
use Rattle.spec_wire.specs.messages.Offer.{preauth_context}
use Rattle.wire_bytes.specs.negotiate_contexts.Views.{offer}
use Rattle.wire_bytes.proofs.negotiate_contexts.Spelling.{written}
use Rattle.wire_bytes.proofs.negotiate_contexts.writing.write_contexts.Goals as goal

pub returns : goal.returns
returns c =
    let v = offer c.args.v.now in
    let salt = c.args.salt.now in
    c.finish.ensures ∙ written v salt c.put_preauth.new.out c.put_ids.new.out c.put_ids-2.new.out c.as_slice.result.now
    c.as_slice-2.result.now
    (c.in_ok-put_preauth.ensures
    ∙ ap (λ (o : List ℕ). with_contexts o (if v.preauth then preauth_context v salt ∷ [] else []))
    c.new-out.ensures)
    c.in_ok-put_ids.ensures c.as_slice.ensures c.in_ok-put_ids-2.ensures c.as_slice-2.ensures
