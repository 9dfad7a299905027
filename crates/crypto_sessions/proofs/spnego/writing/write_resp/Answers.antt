use Rattle.std.proofs.Common.{◌≡◌, refl, subst, IfOk}
use Rattle.spec_crypto.specs.tokens.Der.{spelled}
use Rattle.spec_crypto.specs.tokens.Spnego.{resp_spelling, resp_fields_spelling}
use Rattle.crypto_sessions.specs.spnego.Views.{resp_view}
use Rattle.crypto_sessions.proofs.spnego.Lengths.{resp_parts}
use Rattle.crypto_sessions.proofs.spnego.writing.write_resp.Goals as goal

pub resp_fields_of-requires : goal.resp_fields_of-requires
resp_fields_of-requires c = (resp_parts (resp_view c.args.token.now) c.requires.short).0

pub element-requires : goal.element-requires
element-requires c = rw (c.as_slice.ensures, c.in_ok-fields.ensures) (resp_parts (resp_view c.args.token.now) c.requires.short).0

pub element-requires-2 : goal.element-requires-2
element-requires-2 c =
    rw (c.as_slice-2.ensures, c.in_ok-sequence.ensures, c.as_slice.ensures, c.in_ok-fields.ensures) (resp_parts
    (resp_view c.args.token.now) c.requires.short).1

pub returns : goal.returns
unfolding resp_spelling
returns c =
    let e : c.as_slice-2.result.now ≡ spelled 0x30 (resp_fields_spelling (resp_view c.args.token.now)) =
    rw (c.as_slice-2.ensures, c.in_ok-sequence.ensures, c.as_slice.ensures, c.in_ok-fields.ensures) refl in
    subst (λ m. IfOk c.element-2.result (λ b. b ≡ spelled 0xa1 m)) e c.element-2.ensures
