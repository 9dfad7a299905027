use Rattle.std.proofs.Common.{◌≡◌, ◌++◌, refl, subst, IfOk}
use Rattle.spec_crypto.specs.tokens.Der.{spelled}
use Rattle.spec_crypto.specs.tokens.Spnego.{spnego, init_spelling, init_fields_spelling}
use Rattle.crypto_sessions.specs.spnego.Views.{init_view}
use Rattle.crypto_sessions.proofs.spnego.Lengths.{init_parts}
use Rattle.crypto_sessions.proofs.spnego.writing.write_init.Goals as goal

pub init_fields_of-requires : goal.init_fields_of-requires
init_fields_of-requires c = (init_parts (init_view c.args.token.now) c.requires.short).0

pub element-requires : goal.element-requires
element-requires c = rw (c.as_slice.ensures, c.in_ok-fields.ensures) (init_parts (init_view c.args.token.now) c.requires.short).0

pub put_element-requires : goal.put_element-requires
put_element-requires c =
    rw (c.as_slice-2.ensures, c.in_ok-sequence.ensures, c.as_slice.ensures, c.in_ok-fields.ensures) (init_parts
    (init_view c.args.token.now) c.requires.short).1

pub element-requires-3 : goal.element-requires-3
element-requires-3 c =
    rw (
      c.as_slice-3.ensures,
      c.in_ok-put_element.ensures,
      c.in_ok-contents.ensures,
      c.as_slice-2.ensures,
      c.in_ok-sequence.ensures,
      c.as_slice.ensures,
      c.in_ok-fields.ensures,
    ) (init_parts (init_view c.args.token.now)
    c.requires.short).2

pub returns : goal.returns
unfolding init_spelling
returns c =
    let fields = init_fields_spelling (init_view c.args.token.now) in
    let e : c.as_slice-3.result.now ≡ spelled 6 spnego ++ spelled 0xa0 (spelled 0x30 fields) =
    rw (
      c.as_slice-3.ensures,
      c.in_ok-put_element.ensures,
      c.in_ok-contents.ensures,
      c.as_slice-2.ensures,
      c.in_ok-sequence.ensures,
      c.as_slice.ensures,
      c.in_ok-fields.ensures,
    ) refl in
    subst (λ m. IfOk c.element-3.result (λ b. b ≡ spelled 0x60 m)) e c.element-3.ensures
