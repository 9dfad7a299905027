use Rattle.std.proofs.Common.{◌++◌}
use Rattle.spec_crypto.specs.tokens.Der.{spelled}
use Rattle.spec_crypto.specs.tokens.Spnego.{octets_spelling}
use Rattle.crypto_sessions.proofs.spnego.Lengths.{short_inside, short_front}
use Rattle.crypto_sessions.proofs.spnego.writing.init_fields_of.Goals as goal

pub element-requires : goal.element-requires
element-requires c =
    let v = c.args.token.now in
    rw (c.as_slice.ensures) (short_inside 0xa0 v.mech_list (short_front (spelled 0xa0 v.mech_list) (octets_spelling 0xa2
    v.token ++ octets_spelling 0xa3 v.mic) c.requires))
