use Rattle.std.proofs.Common.{◌∙◌, ap, take}
use Rattle.spec_crypto.specs.sessions.Derivation.{signing_key, signing_label}
use Rattle.crypto_sessions.proofs.session_keys.Halves.{half_is}
use Rattle.crypto_sessions.proofs.session_keys.derivation.signing_key_of.Goals as goal

pub returns : goal.returns
unfolding signing_key
returns c = c.copy_from_slice.ensures.after ∙ (ap (take 16) c.kdf-derived.ensures ∙ half_is c.args.base.now signing_label c.args.chain.now)
