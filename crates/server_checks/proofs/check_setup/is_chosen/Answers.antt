use Rattle.std.proofs.Common.{refl, ◌∙◌}
use Rattle.server_checks.proofs.check_setup.is_chosen.Goals as goal

pub returns : goal.returns
returns c = λ s h. c.has_ciphers.ensures ∙ rw (h.1.cipher_is, h.1.signing_is) refl
