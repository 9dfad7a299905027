use Rattle.std.proofs.Common.{ℕ, List, ap, ◌∙◌}
use Rattle.spec_crypto.specs.sessions.Signing.{signed}
use Rattle.client_ends.proofs.line_calls.outgoing.sign_request.Goals as goal

pub returns : goal.returns
returns c = c.sign_in_place.ensures ∙ ap (λ (m : List ℕ). signed c.args.signer.now m) c.put_header.ensures
