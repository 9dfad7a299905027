use Rattle.std.proofs.Common.{ℕ, List, sym, ap, ◌∙◌}
use Rattle.spec_crypto.specs.sessions.Signing.{signed}
use Rattle.client_ends.proofs.dialog_requests.Headers.{written}
use Rattle.client_ends.proofs.dialog_requests.setup.signed_text.Goals as goal

pub returns : goal.returns
returns c =
    c.from_vec.ensures
    ∙ (written c.sign_in_place.new.message _ _ (sym (c.sign_in_place.auto.message ∙ c.as_mut_slice.ensures.len))
    ∙ (c.sign_in_place.ensures ∙ ap (λ (m : List ℕ). signed c.args.signer.now m) c.as_mut_slice.ensures.value))
