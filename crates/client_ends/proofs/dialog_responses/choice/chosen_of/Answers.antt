use Rattle.std.proofs.Common.{ℕ, not, Bool, List, ap, ◌∙◌}
use Rattle.spec_world.specs.Dialog.{first_or}
use Rattle.client_ends.proofs.dialog_responses.choice.chosen_of.Goals as goal

pub returns : goal.returns
returns c =
    let cipher = c.first_or.ensures ∙ ap (λ (ids : List ℕ). first_or 0 ids) c.as_slice.ensures in
    let signing = c.first_or-2.ensures ∙ ap (λ (ids : List ℕ). first_or 1 ids) c.as_slice-2.ensures in
    let told = ap (λ (b : Bool). not b) c.is_empty.ensures in
    λ t. record { cipher = cipher t; signing = signing t; signing_told = told t }
