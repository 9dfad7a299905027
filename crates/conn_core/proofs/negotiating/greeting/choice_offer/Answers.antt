use Rattle.std.proofs.Common.{◌∙◌, Bool, not, ap, true}
use Rattle.spec_world.specs.Negotiate.{told_if}
use Rattle.conn_core.proofs.negotiating.greeting.choice_offer.Goals as goal

pub returns-clause-offer : goal.returns-clause-offer
returns-clause-offer c =
    let ciphers = c.in_ok-told_if.ensures.ids
    ∙ ap (λ (b : Bool). told_if (not b) c.args.chosen.now.cipher) c.is_empty.ensures in
    let signings = c.in_ok-told_if-2.ensures.ids in
    λ t. record { sha512 = true; preauth = true; ciphers = ciphers t; signings = signings t }

pub returns-clause-few : goal.returns-clause-few
returns-clause-few c = (c.in_ok-told_if.ensures.few, c.in_ok-told_if-2.ensures.few)
