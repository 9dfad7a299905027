use Rattle.std.proofs.Common.{ap, ◌∙◌}
use Rattle.spec_wire.specs.messages.Offer.{OfferValue, offer_count, offer_spelling}
use Rattle.client_ends.specs.ends.Shown.{settings_of}
use Rattle.client_ends.proofs.dialog_requests.Greetings.{body_is}
use Rattle.client_ends.proofs.dialog_requests.greeting.greeting_body.Goals as goal

pub returns : goal.returns
returns c =
    let salt = c.args.salt.now in
    c.in_ok-body.ensures
    ∙ body_is (settings_of c.args.config.now) salt c.as_slice.result.now c.context_count.result
    (c.as_slice.ensures ∙ (c.in_ok-contexts.ensures ∙ ap (λ (o : OfferValue). offer_spelling o salt) c.in_ok-offer.ensures.offer))
    (c.context_count.ensures ∙ ap (λ (o : OfferValue). offer_count o) c.in_ok-offer.ensures.offer)
