use Rattle.std.proofs.Common.{[], ap, sym, ◌∙◌}
use Rattle.std.proofs.lemmas.List.{append-nil}
use Rattle.spec_wire.specs.messages.Contexts.{contexts_end}
use Rattle.spec_wire.specs.messages.Offer.{offer_spelling, offer_count}
use Rattle.law_wire.proofs.messages.WrittenOffers.{contexts_again, offer_whole, offer_again}
use Rattle.law_wire.proofs.messages.offer.offer_law.Goals as goal

pub returns-clause-list : goal.returns-clause-list
returns-clause-list c = λ v salt w. ap (λ l. contexts_end l 0 (offer_count v))
    (sym (append-nil (offer_spelling v salt))) ∙ (contexts_again v salt [] w).1

pub returns-clause-whole : goal.returns-clause-whole
returns-clause-whole c = offer_whole

pub returns-clause-again : goal.returns-clause-again
returns-clause-again c = offer_again
