use Rattle.spec_exchange.specs.Schedules.{cost}
use Rattle.client_tables.proofs.costs.Repricing.{attached_shown}
use Rattle.client_tables.proofs.costs.pricing.attach.Goals as goal

pub returns-clause-shown : goal.returns-clause-shown
returns-clause-shown c = λ d holders s top live.
    attached_shown c.args.rows.now c.price_open.new.rows c.args.last holders c.args.prices.now c.price_open.new.prices
    c.args.watchers.now d live s
    (c.price_open.ensures.shown d holders (λ g. cost d g) (record { places = s.places; sends = s.sends; stand = s.stand }) top)
