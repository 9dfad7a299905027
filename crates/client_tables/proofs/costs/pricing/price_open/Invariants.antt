use Rattle.client_tables.proofs.costs.Repricing.{Reprices}
use Rattle.client_tables.proofs.costs.pricing.price_open.Given as goal

abbrev pub invariant-loop-at : goal.invariant-loop-at
invariant-loop-at l = Reprices l.fn.rows l.fn.prices l.watchers l.attached l.last l.rows l.prices l.at

abbrev pub decreases-loop-at : goal.decreases-loop-at
decreases-loop-at l = l.at
