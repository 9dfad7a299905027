use Rattle.law_wire.proofs.credits.ExchangeLaws.{nothing_is_refused}
use Rattle.law_wire.proofs.credits.laws.nothing_is_refused_law.Goals as goal

pub returns : goal.returns
returns c = nothing_is_refused
