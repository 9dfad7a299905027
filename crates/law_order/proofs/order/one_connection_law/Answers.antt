use Rattle.law_order.proofs.order.Run.{one_connection}
use Rattle.law_order.proofs.order.one_connection_law.Goals as goal

pub returns : goal.returns
returns c = record { legal = one_connection }
