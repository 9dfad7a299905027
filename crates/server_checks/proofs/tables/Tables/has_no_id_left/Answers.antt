use Rattle.std.proofs.Common.{nat_le}
use Rattle.spec_exchange.specs.Effects.{next_open}
use Rattle.spec_exchange.specs.Opens.{max_ids}
use Rattle.server_checks.proofs.Creates.{left_ids, no_ids}
use Rattle.server_checks.proofs.tables.Tables.has_no_id_left.Goals as goal

pub returns-in-Some : goal.returns-in-Some
returns-in-Some c = λ s t. left_ids (nat_le max_ids s.open_ids_given) (next_open s) _ (c.in-Some.ensures.shown s t.opens)

pub returns-in-None : goal.returns-in-None
returns-in-None c = λ s t. no_ids (nat_le max_ids s.open_ids_given) (next_open s) (c.in-None.ensures.shown s t.opens)
