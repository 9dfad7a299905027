use Rattle.law_client.proofs.table.Events.{keeps, begins}
use Rattle.law_client.proofs.table.kept_law.Goals as goal

pub returns : goal.returns
returns c = record { first = begins; next = keeps }
