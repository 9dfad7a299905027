use Rattle.client_tables.proofs.opens.Settled.{settled_open}
use Rattle.client_tables.proofs.opens.law.opens_law.Goals as goal

pub returns : goal.returns
returns c = settled_open
