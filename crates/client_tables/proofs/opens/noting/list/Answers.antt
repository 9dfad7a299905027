use Rattle.std.proofs.Common.{refl}
use Rattle.client_tables.proofs.opens.Longer.{goes_back}
use Rattle.client_tables.proofs.opens.noting.list.Goals as goal

pub returns-in_err-begin-clause-goes : goal.returns-in_err-begin-clause-goes
returns-in_err-begin-clause-goes c = goes_back c.args.holders.now.items c.args.holders.now.items refl
