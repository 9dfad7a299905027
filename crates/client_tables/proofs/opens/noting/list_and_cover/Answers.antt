use Rattle.std.proofs.Common.{refl}
use Rattle.client_rows.proofs.operation_rows.Growing.{on_err}
use Rattle.client_tables.proofs.opens.noting.list_and_cover.Goals as goal

-- where the list can't be made, the open is as it was
pub returns-in_err-stretch-clause-stays : goal.returns-in_err-stretch-clause-stays
returns-in_err-stretch-clause-stays c = on_err c.from_residual.result (λ x. refl, λ x. refl)

pub returns-in_err-cover-clause-stays : goal.returns-in_err-cover-clause-stays
returns-in_err-cover-clause-stays c = on_err c.from_residual-in_err-cover.result c.in_err-cover.ensures.err
