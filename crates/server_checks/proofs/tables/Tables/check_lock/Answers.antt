use Rattle.std.proofs.Common.{ap}
use Rattle.spec_exchange.specs.CheckOpen.{slot_check}
use Rattle.server_checks.proofs.Passed.{passed}
use Rattle.server_checks.specs.verdicts.Views.{verdict_of}
use Rattle.server_checks.proofs.tables.Tables.check_lock.Goals as goal

pub returns-in-None : goal.returns-in-None
returns-in-None c = λ k s f t st fl e. passed c.check_new_lock.result (verdict_of k) _ _
    (ap (slot_check s c.args.id c.args.index c.args.number c.args.elements.now) (c.in-None.ensures s t st))
    (c.check_new_lock.ensures k s f t st fl e)
