use Rattle.std.proofs.Common.{ap, sym, ◌∙◌}
use Rattle.spec_exchange.specs.CheckOpen.{range_check}
use Rattle.server_checks.proofs.Locks.{denied}
use Rattle.server_checks.specs.verdicts.Views.{elements_in}
use Rattle.server_checks.proofs.check_open.denied.Goals as goal

pub returns-in-Some : goal.returns-in-Some
returns-in-Some c = λ k a d. c.turn_down_lock.ensures k
    ∙ ap (range_check c.args.id c.args.index c.args.number (elements_in k))
    (sym (denied c.args.error.now a c.in-Some.status d c.in-Some.ensures))
