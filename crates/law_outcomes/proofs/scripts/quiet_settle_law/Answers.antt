use Rattle.law_outcomes.proofs.scripts.Scripts.{cuts_settled, drops_let_go, loses_nothing_quiet}
use Rattle.law_outcomes.proofs.scripts.quiet_settle_law.Goals as goal

pub returns : goal.returns
returns c = record { cuts = cuts_settled; drops = drops_let_go; loses = loses_nothing_quiet }
