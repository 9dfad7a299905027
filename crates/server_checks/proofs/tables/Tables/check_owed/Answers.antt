use Rattle.server_checks.proofs.Passed.{no_value}
use Rattle.server_checks.proofs.tables.Tables.check_owed.Goals as goal

pub returns-in-None-clause-faulty : goal.returns-in-None-clause-faulty
returns-in-None-clause-faulty c = λ h. absurd (no_value c.args.m.now.fault c.in-None.is h)
