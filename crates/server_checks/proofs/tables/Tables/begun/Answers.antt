use Rattle.std.proofs.Common.{refl}
use Rattle.server_checks.proofs.tables.Tables.begun.Goals as goal

pub returns : goal.returns
returns c = λ s t e. rw (e, c.previous_of.ensures s t) refl
