use Rattle.std.proofs.Common.{refl}
use Rattle.server_core.proofs.durable_state.Locking.{denied_by}
use Rattle.server_core.proofs.durable_state.locks.refused.Goals as goal

pub returns-in-NotGranted : goal.returns-in-NotGranted
returns-in-NotGranted c = (refl, λ a d. denied_by c.args.error.now a (λ m. let k = c.in-NotGranted.is in cc) d)

pub returns-in-NotLocked : goal.returns-in-NotLocked
returns-in-NotLocked c = (refl, λ a d. denied_by c.args.error.now a (λ m. let k = c.in-NotLocked.is in cc) d)

pub returns-in-Conflict : goal.returns-in-Conflict
returns-in-Conflict c = (refl, λ a d. denied_by c.args.error.now a (λ m. let k = c.in-Conflict.is in cc) d)

pub returns-in-BadRange : goal.returns-in-BadRange
returns-in-BadRange c = (refl, λ a d. denied_by c.args.error.now a (λ m. let k = c.in-BadRange.is in cc) d)

pub returns-in-TooMany : goal.returns-in-TooMany
returns-in-TooMany c = (refl, λ a d. denied_by c.args.error.now a (λ m. let k = c.in-TooMany.is in cc) d)
