use Rattle.std.proofs.Common.{arith}
use Rattle.server_plan.proofs.Planned.{none_fits, not_fit, some_fit}
use Rattle.server_plan.proofs.plan.fits.Goals as goal

pub returns-then-length-eq0 : goal.returns-then-length-eq0
returns-then-length-eq0 c = none_fits c.args.t.now.journal c.args.length (omega arith)

pub returns-then-t-gt-ROOM : goal.returns-then-t-gt-ROOM
returns-then-t-gt-ROOM c = not_fit c.args.t.now.journal c.args.length (omega arith) (omega arith)

pub returns-then-wanted-left : goal.returns-then-wanted-left
returns-then-wanted-left c = not_fit c.args.t.now.journal c.args.length (omega arith) (omega arith)

pub returns : goal.returns
returns c = some_fit c.args.t.now.journal c.args.length (omega arith)
