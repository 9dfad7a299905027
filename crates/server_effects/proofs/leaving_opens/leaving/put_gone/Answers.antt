use Rattle.std.proofs.Common.{nat_eq, ◌==◌}
use Rattle.std.specs.HashSet.{contains}
use Rattle.server_effects.proofs.leaving_opens.Files.{none_put, gone_put}
use Rattle.server_effects.proofs.leaving_opens.leaving.put_gone.Goals as goal

pub returns-then-not-goes : goal.returns-then-not-goes
returns-then-not-goes c = λ q. none_put c.args.goes (q == c.args.file) (contains nat_eq c.args.gone.now q) c.if-not-goes.true

pub returns-in-Ok : goal.returns-in-Ok
returns-in-Ok c = λ q. gone_put c.args.file q c.args.goes _ _ c.if-not-goes.false (c.in-Ok.ensures.updates.0 q)
