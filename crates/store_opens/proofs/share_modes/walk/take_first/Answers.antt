use Rattle.std.proofs.Common.{arith}
use Rattle.std.proofs.lemmas.Grind.{common_steps}
use Rattle.store_opens.proofs.share_modes.Taking.{taken}
use Rattle.store_opens.proofs.share_modes.walk.take_first.Goals as goal

pub returns-in-Some : goal.returns-in-Some
returns-in-Some c = let t = taken c.args.wanted.now c.args.all.now.items in grind (arith, common_steps)

pub returns-in-None : goal.returns-in-None
returns-in-None c = let t = taken c.args.wanted.now c.args.all.now.items in grind (arith, common_steps)
