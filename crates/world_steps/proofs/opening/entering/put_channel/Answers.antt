use Rattle.std.proofs.Common.{refl, arith}
use Rattle.world_steps.specs.opening.Putting.{Becomes}
use Rattle.world_steps.proofs.Setting.{none_set, one_set}
use Rattle.world_steps.proofs.opening.entering.put_channel.Goals as goal

pub returns-then-within : goal.returns-then-within
returns-then-within c = one_set (Becomes c.args.channel) c.args.k c.args.channels.now.items c.args.channel c.args.channel refl

pub returns-else-within : goal.returns-else-within
returns-else-within c = none_set (Becomes c.args.channel) c.args.k c.args.channels.now.items
    (λ l. (let past = c.if-within.false in let counted = c.len.ensures in omega (arith, l)))
