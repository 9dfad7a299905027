use Rattle.std.proofs.Common.{arith}
use Rattle.world_steps.specs.Lists.{ClosesServer}
use Rattle.world_steps.proofs.Setting.{none_set, one_lent}
use Rattle.world_steps.proofs.parting.close_server.Goals as goal

pub returns-then-within : goal.returns-then-within
returns-then-within c =
    let e = c.close_server.ensures in
    one_lent ClosesServer c.args.k c.args.channels.now.items c.close_server.new.self c.index_mut.result.now
    c.index_mut.ensures.value (record {
      client = e.ends.1;
      server = e.ends.0;
      up = e.lists.0;
      down = e.lists.1;
    })

pub returns-else-within : goal.returns-else-within
returns-else-within c = none_set ClosesServer c.args.k c.args.channels.now.items
    (λ l. (let past = c.if-within.false in let counted = c.len.ensures in omega (arith, l)))
