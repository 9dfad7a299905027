use Rattle.std.proofs.Common.{arith}
use Rattle.world_steps.specs.Lists.{ClosesClient}
use Rattle.world_steps.proofs.Setting.{none_set, one_lent}
use Rattle.world_steps.proofs.cutting.close_client.Goals as goal

pub returns-then-within : goal.returns-then-within
returns-then-within c =
    let e = c.close_client.ensures in
    one_lent ClosesClient c.args.k c.args.channels.now.items c.close_client.new.self c.index_mut.result.now
    c.index_mut.ensures.value (record {
      client = e.ends.0;
      server = e.ends.1;
      up = e.lists.1;
      down = e.lists.0;
    })

pub returns-else-within : goal.returns-else-within
returns-else-within c = none_set ClosesClient c.args.k c.args.channels.now.items
    (λ l. (let past = c.if-within.false in let counted = c.len.ensures in omega (arith, l)))
