use Rattle.std.proofs.Common.{refl}
use Rattle.client_tables.proofs.whole_table.Ready.{ready_shown}
use Rattle.client_tables.proofs.whole_table.parts.Table.ready.Goals as goal

pub returns : goal.returns
returns c =
    let t = c.args.self.now in
    record {
      fits = c.requires.fits;
      rows = refl;
      shown = λ d s. ready_shown t.session c.ready.new.self t.rows.items t.holders.items t.prices t.watchers t.ops.items t.settled.items
          t.order.items t.dialogs.items d s c.args.channel c.args.session c.args.tree (c.ready.ensures.shown d s.session);
      told = λ d s. c.ready.ensures.told d s.session;
    }
