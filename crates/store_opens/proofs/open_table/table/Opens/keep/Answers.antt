use Rattle.std.proofs.Common.{refl}
use Rattle.store_opens.proofs.open_table.Changed.{shows_slot, kept_slot}
use Rattle.store_opens.proofs.open_table.table.Opens.keep.Goals as goal

pub returns : goal.returns
returns c = λ s h st. kept_slot _ s c.args.id c.args.index c.args.number c.args.status c.requires.0 c.requires.1
    (shows_slot c.args.self.now (record c.args.self.now { rows = c.keep_row.new.rows }) s c.args.id c.args.index
    (record { number = c.args.number; status = c.args.status }) (record {
      rest = refl;
      len = c.keep_row.ensures.len;
    }) c.keep_row.ensures.there c.keep_row.ensures.others h)
