use Rattle.server_core.proofs.durable_state.ByPiece.{base_shown}
use Rattle.server_core.proofs.durable_state.durable.Durable.begin_numbers.Goals as goal

pub returns : goal.returns
returns c = λ s h l. base_shown c.args.self.now c.set_basic.new.self c.set_given.new.self s c.args.epoch c.args.given c.args.next_file
    c.args.times.now h
    (c.set_basic.ensures.shown (record s { next_file = c.args.next_file }) (c.set_next.ensures.shown s h.files l))
    (c.set_given.ensures (record s { epoch = c.args.epoch; open_ids_given = 0 }) (c.begin_epoch.ensures s h.opens))
