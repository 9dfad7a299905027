use Rattle.std.proofs.Common.{refl}
use Rattle.store_opens.proofs.open_table.Changed.{shows_positioned}
use Rattle.store_opens.proofs.open_table.table.Opens.set_position.Goals as goal

pub returns : goal.returns
returns c = λ s h st. shows_positioned c.args.self.now (record c.args.self.now { rows = c.put_position.new.rows }) s
    c.args.id c.args.position (record { rest = refl; len = c.put_position.ensures.len }) c.put_position.ensures.rows h
