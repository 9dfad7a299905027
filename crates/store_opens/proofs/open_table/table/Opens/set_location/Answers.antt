use Rattle.std.proofs.Common.{refl}
use Rattle.store_opens.proofs.open_table.Changed.{shows_located}
use Rattle.store_opens.proofs.open_table.table.Opens.set_location.Goals as goal

pub returns : goal.returns
returns c = λ s h st. shows_located c.args.self.now (record c.args.self.now { rows = c.put_location.new.rows }) s
    c.args.id c.args.last (record { rest = refl; len = c.put_location.ensures.len }) c.put_location.ensures.rows h
