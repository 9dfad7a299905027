use Rattle.std.proofs.Common.{refl}
use Rattle.server_checks.proofs.session_table.Whole.{forgotten}
use Rattle.server_checks.proofs.session_table.table.Sessions.forget.Goals as goal

pub returns-clause-shows : goal.returns-clause-shows
returns-clause-shows c = λ s h.
    let t = c.args.self.now in
    forgotten t (record t {
      rows = c.drop_channel.new.rows;
      order = c.drop_connection.new.connections;
      links = c.drop_link.new.links;
    }) c.args.connection s
    (record {
      rows = c.drop_channel.ensures.rows;
      len = c.drop_channel.ensures.len;
      links = c.drop_link.ensures;
      order = c.drop_connection.ensures;
      epoch = refl;
      given = refl;
    }) h
