use Rattle.std.proofs.Common.{sym, subst}
use Rattle.spec_world.specs.Ends.{first_server_end}
use Rattle.conn_core.specs.Shown.{ShowsEnd}
use Rattle.conn_core.specs.declared.conn.Conn.{Conn}
use Rattle.serve_turns.proofs.connection_turns.connections.first_state.Goals as goal

pub returns-in-Ok : goal.returns-in-Ok
returns-in-Ok g c = record {
  salt = c.salt-salt.result;
  drawn = c.salt-salt.ensures;
  shows = subst (λ (o : Conn). ShowsEnd c.args.number c.args.guid o (first_server_end c.salt-salt.result)) (sym c.new-state.ensures.0)
      c.in-Ok.ensures.shows;
  none = c.new-state.ensures.1;
}
