-- The server's tables show a state of the model, and the logons beside it.
use Rattle.spec_exchange.specs.State as model
use Rattle.server_checks.specs.session_table.Logons.{LogonsShown}
use Rattle.spec_world.specs.Ends.{Logons}
use Rattle.server_checks.specs.Shown.{TablesShown}
use Rattle.server_checks.specs.declared.tables.Tables.{Tables}

-- keys by session, and the logons in the making by connection, which the model leaves to the level of bytes
pub record ServerShown (t : Tables) (s : model.Server) (L : Logons) : Type 0 where
  pub tables : TablesShown t s
  pub logons : LogonsShown t.sessions L.keys L.pending
