-- Opens of a session that are closed one behind the other.
use Rattle.std.specs.Prelude.{◌≡◌, ℕ, true, List, Some}
use Rattle.spec_exchange.specs.Effects.{keep_closed}
use Rattle.spec_exchange.specs.Opens.{leave_open}
use Rattle.spec_exchange.specs.State.{Server}
use Rattle.spec_exchange.specs.Table.{has}
use Rattle.law_server.specs.tables.Fits.{is_ascending}

-- an open leaves, and its session keeps its CreateGuid as closed
abbrev pub closed_one : Server → ℕ → ℕ → Server
closed_one s session o = keep_closed (leave_open s o) session (s.opened o).create_guid

-- each of them is the session's, and they are in the order of their ids
pub record AreClosable (s : Server) (session : ℕ) (os : List ℕ) : Type 0 where
  pub ascending : is_ascending os ≡ true
  pub attached : (o : ℕ) → has o os ≡ true → s.session_of_open o ≡ Some session
