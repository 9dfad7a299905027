-- Opens that leave where their session ends.
use Rattle.std.specs.Prelude.{◌≡◌, ℕ, Bool, if◌then◌else◌, List, [], ◌∷◌}
use Rattle.spec_exchange.specs.Opens.{drop_open, leave_open}
use Rattle.spec_exchange.specs.State.{Server}
use Rattle.server_checks.specs.session_table.Logons.{LogonsStay}
use Rattle.server_checks.specs.session_table.Shown.{HasLink, HasSessionRoom}
use Rattle.server_checks.specs.declared.tables.Tables.{Tables}

-- an open leaves; quiet, files stay as they are
abbrev pub left_behind : Server → ℕ → Bool → Server
left_behind s o is_quiet = if is_quiet then drop_open s o else leave_open s o

-- the first of these leaves, where there is one
abbrev pub first_left : Server → List ℕ → Bool → Server
first_left s [] is_quiet = s
first_left s (o ∷ os) is_quiet = left_behind s o is_quiet

-- all of them, one behind the other
abbrev pub all_left : Server → List ℕ → Bool → Server
all_left s [] is_quiet = s
all_left s (o ∷ os) is_quiet = all_left (left_behind s o is_quiet) os is_quiet

-- the configuration and the logons stay, and the room for another session
pub record SessionsKeep (old new : Tables) : Type 0 where
  pub config : new.config ≡ old.config
  pub logons : LogonsStay old.sessions new.sessions
  pub room : HasSessionRoom old.sessions → HasSessionRoom new.sessions
  pub links : (k : ℕ) → HasLink old.sessions k → HasLink new.sessions k
