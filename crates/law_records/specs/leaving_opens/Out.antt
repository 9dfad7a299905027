-- Connections that are lost one behind the other, where the server stops (MS-SMB2 3.3.7.1), told from the state before all of them.
use Rattle.std.specs.Prelude.{ℕ, ◌+◌, nat_le, Bool, not, ◌&&◌, if◌then◌else◌, List, [], ◌∷◌, Option, Some, None}
use Rattle.spec_exchange.specs.Table.{has, is_at}
use Rattle.spec_exchange.specs.State.{Server}

-- 1 where a connection isn't lost, and the session has its channel there
abbrev pub channel_left : Bool → ℕ → Option ℕ → ℕ
channel_left lost session at = if not lost && is_at session at then 1 else 0

-- how many channels a session has on those of the connections that aren't lost
unfoldable pub channels_left : (ℕ → Option ℕ) → List ℕ → List ℕ → ℕ → ℕ
channels_left on lost [] session = 0
channels_left on lost (k ∷ ks) session = channel_left (has k lost) session (on k) + channels_left on lost ks session

-- the session that has one channel at most on the connections behind those lost
abbrev pub last_left : Server → List ℕ → List ℕ → Option ℕ → Option ℕ
last_left s lost ks None = None
last_left s lost ks (Some session) = if nat_le (channels_left s.session_on lost ks session) 1 then Some session else None

-- the session that ends with a connection, where those in front of it in the list are lost
abbrev pub ends_left : Server → List ℕ → ℕ → List ℕ → Option ℕ
ends_left s lost k more = if has k lost then None else last_left s lost (k ∷ more) (s.session_on k)
