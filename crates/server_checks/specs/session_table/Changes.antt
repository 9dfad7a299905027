-- What the calls do to the model's columns of sessions and connections.
use Rattle.std.specs.Prelude.{ℕ, ◌+◌, ◌-◌, true, false, List, [], ◌∷◌, ◌++◌, Some, None}
use Rattle.spec_exchange.specs.Table.{put}
use Rattle.spec_exchange.specs.State.{Server, NewSession, Binding}
use Rattle.spec_exchange.specs.Effects.{cleared, next_session, without_tree}

abbrev pub sessions_epoch : Server → ℕ → Server
sessions_epoch s number = record s { epoch = number; session_ids_given = 0 }

-- a new session is in the making on a connection, under the next id
abbrev pub challenged : Server → ℕ → Server
challenged s k = record s { session_ids_given = s.session_ids_given + 1; making = put s.making k (Some (NewSession (next_session s))) }

abbrev pub challenged_binding : Server → ℕ → ℕ → Server
challenged_binding s k session = record s { making = put s.making k (Some (Binding session)) }

-- a session begins on a connection, with its first channel
abbrev pub session_added : Server → ℕ → ℕ → List ℕ → ℕ → ℕ → ℕ → Server
session_added s k session user client cipher signing =
    record s {
      present = put s.present session true;
      sessions = s.sessions + 1;
      user = put s.user session user;
      client = put s.client session client;
      cipher = put s.cipher session cipher;
      signing = put s.signing session signing;
      channel_numbers_drawn = put s.channel_numbers_drawn session 1;
      trees = put s.trees session [];
      next_tree = put s.next_tree session 1;
      session_on = put s.session_on k (Some session);
      making = put s.making k None;
    }

abbrev pub session_joined : Server → ℕ → ℕ → Server
session_joined s k session =
    record s {
      channel_numbers_drawn = put s.channel_numbers_drawn session (s.channel_numbers_drawn session + 1);
      session_on = put s.session_on k (Some session);
      making = put s.making k None;
    }

-- a session is gone, with its channels and trees
abbrev pub session_gone : Server → ℕ → Server
session_gone s session =
    record s {
      present = put s.present session false;
      sessions = s.sessions - 1;
      trees = put s.trees session [];
      session_on = λ k. cleared session (s.session_on k);
    }

abbrev pub tree_dropped : Server → ℕ → ℕ → Server
tree_dropped s session id = record s { trees = put s.trees session (without_tree id (s.trees session)) }

abbrev pub connection_taken_in : Server → ℕ → Server
connection_taken_in s k = record s { connections = s.connections ++ k ∷ [] }
