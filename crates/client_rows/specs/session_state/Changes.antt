-- How a session changes.
use Rattle.std.specs.Prelude.{ℕ, ◌+◌, ◌-◌, true, false, replicate, slice_set}
use Rattle.client_rows.specs.declared.session_state.session.Session.{Session}

-- a ready channel is lost, and others are left
abbrev pub session_lost : Session → ℕ → Session
session_lost s k = record s { ready = slice_set s.ready k false; channels = s.channels - 1; sequence = s.sequence + 1 }

abbrev pub session_ended : Session → Session
session_ended s = record s { live = false; ready = replicate 256 false; channels = 0 }

-- one channel more, and so many are ready then
abbrev pub bound : Session → ℕ → ℕ → Session
bound s k n = record s { ready = slice_set s.ready k true; channels = n }

abbrev pub session_begun : Session → (k session tree : ℕ) → Session
session_begun s k session tree =
    record s {
      live = true;
      id = session;
      number = s.number + 1;
      tree = tree;
      sequence = 0;
      ready = slice_set s.ready k true;
      channels = 1;
    }
