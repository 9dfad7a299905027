-- A message by what its connection tells of it, where the connection isn't at hand: which message the server hears, and its logons behind it.
use Rattle.std.specs.Prelude.{ℕ, true, if◌then◌else◌, List, [], Option, Some}
use Rattle.spec_crypto.specs.sessions.Derivation.{keys_of}
use Rattle.spec_crypto.specs.tokens.Tokens.{Users}
use Rattle.spec_exchange.specs.State as model
use Rattle.spec_exchange.specs.Table.{put}
use Rattle.spec_world.specs.Settings.{ServerSettings}
use Rattle.spec_world.specs.Ends.{ServerEnd, Logons, first_server_end}
use Rattle.spec_world.specs.Hearing as hearing
use Rattle.spec_world.specs.Connection.{heard_message}
use Rattle.spec_world.specs.Logon.{Progress, Stays, Interim, Final, exported, pending_by, token_in}
use Rattle.conn_core.specs.declared.frame_messages.checked.Checked.{Checked}
use Rattle.conn_core.specs.declared.requests.hearing.Told.{Told}

-- a connection's end of which this is told; nothing else of it is looked at
abbrev pub told_end : Told → ServerEnd
told_end t = record (first_server_end []) {
  asked = true;
  greeting = Some (record { client = t.client_guid; chosen = t.chosen; transcript = [] });
}

-- the message as it stands in its frame
abbrev pub told_checked : Checked → List ℕ → hearing.Checked
told_checked m bytes = record { header = m.header; raw = bytes; bytes = bytes; related = m.related; fault = m.fault }

-- none of a CANCEL
abbrev pub told_message : ServerSettings → Logons → Told → Checked → List ℕ → Option model.Message
told_message z L t m bytes = heard_message z L t.connection (told_end t) (told_checked m bytes)

-- the logons behind it: the transcript of a SESSION_SETUP is known by the value of its chain
abbrev pub told_logons : Users → Logons → Told → Checked → List ℕ → ℕ → Progress → Logons
told_logons users L t m bytes now Stays = L
told_logons users L t m bytes now (Interim binding) =
    record L { pending = put L.pending t.connection (pending_by users.bare (token_in bytes) t.fresh now) }
told_logons users L t m bytes now (Final binding channel encrypts) =
    if binding then L else record L {
      keys = put L.keys m.header.session (keys_of (exported users (L.pending t.connection) (token_in bytes)) t.chain
          t.chosen.cipher t.chosen.signing m.header.session);
    }
