-- A SESSION_SETUP as the model's message, and what it comes to beside its reply (MS-SMB2 3.3.5.5, 3.3.5.5.3).
use Rattle.std.specs.Prelude.{ℕ, Bool, false, ◌&&◌, if◌then◌else◌, Option, Some, None, nat_le, length, is_some}
use Rattle.spec_exchange.specs.Commands as asks
use Rattle.spec_exchange.specs.State as says
use Rattle.spec_exchange.specs.Table.{put}
use Rattle.spec_crypto.specs.declared.sessions.material.Keys.{Keys}
use Rattle.spec_crypto.specs.sessions.Signing.{verifies}
use Rattle.spec_crypto.specs.sessions.Derivation.{keys_of, bound_keys}
use Rattle.spec_crypto.specs.tokens.Tokens.{Users}
use Rattle.spec_world.specs.Ends.{Logons}
use Rattle.spec_world.specs.Logon.{Progress, Stays, Interim, Final, token_shows, exported, pending_by, progress}
use Rattle.server_checks.specs.declared.setups.setup.SetupHeard.{SetupHeard}

-- of logons in the making those that are in it yet
abbrev pub in_the_making : says.Server → Logons → Logons
in_the_making s L = record L { pending = λ k. if is_some (s.making k) then L.pending k else None }

-- whether a message has the signature of a session that is live
abbrev pub verified_by : Logons → says.Server → SetupHeard → Bool
verified_by L s h = h.form.signed
    && (s.present h.session_id && (nat_le 64 (length h.bytes.now) && verifies (L.keys h.session_id).signing
    h.bytes.now))

abbrev pub request_of : Users → Logons → says.Server → SetupHeard → asks.SetupRequest
request_of users L s h = record {
  readable = h.form.readable;
  binding = h.form.binding;
  signed = h.form.signed;
  verified = verified_by L s h;
  previous = h.form.previous;
  cipher = h.chosen.cipher;
  signing = h.chosen.signing;
  shows = token_shows users (L.pending h.connection) h.form.token.now;
}

abbrev pub setup_message : Users → Logons → says.Server → SetupHeard → says.Message
setup_message users L s h = record {
  connection = h.connection;
  client_guid = h.client_guid;
  session_id = h.session_id;
  tree_id = h.tree_id;
  message_id = h.message_id;
  channel_sequence = h.channel_sequence;
  replay = h.replay;
  fault = h.fault;
  command = asks.Setup (request_of users L s h);
}

-- the message with another word on its signature
abbrev pub with_verified : says.Message → asks.SetupRequest → Bool → says.Message
with_verified m r verified = record m { command = asks.Setup (record r { verified = verified }) }

-- ---- what it comes to: nothing, where it has a fault

abbrev pub unless_fault : Option ℕ → Progress → Progress
unless_fault None p = p
unless_fault (Some status) p = Stays

abbrev pub progress_of : says.ServerEvent → says.Reply → Progress
progress_of (says.Heard m) r = unless_fault m.fault (progress m.command r)
progress_of _ r = Stays

-- the keys behind it, by the chain that its connection gave
abbrev pub keys_behind : Users → Logons → SetupHeard → Bool → Keys
keys_behind users L h binding =
    if binding then bound_keys (exported users (L.pending h.connection) h.form.token.now) h.chain (L.keys h.session_id)
    else keys_of (exported users (L.pending h.connection) h.form.token.now) h.chain h.chosen.cipher h.chosen.signing h.session_id

-- the logons behind it: a challenge is kept by its connection, a new session's keys by the session
abbrev pub setup_logons : Users → Logons → SetupHeard → ℕ → Progress → Logons
setup_logons users L h now Stays = L
setup_logons users L h now (Interim binding) = record L { pending = put L.pending h.connection (pending_by users.bare h.form.token.now h.fresh now) }
setup_logons users L h now (Final binding number encrypts) = if binding then L else record L {
  keys = put L.keys h.session_id (keys_behind users L h false);
}
