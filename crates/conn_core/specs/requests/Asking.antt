-- What a message asks of the server in code.
use Rattle.std.specs.Prelude.{◌≡◌, ◌%◌, true, ◌&&◌, ℕ, List, Option, Some, None, ⊤}
use Rattle.spec_crypto.specs.sessions.Chain.{chain}
use Rattle.spec_crypto.specs.tokens.Tokens.{Users}
use Rattle.spec_exchange.specs.Commands as asks
use Rattle.spec_exchange.specs.State as model
use Rattle.wire_commands.specs.values.Meaning
use Rattle.spec_world.specs.Ends.{ServerEnd, Logons, chosen_on, client_on}
use Rattle.spec_world.specs.Hearing as hearing
use Rattle.spec_exchange.specs.Commands.{has_bit}
use Rattle.wire_commands.specs.declared.values.setup.SetupForm.{SetupForm}
use Rattle.conn_core.specs.declared.frame_messages.checked.Checked.{Checked}
use Rattle.spec_world.specs.Logon.{full_transcript, token_in, token_shows}
use Rattle.server_checks.specs.declared.event_heard.event.ServerEvent.{ServerEvent}
use Rattle.server_checks.specs.declared.event_heard.event.ServerEvent.TheVariants as events
use Rattle.server_checks.specs.declared.setups.setup.SetupHeard.{SetupHeard}
use Rattle.spec_crypto.specs.sessions.Signing.{verifies}
use Rattle.conn_core.specs.declared.requests.hearing.Told.{Told}
use Rattle.conn_core.specs.served.Serving.{IsServerServed}

-- what the connection tells of each message
pub record IsGreetingTold (f : ServerEnd) (t : Told) : Type 0 where
  pub client : t.client_guid ≡ client_on f.greeting
  pub chosen : t.chosen ≡ chosen_on f.greeting

-- and of this one
pub record IsRequestTold (f : ServerEnd) (c : hearing.Checked) (t : Told) : Type 0 where
  pub client : t.client_guid ≡ client_on f.greeting
  pub chosen : t.chosen ≡ chosen_on f.greeting
  pub chain_is : hearing.is_setup c.header ≡ true → t.chain ≡ chain (full_transcript f c.raw)

-- NEGOTIATE and ECHO, which the connection answers by itself, and CANCEL
abbrev pub IsRequestOwn : asks.Command → Type 0
IsRequestOwn (asks.Aside status) = ⊤
IsRequestOwn _ = ⊥

abbrev pub IsAside : Option model.Message → Type 0
IsAside None = ⊤
IsAside (Some m) = IsRequestOwn m.command

-- ---- the message that a SESSION_SETUP is to the definitions: its signature is that of its session, live or not

abbrev pub setup_of : Users → Logons → SetupHeard → asks.SetupRequest
setup_of users L q = record {
  readable = q.form.readable;
  binding = q.form.binding;
  signed = q.form.signed;
  verified = q.form.signed && verifies (L.keys q.session_id).signing q.bytes.now;
  previous = q.form.previous;
  cipher = q.chosen.cipher;
  signing = q.chosen.signing;
  shows = token_shows users (L.pending q.connection) q.form.token.now;
}

abbrev pub message_for : Users → Logons → SetupHeard → model.Message
message_for users L q = record {
  connection = q.connection;
  client_guid = q.client_guid;
  session_id = q.session_id;
  tree_id = q.tree_id;
  message_id = q.message_id;
  channel_sequence = q.channel_sequence;
  replay = q.replay;
  fault = q.fault;
  command = asks.Setup (setup_of users L q);
}

-- as it was formed of a message's header, its fault, what was found in its bytes, and what was told
pub record IsFormed (t : Told) (m : Checked) (form : SetupForm) (bytes : List ℕ) (q : SetupHeard) : Type 0 where
  pub connection : q.connection ≡ t.connection
  pub client : q.client_guid ≡ t.client_guid
  pub session : q.session_id ≡ m.header.session
  pub tree : q.tree_id ≡ m.header.tree
  pub message : q.message_id ≡ m.header.message
  pub sequence : q.channel_sequence ≡ m.header.status % 65536
  pub replay : q.replay ≡ has_bit m.header.flags 0x2000_0000
  pub fault : q.fault ≡ m.fault
  pub form_is : q.form ≡ form
  pub raw : q.bytes.now ≡ bytes
  pub chosen : q.chosen ≡ t.chosen
  pub chain_is : q.chain ≡ t.chain
  pub fresh : q.fresh ≡ t.fresh

-- It is handed on with its bytes as they were heard, its chain, and what was told; with its token, where it reads: of a body that
-- doesn't read there is none, and its answer asks for none.
pub record IsRequestHeard (users : Users) (L : Logons) (t : Told) (c : hearing.Checked) (q : SetupHeard)
    (m : model.Message) : Type 0 where
  pub message : message_for users L q ≡ m
  pub setup : hearing.is_setup c.header ≡ true
  pub session : q.session_id ≡ c.header.session
  pub connection : q.connection ≡ t.connection
  pub token : q.form.readable ≡ true → q.form.token.now ≡ token_in c.bytes
  pub raw : q.bytes.now ≡ c.raw
  pub chain_is : q.chain ≡ t.chain
  pub chosen : q.chosen ≡ t.chosen
  pub fresh : q.fresh ≡ t.fresh

abbrev pub RequestAsks : Users → Logons → Told → hearing.Checked → ServerEvent → model.Message → Type 0
RequestAsks users L t c (events.Message message) m = Meaning.message_of message ≡ m
RequestAsks users L t c (events.Setup setup) m = IsRequestHeard users L t c setup m
RequestAsks users L t c _ m = ⊥

abbrev pub IsRequestEvent : Users → Logons → Told → hearing.Checked → Option model.Message → Option ServerEvent → Type 0
IsRequestEvent users L t c due None = IsAside due
IsRequestEvent users L t c (Some m) (Some event) = IsServerServed event × RequestAsks users L t c event m
IsRequestEvent users L t c None (Some event) = ⊥
