-- The secrets behind signatures: of a logon whose five hashed messages, and whose exported key, are lists of one number.
use Rattle.std.specs.Prelude.{ℕ, Bool, false, List, [], ◌∷◌, map}
use Rattle.spec_wire.specs.messages.SessionSetup.{session_setup_request_spelling}
use Rattle.spec_crypto.specs.sessions.Chain.{chain}
use Rattle.spec_exchange.specs.Client.{SaidSecond}
use Rattle.spec_world.specs.Messages.{message_spelling}
use Rattle.spec_world.specs.Ends.{ClientEnd, no_client_end}
use Rattle.spec_world.specs.Logon.{Stays, Final}
use Rattle.spec_world.specs.Answering.{SaidReply}
use Rattle.spec_world.specs.Dialog.{ended_on}
use Rattle.spec_hostile.specs.RepeatRuns.{RepeatWorld, UpFrame}
use Rattle.spec_hostile.specs.SignedFor.{Secret, SignedEntry, Watched, KeyPlace, watching, entries_up, entry_by, noted_each, no_secret}
use Rattle.spec_hostile.specs.SignedFor.{secret_accepted, client_secret}
use Rattle.examples_world.specs.connections.Parts.{making_end, said_by, setup_heard, setup_header, an_echo_heard}
use Rattle.examples_world.specs.repeats.Linked.{linked_channels, linked_client, linked_server, linked_values, put_echo}

abbrev pub logon_secret : Secret
logon_secret = record { base = 5 ∷ []; value = chain ((1 ∷ []) ∷ (2 ∷ []) ∷ (3 ∷ []) ∷ (4 ∷ []) ∷ (7 ∷ []) ∷ []) }

-- ---- the client's end that accepts it, and what it signs

abbrev pub accepting_end : ClientEnd
accepting_end = record no_client_end {
  stage = SaidSecond false;
  base = 5 ∷ [];
  transcript = (1 ∷ []) ∷ (2 ∷ []) ∷ (3 ∷ []) ∷ (4 ∷ []) ∷ (7 ∷ []) ∷ [];
}

abbrev pub accepted_secret : Secret
accepted_secret = secret_accepted (ended_on accepting_end an_echo_heard false ∷ []) no_secret

-- where the client has a session, or has none
abbrev pub linked_as : Bool → RepeatWorld
linked_as live = record linked_channels {
  world = record linked_channels.world { values = record linked_values { client = record linked_client { live = live } } };
}

-- of the client's session behind an event in which that end accepted it
abbrev pub secret_learned : Bool → Secret
secret_learned live =
    let r = linked_as live in
    client_secret (watching r) (record r { world = record r.world { accepted = ended_on accepting_end an_echo_heard false ∷ [] } })

-- a SESSION_SETUP of session 9, as in a binding
abbrev pub put_setup : UpFrame
put_setup = record put_echo { frame = message_spelling (setup_header 8) [] }

-- of frames that go up on channel 0, where the client's session has this logon
abbrev pub signed_up : List UpFrame → List SignedEntry
signed_up us = entries_up (record (watching linked_channels) { of_client = logon_secret }) 0 linked_channels us

abbrev pub secrets_of : List SignedEntry → List Secret
secrets_of es = map (λ e. e.secret) es

-- ---- the server's final response on connection 0, of a new session 9 or of a binding to it

abbrev pub final_reply : Bool → SaidReply
final_reply binding = record (said_by (Final binding 1 false)) { base = 5 ∷ [] }

abbrev pub noted_behind : Bool → Watched
noted_behind binding = noted_each (watching linked_channels) 0 making_end (final_reply binding ∷ [])

-- a later reply, to what is no SESSION_SETUP
abbrev pub line_reply : SaidReply
line_reply = record (said_by Stays) { request = record setup_heard { header = record (setup_header 0) { command = 13 } } }

-- the refusal of a SESSION_SETUP that binds to session 9, which stands
abbrev pub binding_bytes : List ℕ
binding_bytes =
    message_spelling (setup_header 0) (session_setup_request_spelling (record {
      flags = 1;
      security_mode = 1;
      capabilities = 0;
      channel = 0;
      previous_session_id = 0;
      security = [];
    }))

abbrev pub refused_binding : SaidReply
refused_binding = record (said_by Stays) { request = record setup_heard { bytes = binding_bytes } }

-- which secret signs a reply, and for which place
abbrev pub entry_behind : Watched → SaidReply → SignedEntry
entry_behind t r = entry_by t 0 linked_server making_end r (8 ∷ []) r.progress

abbrev pub secret_behind : Watched → SaidReply → Secret
secret_behind t r = (entry_behind t r).secret

abbrev pub reply_place : Watched → SaidReply → KeyPlace
reply_place t r = (entry_behind t r).place
