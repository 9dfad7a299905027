-- Both ends of a connection with the least that an example needs; messages that are hashed are lists of one number.
use Rattle.std.specs.Prelude.{ℕ, ◌==◌, Bool, true, false, if◌then◌else◌, List, [], ◌∷◌, map, replicate, Some, None}
use Rattle.spec_wire.specs.declared.messages.header.Header.{Header}
use Rattle.spec_wire.specs.messages.SessionSetup.{session_setup_response_spelling}
use Rattle.spec_exchange.specs.Commands.{Aside, SetupRequest, Logon}
use Rattle.spec_exchange.specs.State.{Server, Message}
use Rattle.spec_exchange.specs.Fold.{nothing_yet}
use Rattle.spec_exchange.specs.Network.{ForOp}
use Rattle.spec_crypto.specs.declared.sessions.material.Keys.{Keys}
use Rattle.spec_world.specs.Settings.{WorldSettings}
use Rattle.spec_world.specs.Messages.{HeardMessage, message_spelling, unsigned_field, heard_in}
use Rattle.spec_world.specs.Ends.{ClientEnd, ServerEnd, no_client_end, first_server_end, no_logons, no_keys, no_choice}
use Rattle.spec_world.specs.Hearing.{Checked}
use Rattle.spec_world.specs.Logon.{Progress}
use Rattle.spec_world.specs.Answering.{SaidReply, Ending, Seal, Behind, told_each}
use Rattle.spec_world.specs.Connection.{ConnectionStep, told_of, beginning, answered_with}
use Rattle.spec_world.specs.Sending.{setup_frame}
use Rattle.spec_world.specs.Dialog.{accepted_end}
use Rattle.spec_world.specs.World.{World, line_sent}
use Rattle.spec_world.specs.Events.{bytes_start, no_wires}
use Rattle.examples_world.specs.runs.Ends.{nobody}

abbrev pub some_keys : Keys
some_keys = record {
  signing = record { key = replicate 16 1; algorithm = 1 };
  to_server = replicate 32 2;
  to_client = replicate 32 3;
  cipher = 2;
  session = 9;
}

-- of a SESSION_SETUP, or its response
abbrev pub setup_header : ℕ → Header
setup_header flags = record {
  charge = 1;
  status = 0;
  command = 1;
  credits = 1;
  flags = flags;
  next = 0;
  message = 4;
  tree = 0;
  session = 9;
  signature = unsigned_field;
}

-- ---- the server's end, on which a logon is in the making behind NEGOTIATE; five replies were sealed

abbrev pub making_end : ServerEnd
making_end = record (first_server_end []) {
  asked = true;
  greeting = Some (record { client = 7; chosen = no_choice; transcript = (1 ∷ []) ∷ (2 ∷ []) ∷ [] });
  making = Some ((1 ∷ []) ∷ (2 ∷ []) ∷ (3 ∷ []) ∷ (4 ∷ []) ∷ []);
  keys = Some some_keys;
  channel = 2;
  counter = 5;
}

abbrev pub setup_heard : Checked
setup_heard = record { header = setup_header 0; raw = 7 ∷ []; bytes = 7 ∷ []; related = false; fault = None }

abbrev pub said_by : Progress → SaidReply
said_by p = record {
  header = setup_header 1;
  body = [];
  signer = None;
  request = setup_heard;
  progress = p;
  base = [];
  keys = some_keys;
}

-- whether a SETUP of these flags, which names session 9, is verified there
abbrev pub binding_verified : ℕ → Bool
binding_verified flags =
    (told_of nobody (record no_logons { keys = λ x. if x == 9 then some_keys else no_keys }) 0 making_end
    (record setup_heard { header = setup_header flags })).verified

-- what no one signed
abbrev pub an_echo_heard : HeardMessage
an_echo_heard = record { header = record (setup_header 0) { command = 13 }; bytes = [] }

-- behind a reply whose text is 8
abbrev pub behind : Progress → Behind
behind p = told_each false making_end (said_by p ∷ []) ((8 ∷ []) ∷ [])

abbrev pub messages_of : List Ending → List (List ℕ)
messages_of es = map (λ e. e.message) es

abbrev pub transcripts_of : List Ending → List (List (List ℕ))
transcripts_of es = map (λ e. e.transcript) es

-- ---- what is sealed: of session 9, on channel 2

abbrev pub seal_of : Bool → ℕ → List ℕ → Seal
seal_of to_server counter text = record { session = 9; to_server = to_server; channel = 2; counter = counter; text = text }

-- an answer of one text
abbrev pub told_sealed : ConnectionStep
told_sealed = answered_with making_end true (beginning nothing_yet no_logons making_end) [] ((8 ∷ []) ∷ [])

-- ---- the client's end, ready and sealed

abbrev pub keyed_client : ClientEnd
keyed_client = record no_client_end {
  purse = record { held = 5; next = 7 };
  keys = some_keys;
  encrypts = true;
  channel = 2;
  counter = 6;
}

abbrev pub some_settings : WorldSettings
some_settings = record {
  server = nobody;
  client = record { user = []; password = []; guid = []; ciphers = []; signings = [] };
  share = [];
  room = 0;
  encrypts = false;
  address = record { ip = 0; port = 0 };
  seed = [];
}

abbrev pub keyed_world : World
keyed_world = record (bytes_start some_settings) { wires = λ k. record no_wires { client_end = keyed_client } }

abbrev pub an_echo : Message
an_echo = record {
  connection = 0;
  client_guid = 0;
  session_id = 9;
  tree_id = 0;
  message_id = 7;
  channel_sequence = 0;
  replay = false;
  fault = None;
  command = Aside 0;
}

-- it goes up for operation 1, of charge 2
abbrev pub echo_sent : World
echo_sent = line_sent keyed_world 0 (ForOp 1) an_echo 2

-- ---- a binding's SESSION_SETUP without a token, and a new session's final response with SessionFlags

abbrev pub binding_sent : List ℕ
binding_sent = setup_frame keyed_client true 0 [] an_echo

abbrev pub told_flags : ℕ → List ℕ
told_flags flags = message_spelling (setup_header 1) (session_setup_response_spelling (record { session_flags = flags; security = [] }))

abbrev pub accepted_on : ℕ → ClientEnd
accepted_on flags = accepted_end no_client_end (heard_in (told_flags flags)) 9

-- ---- a second token at a server that has nothing in the making

abbrev pub setup_message : Message
setup_message = record an_echo { session_id = 5 }

abbrev pub second_setup : SetupRequest
second_setup = record {
  readable = true;
  binding = false;
  signed = false;
  verified = false;
  previous = 0;
  cipher = 1;
  signing = 1;
  shows = Logon [];
}

-- no id was given yet
abbrev pub first_epoch : Server
first_epoch = record nothing_yet { epoch = 1 }
