-- A worked logon, whose bytes `Worked` has from another implementation: what both ends are configured with, what each of them
-- writes, and the server's connection where a request comes.
use Rattle.std.specs.Prelude.{ℕ, ◌+◌, ◌*◌, ◌==◌, true, false, List, [], ◌∷◌, Some, None}
use Rattle.spec_wire.specs.messages.Places.{number_of}
use Rattle.spec_exchange.specs.Commands.{Command, Aside, Setup, TreeConnect, Begins}
use Rattle.spec_exchange.specs.State.{Server, Message, Reply, Body, Created, SetUp, Connected}
use Rattle.spec_exchange.specs.Operations.{OpCreate, request_of}
use Rattle.spec_exchange.specs.Fold.{nothing_yet}
use Rattle.spec_commands.specs.ReplyBody.{reply_body}
use Rattle.spec_crypto.specs.tokens.Acceptor.{LogonValue}
use Rattle.spec_crypto.specs.tokens.Tokens.{Shown, shown}
use Rattle.spec_world.specs.Logon.{pending_by}
use Rattle.spec_world.specs.Settings.{ServerSettings, ClientSettings}
use Rattle.spec_world.specs.Ends.{ServerEnd, first_server_end, no_logons, no_keys}
use Rattle.spec_world.specs.Hearing.{Checked}
use Rattle.spec_world.specs.Answering.{reply_header, with_signature}
use Rattle.spec_world.specs.Connection.{ConnectionStep, connection_step}
use Rattle.spec_world.specs.Sending.{request_header}
use Rattle.examples_world.specs.runs.Ends.{nobody, checked}
use Rattle.examples_world.specs.runs.Worked as worked
use Rattle.examples_world.specs.settings.Logon.{user_name, password, share_name}

-- ---- both ends

abbrev pub guid_from : ℕ → List ℕ
guid_from n =
    n ∷ (n + 1) ∷ (n + 2) ∷ (n + 3) ∷ (n + 4) ∷ (n + 5) ∷ (n + 6) ∷ (n + 7) ∷ (n + 8) ∷ (n + 9) ∷ (n + 10) ∷ (n + 11) ∷ (n + 12)
    ∷ (n + 13) ∷ (n + 14) ∷ (n + 15) ∷ []

abbrev pub client_of_logon : ClientSettings
client_of_logon = record { user = user_name; password = password; guid = guid_from 16; ciphers = 1 ∷ []; signings = [] }

abbrev pub server_of_logon : ServerSettings
server_of_logon = record { users = record { list = record { name = user_name; password = password } ∷ []; bare = false }; guid = guid_from 32 }

abbrev pub file_path : List ℕ
file_path = 100 ∷ 105 ∷ 115 ∷ 107 ∷ 46 ∷ 105 ∷ 109 ∷ 103 ∷ []

-- the first session's id, and the first open's
abbrev pub first_id : ℕ
first_id = 0x1_0000_0001

-- the moment of the first event, which opens the connection; each event takes one
abbrev pub first_moment : ℕ
first_moment = 133314349322460000

-- ---- what the client sends

abbrev pub sent : ℕ → ℕ → ℕ → Command → Message
sent id session tree command = record {
  connection = 0;
  client_guid = 0;
  session_id = session;
  tree_id = tree;
  message_id = id;
  channel_sequence = 0;
  replay = false;
  fault = None;
  command = command;
}

-- of a dialog's requests only the ids count
abbrev pub dialog_sent : ℕ → ℕ → Message
dialog_sent id session = sent id session 0 (Aside 0)

-- a persistent open of a file for reading and writing, which denies writers: open it, or create it
abbrev pub create_asked : Command
create_asked =
    request_of (OpCreate file_path 0x12_019f 1 3 true false)
    (number_of worked.create_salt * 0x1_0000_0000_0000_0000 + 1) 0 0 0

-- ---- what the server makes of the requests of a dialog

-- a window of the last ids, so that one credit is granted, as behind the 512 of NEGOTIATE
abbrev pub greeted_by : ServerEnd
greeted_by = record (first_server_end worked.server_salt) {
  window = record { held = 1 ∷ []; next = 0xffff_ffff_ffff_fffe };
  asked = true;
  greeting = Some (record {
    client = 7;
    chosen = record { cipher = 1; signing = 1; signing_told = false };
    transcript = worked.greeting ∷ worked.greeting_reply ∷ [];
  });
}

abbrev pub first_epoch : Server
first_epoch = record nothing_yet { epoch = 1; connections = 0 ∷ [] }

abbrev pub greeting_heard : ConnectionStep
greeting_heard =
    connection_step server_of_logon 0 (first_moment + 1) [] first_epoch no_logons (first_server_end worked.server_salt) worked.greeting

abbrev pub first_setup_heard : ConnectionStep
first_setup_heard =
    connection_step server_of_logon 0 (first_moment + 3) worked.server_challenge first_epoch no_logons greeted_by worked.first_setup

-- ---- its responses, by their values

abbrev pub heard_as : ℕ → ℕ → Checked
heard_as command id = checked (request_header (dialog_sent id first_id) 1 command false) [] false

abbrev pub success_of : ℕ → Body → Reply
success_of tree body = record { status = 0; session_id = first_id; tree_id = tree; body = body }

abbrev pub last_setup : Command
last_setup = Setup (record {
  readable = true;
  binding = false;
  signed = false;
  verified = false;
  previous = 0;
  cipher = 1;
  signing = 1;
  shows = Begins;
})

-- the final response is signed with the new session's key
abbrev pub last_told : List ℕ
last_told =
    with_signature (Some (record { key = worked.signing_key; algorithm = 1 })) (reply_header (heard_as 1 2) 0 first_id 0 1)
    (reply_body worked.final_token last_setup (success_of 0 (SetUp true 1)))

abbrev pub tree_told : List ℕ
tree_told =
    with_signature None (reply_header (heard_as 3 3) 0 first_id 1 1)
    (reply_body [] (TreeConnect share_name) (success_of 1 (Connected 0x1 0x10 0x1f_01ff)))

-- what a token shows behind a type 1 alone, and a logon whose type 3 brings no key
abbrev pub shown_alone : List ℕ → Shown
shown_alone token =
    shown (record { list = server_of_logon.users.list; bare = true })
    (pending_by true worked.type_1 worked.server_challenge (first_moment + 3)) token

abbrev pub alone_logon : LogonValue
alone_logon = record { user = user_name; key = worked.alone_key; exchanged = false }

-- a new file, empty, at the moment of its CREATE
abbrev pub new_file : Body
new_file = Created (record {
  id = first_id;
  action = 2;
  info = record {
    file = 1;
    is_directory = false;
    size = 0;
    is_delete_pending = false;
    times = record {
      created = first_moment + 11;
      accessed = first_moment + 11;
      written = first_moment + 11;
      changed = first_moment + 11;
      attributes = 0x20;
    };
  };
  timeout = Some 60000;
  maximal = false;
  disk_id = false;
})

abbrev pub create_told : List ℕ
create_told =
    with_signature None (reply_header (heard_as 5 4) 0 first_id 1 1) (reply_body [] create_asked (success_of 1 new_file))

-- ---- TREE_CONNECT where the session is only signed

abbrev pub signed_session : Server
signed_session = record nothing_yet {
  share = share_name;
  present = λ x. x == first_id;
  sessions = 1;
  connections = 0 ∷ [];
  session_on = λ k. Some first_id;
  next_tree = λ x. 1;
}

abbrev pub signed_end : ServerEnd
signed_end = record greeted_by {
  window = record { held = 3 ∷ []; next = 0xffff_ffff_ffff_fffe };
  keys = Some (record no_keys { signing = record { key = worked.tree_key; algorithm = 1 }; session = first_id });
  channel = 1;
}

abbrev pub signed_tree_heard : ConnectionStep
signed_tree_heard = connection_step nobody 0 5 [] signed_session no_logons signed_end worked.signed_tree_asked
