-- A connection's end that takes frames of several messages, without ciphers.
use Rattle.std.specs.Prelude.{ℕ, Bool, true, false, List, [], ◌∷◌, ◌++◌, map, replicate, Option, Some, None, Result, Ok, Err}
use Rattle.spec_wire.specs.messages.Bare.{bare_spelling}
use Rattle.spec_wire.specs.messages.SessionSetup.{session_setup_request_spelling}
use Rattle.spec_wire.specs.declared.messages.header.Header.{Header}
use Rattle.spec_exchange.specs.Fold.{nothing_yet}
use Rattle.spec_wire.specs.credits.Ids.{ids_from}
use Rattle.spec_world.specs.Settings.{ServerSettings}
use Rattle.spec_world.specs.Messages.{message_spelling, unsigned_field}
use Rattle.spec_world.specs.Ends.{ServerEnd, ConnEnd, no_logons, no_choice, first_server_end}
use Rattle.spec_world.specs.Hearing.{Checked, Frame}
use Rattle.spec_world.specs.Answering.{SaidReply}
use Rattle.spec_world.specs.Connection.{ConnectionStep, connection_step, Going, went_all, beginning}

-- ---- an end behind a NEGOTIATE, which holds the ids 1 to 8

abbrev pub greeted_end : ServerEnd
greeted_end = record (first_server_end []) {
  window = record { held = ids_from 1 8; next = 9 };
  asked = true;
  greeting = Some (record { client = 7; chosen = no_choice; transcript = [] ∷ [] ∷ [] });
}

abbrev pub nobody : ServerSettings
nobody = record { users = record { list = []; bare = false }; guid = [] }

abbrev pub frame_step : ServerEnd → List ℕ → ConnectionStep
frame_step f frame = connection_step nobody 0 5 [] nothing_yet no_logons f frame

-- ---- messages

abbrev pub header_of : ℕ → ℕ → ℕ → ℕ → Header
header_of command id flags next = record {
  charge = 1;
  status = 0;
  command = command;
  credits = 1;
  flags = flags;
  next = next;
  message = id;
  tree = 0;
  session = 0;
  signature = unsigned_field;
}

-- of session 9, and one of none, by which a client asks whether the connection lives
abbrev pub echo_header : ℕ → ℕ → ℕ → Header
echo_header id flags next = record (header_of 13 id flags next) { session = 9 }

abbrev pub echo : ℕ → ℕ → List ℕ
echo id next = message_spelling (echo_header id 0 next) bare_spelling

abbrev pub probe : ℕ → ℕ → List ℕ
probe id next = message_spelling (header_of 13 id 0 next) bare_spelling

abbrev pub cancel : ℕ → List ℕ
cancel id = message_spelling (header_of 12 id 0 0) bare_spelling

-- two, the first padded to 72 bytes
abbrev pub two_echoes : List ℕ
two_echoes = echo 1 72 ++ (replicate 4 0 ++ echo 2 0)

-- a probe, and behind it a related ECHO of session 9
abbrev pub related_probe : List ℕ
related_probe = probe 1 72 ++ (replicate 4 0 ++ message_spelling (echo_header 2 4 0) bare_spelling)

-- an ECHO of session 9, which nobody signed, and behind it a probe
abbrev pub echo_and_probe : List ℕ
echo_and_probe = echo 1 72 ++ (replicate 4 0 ++ probe 2 0)

-- ---- what the connection finds in the messages of a frame

abbrev pub faults_of : Result Frame ConnEnd → List (Option ℕ)
faults_of (Err e) = []
faults_of (Ok x) = map (λ (c : Checked). c.fault) x.messages

-- a bare message of this header, padded to 72 bytes, and one behind it
abbrev pub in_front_of : Header → List ℕ → List ℕ
in_front_of h second = message_spelling (record h { next = 72 }) bare_spelling ++ (replicate 4 0 ++ second)

-- ---- related messages

abbrev pub checked : Header → List ℕ → Bool → Checked
checked h body related = record {
  header = h;
  raw = message_spelling h body;
  bytes = message_spelling h body;
  related = related;
  fault = None;
}

-- an ECHO in which the connection found this fault, and behind it a related one in which it found none
abbrev pub related_echoes : Option ℕ → List Checked
related_echoes fault =
    record (checked (header_of 13 1 0 0) bare_spelling false) { fault = fault } ∷ checked (header_of 13 2 4 0) bare_spelling true ∷ []

-- an ECHO that is a frame's first message, of these flags, in which the connection found this fault
abbrev pub first_echo : ℕ → Option ℕ → List Checked
first_echo flags fault = record (checked (header_of 13 1 flags 0) bare_spelling false) { fault = fault } ∷ []

abbrev pub statuses_of : List SaidReply → List ℕ
statuses_of [] = []
statuses_of (r ∷ rs) = r.header.status ∷ statuses_of rs

abbrev pub go_through : List Checked → Going
go_through cs = went_all nobody 0 5 [] greeted_end (beginning nothing_yet no_logons greeted_end) cs

-- a SESSION_SETUP of a session that isn't there, which is a frame's first message, of these flags
abbrev pub lone_setup : ℕ → List Checked
lone_setup flags =
    checked (record (header_of 1 1 flags 0) { session = 9 }) (session_setup_request_spelling (record {
      flags = 0;
      security_mode = 1;
      capabilities = 0;
      channel = 0;
      previous_session_id = 0;
      security = 1 ∷ [];
    })) false ∷ []
