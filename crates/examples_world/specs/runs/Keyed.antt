-- An end of a connection with keys: what is signed, sealed and bound, and related messages of a session.
use Rattle.std.specs.Prelude.{ℕ, ◌==◌, Bool, true, false, if◌then◌else◌, List, [], ◌∷◌, ◌++◌, take, drop, replicate, Option, Some}
use Rattle.spec_wire.specs.messages.Bare.{bare_spelling}
use Rattle.spec_exchange.specs.Commands.{TreeConnect, Setup, SetupRequest, Bad}
use Rattle.spec_exchange.specs.State.{Server}
use Rattle.spec_exchange.specs.Fold.{nothing_yet}
use Rattle.spec_commands.specs.BodyOf.{body_of}
use Rattle.spec_crypto.specs.sessions.Sealing.{protocol, sealed}
use Rattle.spec_crypto.specs.declared.sessions.material.Signer.{Signer}
use Rattle.spec_world.specs.Messages.{message_spelling, heard_in}
use Rattle.spec_world.specs.Ends.{ClientEnd, ServerEnd, Logons, no_logons, no_keys, nonce_at}
use Rattle.spec_world.specs.Hearing.{Checked}
use Rattle.spec_world.specs.Logon.{staying_signer}
use Rattle.spec_world.specs.Connection.{Going, went_all, beginning}
use Rattle.spec_world.specs.World.{channel_bound}
use Rattle.spec_world.specs.Events.{bytes_start}
use Rattle.examples_world.specs.runs.Ends.{greeted_end, nobody, header_of, echo_header, echo, checked}
use Rattle.examples_world.specs.connections.Parts.{some_keys, some_settings}

-- ---- related messages, signed as owed: session 9 is on connection 0

abbrev pub one_session : Server
one_session = record nothing_yet {
  share = 100 ∷ [];
  present = λ x. x == 9;
  sessions = 1;
  connections = 0 ∷ [];
  session_on = λ k. Some 9;
  next_tree = λ x. 1;
}

-- a TREE_CONNECT to the share of these bytes, and behind it a TREE_DISCONNECT that names neither session nor tree
abbrev pub two_trees : List ℕ → List Checked
two_trees share =
    checked (record (header_of 3 1 0 0) { session = 9 }) (body_of (TreeConnect share)) false
    ∷ checked (record (header_of 4 2 4 0) { session = 0xffff_ffff_ffff_ffff; tree = 0xffff_ffff }) bare_spelling true ∷ []

abbrev pub go_in_session : List Checked → Going
go_in_session cs = went_all nobody 0 5 [] greeted_end (beginning one_session no_logons greeted_end) cs

-- ---- keys

abbrev pub keyed_end : Bool → ServerEnd
keyed_end encrypts = record greeted_end { keys = Some some_keys; encrypts = encrypts; channel = 1 }

-- an ECHO that is to be signed, and signed, and its response: AES-CMAC, by OpenSSL
abbrev pub flagged_echo : List ℕ
flagged_echo = message_spelling (echo_header 1 8 0) bare_spelling

abbrev pub echo_signature : List ℕ
echo_signature = 243 ∷ 104 ∷ 39 ∷ 191 ∷ 220 ∷ 219 ∷ 39 ∷ 63 ∷ 94 ∷ 247 ∷ 79 ∷ 231 ∷ 116 ∷ 161 ∷ 135 ∷ 219 ∷ []

abbrev pub signed_echo : List ℕ
signed_echo = take 48 flagged_echo ++ (echo_signature ++ drop 64 flagged_echo)

abbrev pub reply_signature : List ℕ
reply_signature = 190 ∷ 210 ∷ 106 ∷ 76 ∷ 222 ∷ 252 ∷ 82 ∷ 59 ∷ 121 ∷ 10 ∷ 178 ∷ 168 ∷ 173 ∷ 206 ∷ 194 ∷ 90 ∷ []

abbrev pub signed_reply : List ℕ
signed_reply =
    take 48 (message_spelling (echo_header 1 9 0) bare_spelling)
    ++ (reply_signature ++ drop 64 (message_spelling (echo_header 1 9 0) bare_spelling))

-- what answers an ECHO that isn't protected as owed: a header without a signature, and the error response
abbrev pub unsigned_refusal : List ℕ
unsigned_refusal =
    254 ∷ 83 ∷ 77 ∷ 66 ∷ 64 ∷ 0 ∷ 1 ∷ 0 ∷ 34 ∷ 0 ∷ 0 ∷ 192 ∷ 13 ∷ 0 ∷ 1 ∷ 0 ∷ 1 ∷ 0 ∷ 0 ∷ 0 ∷ 0 ∷ 0 ∷ 0 ∷ 0
    ∷ 1 ∷ (replicate 15 0 ++ 9 ∷ (replicate 23 0 ++ 9 ∷ replicate 8 0))

-- an ECHO that is sealed, and its response, sealed under the first nonce of the channel
abbrev pub sealed_echo : List ℕ
sealed_echo = sealed some_keys true (nonce_at 1 0) (echo 1 0)

abbrev pub sealed_reply : List ℕ
sealed_reply = sealed some_keys false (nonce_at 1 0) (message_spelling (echo_header 1 1 0) bare_spelling)

-- the response to a probe, which nobody signs
abbrev pub probe_reply : List ℕ
probe_reply = message_spelling (header_of 13 1 1 0) bare_spelling

-- a transform header of session 9 and of these Flags, and nothing sealed behind it; its tag: AES-128-GCM, by OpenSSL
abbrev pub flagged_transform : ℕ → List ℕ → List ℕ
flagged_transform flags tag = protocol ++ (tag ++ (replicate 22 0 ++ (flags ∷ 0 ∷ 9 ∷ replicate 7 0)))

abbrev pub tag_of_0 : List ℕ
tag_of_0 = 31 ∷ 20 ∷ 61 ∷ 221 ∷ 46 ∷ 231 ∷ 106 ∷ 19 ∷ 101 ∷ 20 ∷ 79 ∷ 176 ∷ 114 ∷ 146 ∷ 163 ∷ 10 ∷ []

abbrev pub tag_of_1 : List ℕ
tag_of_1 = 111 ∷ 56 ∷ 211 ∷ 18 ∷ 88 ∷ 211 ∷ 102 ∷ 163 ∷ 220 ∷ 77 ∷ 160 ∷ 75 ∷ 209 ∷ 126 ∷ 174 ∷ 126 ∷ []

abbrev pub tag_of_2 : List ℕ
tag_of_2 = 255 ∷ 77 ∷ 224 ∷ 67 ∷ 194 ∷ 143 ∷ 115 ∷ 114 ∷ 23 ∷ 167 ∷ 144 ∷ 71 ∷ 53 ∷ 74 ∷ 185 ∷ 226 ∷ []

-- ---- a binding to session 9

abbrev pub keyed_logons : Logons
keyed_logons = record no_logons { keys = λ x. if x == 9 then some_keys else no_keys }

abbrev pub binding : Checked
binding = checked (record (header_of 1 1 8 0) { session = 9 }) bare_spelling false

-- of another algorithm than the session's, which has AES-CMAC
abbrev pub bound_request : Bool → Bool → SetupRequest
bound_request signed verified = record {
  readable = true;
  binding = true;
  signed = signed;
  verified = verified;
  previous = 0;
  cipher = 0;
  signing = 2;
  shows = Bad;
}

-- a connection whose session has another key
abbrev pub other_signer : Signer
other_signer = record { key = replicate 16 4; algorithm = 1 }

abbrev pub other_end : ServerEnd
other_end = record greeted_end { keys = Some (record some_keys { signing = other_signer }); channel = 1 }

-- who signs its refusal of this status there, where session 9 is live
abbrev pub refused_by : Bool → Bool → ℕ → Option Signer
refused_by signed verified status =
    staying_signer one_session keyed_logons other_end binding (Setup (bound_request signed verified)) status

-- the client's end behind the binding of a second channel
abbrev pub bound_second : ClientEnd
bound_second = ((channel_bound (record (bytes_start some_settings) { numbers = 1 }) 0 (heard_in binding.raw)).wires 0).client_end
