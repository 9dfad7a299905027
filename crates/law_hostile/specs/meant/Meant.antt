-- What each frame of the client asks for in a repeat run.
use Rattle.std.specs.Prelude.{◌≡◌, ℕ, ◌<◌, ◌^◌, true, false, List, length, take, Some, None, slice_get}
use Rattle.spec_exchange.specs.Status.{success}
use Rattle.spec_exchange.specs.Commands.{Command, Aside, Setup, SetupRequest, Read, Write, ListDirectory, QueryFile}
use Rattle.spec_exchange.specs.State.{Message}
use Rattle.spec_exchange.specs.Operations.{charge}
use Rattle.spec_crypto.specs.declared.sessions.material.Signer.{Signer}
use Rattle.spec_crypto.specs.sessions.Signing.{signed}
use Rattle.spec_world.specs.Settings.{WorldSettings, draw}
use Rattle.spec_world.specs.Ends.{ClientEnd}
use Rattle.spec_world.specs.Hearing.{begins_sealed}
use Rattle.spec_crypto.specs.tokens.Tokens.{first_token}
use Rattle.spec_world.specs.Sending.{greeting_text, setup_frame, request_text, answer_of, or_no_token}
use Rattle.spec_hostile.specs.RepeatRuns.{RepeatEvent, UpFrame}
use Rattle.spec_hostile.specs.HostileNetwork.{repeated}

-- how many bytes a request sends or asks for, which its charge counts (MS-SMB2 3.1.5.2)
abbrev pub bytes_moved : Command → ℕ
bytes_moved (Write file at bytes channel) = length bytes
bytes_moved (Read file at size minimum channel) = size
bytes_moved (QueryFile file class room) = room
bytes_moved (ListDirectory file class restart single pattern room) = room
bytes_moved _ = 0

-- the first token of a logon, or the client's answer to a challenge, or no byte where that has no answer
pub data IsOwnToken (z : WorldSettings) (token : List ℕ) : Type 0 where
  BeginsLogon : token ≡ first_token → IsOwnToken z token
  AnswersChallenge : (n : ClientEnd) (challenge : List ℕ) → token ≡ or_no_token (answer_of z.client n challenge) → IsOwnToken z token

-- These bytes are this value's request: its header has the value's sequence, id, session and tree, its body what the command asks.
-- NEGOTIATE has the salt that was drawn, and SESSION_SETUP is of the sequence 0, has a token of the client's own logon and is signed in a
-- binding. Any other request is signed.
pub data IsMeant (z : WorldSettings) (frame : List ℕ) (m : Message) : Type 0 where
  AsksNegotiate : (n : ℕ) → m.command ≡ Aside success → frame ≡ greeting_text z.client (take 32 (draw z.seed n)) m → IsMeant z frame m
  AsksSetup : (n : ClientEnd) (r : SetupRequest) (token : List ℕ) → m.command ≡ Setup r → m.channel_sequence ≡ 0 → IsOwnToken z token
      → frame ≡ setup_frame n r.binding r.previous token m → IsMeant z frame m
  AsksLine : (s : Signer) → frame ≡ signed s (request_text m (charge (bytes_moved m.command)) true) → IsMeant z frame m

-- of the connection on which it was put, and without a fault
pub record IsOwnRequest (z : WorldSettings) (u : UpFrame) : Type 0 where
  pub connection : u.sent.message.connection ≡ u.connection
  pub fault : u.sent.message.fault ≡ None
  pub id_fits : u.sent.message.message_id < 2 ^ 64
  pub meant : IsMeant z u.frame u.sent.message

-- each frame that isn't sealed
abbrev pub OwnRequestsAreMeant : Type 0
OwnRequestsAreMeant =
    (z : WorldSettings) (es : List RepeatEvent) (i : ℕ) (u : UpFrame) → slice_get (repeated z es).ups i ≡ Some u
    → begins_sealed u.frame ≡ false → IsOwnRequest z u
