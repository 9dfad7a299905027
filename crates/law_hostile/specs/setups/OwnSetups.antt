-- What a server's end hears of the client's SESSION_SETUPs in a repeat run, whichever end they are given to.
use Rattle.std.specs.Prelude.{◌≡◌, ℕ, true, List, [], Some, Ok, slice_get}
use Rattle.spec_wire.specs.messages.Places.{number_of}
use Rattle.spec_exchange.specs.Commands.{Setup, SetupRequest}
use Rattle.spec_exchange.specs.State.{Message}
use Rattle.spec_world.specs.Settings.{WorldSettings, logon_of}
use Rattle.spec_world.specs.Ends.{Logons}
use Rattle.spec_world.specs.Hearing.{Checked, Frame, check_frame, is_setup}
use Rattle.spec_world.specs.Connection.{heard_message}
use Rattle.spec_hostile.specs.RepeatRuns.{RepeatEvent, UpFrame}
use Rattle.spec_hostile.specs.HostileNetwork.{repeated}
use Rattle.law_sessions.specs.sessions.Sessions.{logon_user}
use Rattle.law_ties.specs.wire_facts.Fitting.{IsFitting}
use Rattle.law_hostile.specs.loosely.LooseRuns.{shows_user}

-- a SESSION_SETUP of the sequence 0 and of the client's ClientGuid, which shows no logon but the client's user's
pub record IsOwnSetup (z : WorldSettings) (m : Message) : Type 0 where
  pub sequence : m.channel_sequence ≡ 0
  pub guid : m.client_guid ≡ number_of z.client.guid
  pub request : SetupRequest
  pub command : m.command ≡ Setup request
  pub user : shows_user (logon_user (logon_of z)) request.shows ≡ true

-- of each frame that was put up, whatever logon is in the making at that end
abbrev pub SetupsAreOwn : Type 0
SetupsAreOwn =
    (z : WorldSettings) (es : List RepeatEvent) (i k n : ℕ) (u : UpFrame) (L : Logons) (x : Frame) (c : Checked) (m : Message)
    → IsFitting z → z.client.ciphers ≡ [] → slice_get (repeated z es).ups i ≡ Some u
    → check_frame ((repeated z es).world.wires k).server_end u.frame ≡ Ok x → slice_get x.messages n ≡ Some c
    → is_setup c.header ≡ true → heard_message z.server L k x.server_end c ≡ Some m → IsOwnSetup z m
