-- Which sessions a SESSION_SETUP names, from its header on (MS-SMB2 2.2.5), and what a dialog's last one does.
use Rattle.std.specs.Prelude.{◌≡◌, ℕ, true, false, List, [], ◌∷◌, ◌++◌}
use Rattle.spec_wire.specs.messages.Places.{number_of, le}
use Rattle.spec_wire.specs.messages.SessionSetup.{session_setup_request_in}
use Rattle.spec_exchange.specs.Commands.{has_bit}
use Rattle.spec_exchange.specs.Client.{Client, SaidSecond}
use Rattle.spec_world.specs.Settings.{WorldSettings}
use Rattle.spec_world.specs.Messages.{header_in}
use Rattle.spec_hostile.specs.RepeatRuns.{RepeatEvent, is_heard}
use Rattle.spec_hostile.specs.HostileNetwork.{repeated}

-- it asks for a session, and binds to none
pub record AsksSession (m : List ℕ) : Type 0 where
  pub command : (header_in m).command ≡ 1
  pub flags : has_bit (session_setup_request_in m).flags 1 ≡ false

-- SessionId and PreviousSessionId
abbrev pub session_named : List ℕ → ℕ
session_named m = (header_in m).session

abbrev pub previous_named : List ℕ → ℕ
previous_named m = (session_setup_request_in m).previous_session_id

-- it asks for this session, and for the end of the one before it
pub record NamesSession (m : List ℕ) (session previous : ℕ) : Type 0 where
  pub asks : AsksSession m
  pub session_ : session_named m ≡ number_of (le 8 session)
  pub previous_ : previous_named m ≡ number_of (le 8 previous)

-- the last of a dialog's messages does so
pub record LastNames (c : Client) (texts : List (List ℕ)) : Type 0 where
  pub front : List (List ℕ)
  pub last : List ℕ
  pub texts_are : texts ≡ front ++ last ∷ []
  pub named : NamesSession last c.pending c.accepted

-- of a dialog that waits for its session's final response: the session that the client waits for, and the one that it accepted last
abbrev pub DialogsNameSessions : Type 0
DialogsNameSessions =
    (z : WorldSettings) (es : List RepeatEvent) (k : ℕ) → is_heard (repeated z es).world k ≡ true
    → ((repeated z es).world.wires k).client_end.stage ≡ SaidSecond false
    → LastNames (repeated z es).world.values.client ((repeated z es).world.wires k).client_end.transcript
