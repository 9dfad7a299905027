-- As what a server's end hears the client's requests of a repeat run.
use Rattle.std.specs.Prelude.{◌≡◌, ℕ, ◌<◌, ◌^◌, true, false, List, [], ◌∷◌, Some, None, Ok, slice_get}
use Rattle.spec_exchange.specs.Commands.{Command, TreeConnect}
use Rattle.spec_exchange.specs.State.{Message}
use Rattle.spec_exchange.specs.Operations.{Op, keeps_limits, is_create, request_of, reconnect_of}
use Rattle.spec_world.specs.Settings.{WorldSettings}
use Rattle.spec_world.specs.Ends.{ServerEnd, Logons, client_on}
use Rattle.spec_world.specs.Hearing.{Checked, Frame, check_frame, begins_sealed, is_negotiate, is_setup, is_probe}
use Rattle.spec_world.specs.Connection.{heard_message}
use Rattle.spec_hostile.specs.RepeatRuns.{RepeatWorld, RepeatEvent, Give, UpFrame}
use Rattle.spec_hostile.specs.HostileNetwork.{repeated}
use Rattle.law_ties.specs.wire_facts.Fitting.{IsFitting}
use Rattle.law_hostile.specs.unforged.Unforged.{EventSigned}
use Rattle.law_hostile.specs.placed.Placed.{GivesMessage, watched_to}

-- It is an operation's, which keeps its limits, or attaches its open, or it connects to the settings' share. Its numbers fit their fields.
pub data FitsCommand (z : WorldSettings) (c : Command) : Type 0 where
  OfOperation : (op : Op) (guid file slot number : ℕ) → c ≡ request_of op guid file slot number → keeps_limits op ≡ true
      → guid < 256 ^ 16 → file < 256 ^ 8 → slot < 256 ^ 3 → number < 16 → FitsCommand z c
  OfAttach : (op : Op) (guid file : ℕ) → c ≡ reconnect_of op guid file → keeps_limits op ≡ true → is_create op ≡ true
      → guid < 256 ^ 16 → file < 256 ^ 8 → FitsCommand z c
  OfTree : c ≡ TreeConnect z.share → FitsCommand z c

pub record FitsRequest (z : WorldSettings) (m : Message) : Type 0 where
  pub sequence : m.channel_sequence < 256 ^ 2
  pub session : m.session_id < 256 ^ 8
  pub tree : m.tree_id < 256 ^ 4
  pub command : FitsCommand z m.command

-- The frame is one message. It is heard as this one, but for the connection that it came on, whose client it is of, and what fault it was
-- found to have.
pub record IsHeardAs (z : WorldSettings) (L : Logons) (k : ℕ) (frame : List ℕ) (x : Frame) (m : Message) : Type 0 where
  pub checked : Checked
  pub messages : x.messages ≡ checked ∷ []
  pub raw : checked.raw ≡ frame
  pub heard :
      heard_message z.server L k x.server_end checked
      ≡ Some (record m { connection = k; client_guid = client_on x.server_end.greeting; fault = checked.fault })

-- at whichever end it is given to
abbrev pub RequestsAreHeardAsMeant : Type 0
RequestsAreHeardAsMeant =
    (z : WorldSettings) (es : List RepeatEvent) (i k : ℕ) (u : UpFrame) (L : Logons) (f : ServerEnd) (x : Frame) → IsFitting z
    → slice_get (repeated z es).ups i ≡ Some u → begins_sealed u.frame ≡ false → FitsRequest z u.sent.message
    → check_frame f u.frame ≡ Ok x → IsHeardAs z L k u.frame x u.sent.message

-- what was put on this connection for its present opening, where its numbers fit, is heard as it was meant, from the client on it
pub record IsHeardOwn (z : WorldSettings) (r : RepeatWorld) (L : Logons) (k : ℕ) (x : Frame) (c : Checked) : Type 0 where
  pub index : ℕ
  pub put : UpFrame
  pub at : slice_get r.ups index ≡ Some put
  pub frame : put.frame ≡ c.raw
  pub connection : put.connection ≡ k
  pub opening : put.opening ≡ r.openings k
  pub heard :
      FitsRequest z put.sent.message → heard_message z.server L k x.server_end c
      ≡ Some (record put.sent.message { client_guid = client_on x.server_end.greeting })

-- Where no message is forged at this event: what a server's end hears, unsealed and without a fault.
abbrev pub HeardIsMeant : Type 0
HeardIsMeant =
    (z : WorldSettings) (es : List RepeatEvent) (k place : ℕ) (c : Checked) (L : Logons) → IsFitting z
    → EventSigned z (watched_to z es) (Give k true place) → (g : GivesMessage (watched_to z es) k place c) → c.fault ≡ None
    → is_negotiate c.header ≡ false → is_setup c.header ≡ false → is_probe c.header c.raw ≡ false
    → IsHeardOwn z (watched_to z es).repeating L k g.frame c
