-- What the server's replies answer in a repeat run where nothing is sealed.
use Rattle.std.specs.Prelude.{◌≡◌, ℕ, ◌⊎◌, true, false, List, [], ◌∷◌, ◌++◌, take, Some, None, Ok, slice_get}
use Rattle.spec_exchange.specs.State.{Message}
use Rattle.spec_exchange.specs.Network.{answer_to}
use Rattle.spec_world.specs.Settings.{WorldSettings, draw}
use Rattle.spec_world.specs.Answering.{SaidReply, said_text}
use Rattle.spec_world.specs.Connection.{heard_message, said_to}
use Rattle.spec_world.specs.Hearing.{Checked, Frame, check_frame}
use Rattle.spec_world.specs.World.{World}
use Rattle.spec_hostile.specs.RepeatRuns.{RepeatEvent, Give, UpFrame, is_served}
use Rattle.spec_hostile.specs.SignedFor.{Watched, SignedEntry, InSession, opening_of}
use Rattle.spec_hostile.specs.HostileNetwork.{SignsAlone}
use Rattle.law_hostile.specs.placed.Placed.{watched_to}

-- what an end says to this message, of this frame
abbrev pub answer_said : WorldSettings → World → ℕ → Frame → Checked → Message → SaidReply
answer_said z w k x c m =
    said_to z.server k w.values.moment (take 8 (draw z.seed w.draws)) x.server_end w.logons x.server_end.window c m.command
    (answer_to w.values.server w.values.moment m m.command)

-- The end of connection k is given the frame at this place, which is one message, heard without a fault: the entry is the reply to it,
-- for this opening of the connection or for the session that it names.
pub record IsAnswer (z : WorldSettings) (t : Watched) (k place : ℕ) (e : SignedEntry) : Type 0 where
  pub put : UpFrame
  pub at : slice_get t.repeating.ups place ≡ Some put
  pub served : is_served t.repeating.world k ≡ true
  pub frame : Frame
  pub checks : check_frame (t.repeating.world.wires k).server_end put.frame ≡ Ok frame
  pub checked : Checked
  pub alone : frame.messages ≡ checked ∷ []
  pub fine : checked.fault ≡ None
  pub message : Message
  pub heard : heard_message z.server t.repeating.world.logons k frame.server_end checked ≡ Some message
  pub text : e.message ≡ said_text false false (answer_said z t.repeating.world k frame checked message)
  pub place_is : (e.place ≡ opening_of t.repeating k) ⊎ (e.place ≡ InSession checked.header.session)

-- at some event of the run
pub record WasAnswered (z : WorldSettings) (es : List RepeatEvent) (e : SignedEntry) : Type 0 where
  pub before : List RepeatEvent
  pub k : ℕ
  pub place : ℕ
  pub after : List RepeatEvent
  pub run : es ≡ before ++ Give k true place ∷ after
  pub answer : IsAnswer z (watched_to z before) k place e

-- each reply that the server signed
abbrev pub SignedRepliesAnswer : Type 0
SignedRepliesAnswer =
    (z : WorldSettings) (es : List RepeatEvent) (i : ℕ) (e : SignedEntry) → SignsAlone z → slice_get (watched_to z es).signed i ≡ Some e
    → e.to_server ≡ false → WasAnswered z es e
