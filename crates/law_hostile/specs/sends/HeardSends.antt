-- What the server's ends hear of a repeat run in which nothing is forged, and what the client's lines take there, as values.
use Rattle.std.specs.Prelude.{◌≡◌, ℕ, true, false, List, Some, None, slice_get}
use Rattle.spec_exchange.specs.Client.{Apart}
use Rattle.spec_exchange.specs.Network.{Token, ForDialog}
use Rattle.spec_world.specs.Settings.{WorldSettings}
use Rattle.spec_world.specs.Messages.{HeardMessage}
use Rattle.spec_world.specs.Ends.{Logons}
use Rattle.spec_world.specs.Hearing.{Checked, Frame, is_negotiate, is_setup, is_probe}
use Rattle.spec_world.specs.Connection.{heard_message}
use Rattle.spec_world.specs.Dialog.{line_response}
use Rattle.spec_hostile.specs.RepeatRuns.{RepeatEvent, Give, UpFrame, DownFrame, is_heard, repeat_start}
use Rattle.spec_hostile.specs.SignedFor.{watching}
use Rattle.spec_hostile.specs.HostileNetwork.{SignsAlone, IsBounded, repeated}
use Rattle.law_hostile.specs.unforged.Unforged.{AllSigned, EventSigned}
use Rattle.law_hostile.specs.placed.Placed.{GivesMessage, watched_to}
use Rattle.law_hostile.specs.dialogs.OwnDialogs.{goes_on_line}
use Rattle.law_hostile.specs.replied.Awaited.{AnswersAwaited}
use Rattle.law_hostile.specs.sends.OwnSends.{WasSent}

-- it was put on this connection for its present opening, the model's client sent it there on a line, and it is heard as just that message
pub record IsHeardSend (z : WorldSettings) (es : List RepeatEvent) (L : Logons) (k : ℕ) (x : Frame) (c : Checked) : Type 0 where
  pub index : ℕ
  pub put : UpFrame
  pub at : slice_get (repeated z es).ups index ≡ Some put
  pub frame : put.frame ≡ c.raw
  pub connection : put.connection ≡ k
  pub opening : put.opening ≡ (repeated z es).openings k
  pub sent : WasSent z es put
  pub line : goes_on_line put.sent.token put.sent.message.command ≡ true
  pub heard : heard_message z.server L k x.server_end c ≡ Some put.sent.message

-- of each message that a server's end hears, unsealed and without a fault, but a NEGOTIATE, a SESSION_SETUP and an ECHO of SessionId 0
abbrev pub HeardWasSent : Type 0
HeardWasSent =
    (z : WorldSettings) (es : List RepeatEvent) (k place : ℕ) (c : Checked) (L : Logons) → SignsAlone z → IsBounded z es
    → AllSigned z es (watching (repeat_start z)) → EventSigned z (watched_to z es) (Give k true place)
    → (g : GivesMessage (watched_to z es) k place c) → c.fault ≡ None → is_negotiate c.header ≡ false → is_setup c.header ≡ false
    → is_probe c.header c.raw ≡ false → IsHeardSend z es L k g.frame c

-- It answers the request of a line that the client awaits there under its id, and the model's client sent that request.
pub record AnswersSend (z : WorldSettings) (es : List RepeatEvent) (k : ℕ) (m : List ℕ) (n : ℕ) (t : Token) : Type 0 where
  pub answers : AnswersAwaited z es k m n t
  pub sent : (let own = answers.own in WasSent z es own.put)

-- of each reply that a line takes for an operation
abbrev pub TakenAnswersSend : Type 0
TakenAnswersSend =
    (z : WorldSettings) (es : List RepeatEvent) (k place : ℕ) (d : DownFrame) (y : HeardMessage) (token : Token) → SignsAlone z
    → IsBounded z es → AllSigned z es (watching (repeat_start z)) → EventSigned z (watched_to z es) (Give k false place)
    → slice_get (watched_to z es).repeating.downs place ≡ Some d → is_heard (watched_to z es).repeating.world k ≡ true
    → ((watched_to z es).repeating.world.wires k).client_end.stage ≡ Apart
    → line_response ((watched_to z es).repeating.world.wires k).client_end d.frame ≡ Some y
    → ((watched_to z es).repeating.world.wires k).client_end.awaited y.header.message ≡ Some token → (token ≡ ForDialog → ⊥)
    → AnswersSend z es k d.frame y.header.message token
