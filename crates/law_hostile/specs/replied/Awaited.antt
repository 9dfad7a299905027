-- Whose request a reply answers that a client's line takes for an operation, in a repeat run where nothing is sealed.
use Rattle.std.specs.Prelude.{◌≡◌, ℕ, true, false, List, Some, slice_get}
use Rattle.spec_exchange.specs.Client.{Apart}
use Rattle.spec_exchange.specs.Network.{Token, ForDialog}
use Rattle.spec_world.specs.Settings.{WorldSettings}
use Rattle.spec_world.specs.Messages.{HeardMessage}
use Rattle.spec_world.specs.Dialog.{line_response}
use Rattle.spec_hostile.specs.RepeatRuns.{RepeatWorld, RepeatEvent, Give, UpFrame, DownFrame, is_heard, repeat_start}
use Rattle.spec_hostile.specs.SignedFor.{SignedEntry, watching}
use Rattle.spec_hostile.specs.HostileNetwork.{SignsAlone}
use Rattle.law_ties.specs.wire_facts.Fitting.{IsFitting}
use Rattle.law_hostile.specs.unforged.Unforged.{AllSigned, EventSigned}
use Rattle.law_hostile.specs.placed.Placed.{watched_to}
use Rattle.law_hostile.specs.dialogs.OwnDialogs.{goes_on_line}
use Rattle.law_hostile.specs.meant.Heard.{FitsRequest}
use Rattle.law_hostile.specs.replied.Replies.{WasAnswered}
use Rattle.law_hostile.specs.replied.Told.{AnswersPut}

-- the numbers of each request of a line that was put up fit their fields
abbrev pub LinesFit : WorldSettings → RepeatWorld → Type 0
LinesFit z r =
    (i : ℕ) (u : UpFrame) → slice_get r.ups i ≡ Some u → goes_on_line u.sent.token u.sent.message.command ≡ true → FitsRequest z u.sent.message

-- These bytes answer, at an earlier event and in the present opening of this connection, the request that the client put up on it for this
-- opening, under this id, for this token.
pub record AnswersAwaited (z : WorldSettings) (es : List RepeatEvent) (k : ℕ) (m : List ℕ) (n : ℕ) (t : Token) : Type 0 where
  pub entry : SignedEntry
  pub text : entry.message ≡ m
  pub answered : WasAnswered z es entry
  pub here : answered.k ≡ k
  pub opening : (watched_to z answered.before).repeating.openings answered.k ≡ (watched_to z es).repeating.openings k
  pub own : AnswersPut z es entry answered
  pub id : own.put.sent.message.message_id ≡ n
  pub token : own.put.sent.token ≡ t

-- where no message of the run is forged, and none at this event, and an operation's request of the reply's id is awaited
abbrev pub TakenRepliesAreAwaited : Type 0
TakenRepliesAreAwaited =
    (z : WorldSettings) (es : List RepeatEvent) (k place : ℕ) (d : DownFrame) (y : HeardMessage) (token : Token) → IsFitting z → SignsAlone z
    → AllSigned z es (watching (repeat_start z)) → EventSigned z (watched_to z es) (Give k false place)
    → LinesFit z (watched_to z es).repeating → slice_get (watched_to z es).repeating.downs place ≡ Some d
    → is_heard (watched_to z es).repeating.world k ≡ true → ((watched_to z es).repeating.world.wires k).client_end.stage ≡ Apart
    → line_response ((watched_to z es).repeating.world.wires k).client_end d.frame ≡ Some y
    → ((watched_to z es).repeating.world.wires k).client_end.awaited y.header.message ≡ Some token → (token ≡ ForDialog → ⊥)
    → AnswersAwaited z es k d.frame y.header.message token
