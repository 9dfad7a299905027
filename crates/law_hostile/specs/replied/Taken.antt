-- What a reply answers that a client's line takes in a repeat run where nothing is sealed.
use Rattle.std.specs.Prelude.{◌≡◌, ℕ, ◌⊎◌, true, false, List, Some, slice_get}
use Rattle.spec_exchange.specs.Client.{Apart}
use Rattle.spec_world.specs.Settings.{WorldSettings}
use Rattle.spec_world.specs.Messages.{HeardMessage}
use Rattle.spec_world.specs.Dialog.{line_response}
use Rattle.spec_world.specs.Hearing.{Checked, is_negotiate, is_setup, is_probe}
use Rattle.spec_hostile.specs.RepeatRuns.{RepeatEvent, Give, DownFrame, is_heard, repeat_start}
use Rattle.spec_hostile.specs.SignedFor.{SignedEntry, watching}
use Rattle.spec_hostile.specs.HostileNetwork.{SignsAlone}
use Rattle.law_ties.specs.wire_facts.Fitting.{IsFitting}
use Rattle.law_hostile.specs.unforged.Unforged.{AllSigned, EventSigned}
use Rattle.law_hostile.specs.placed.Placed.{watched_to}
use Rattle.law_hostile.specs.meant.Heard.{IsHeardOwn}
use Rattle.law_hostile.specs.replied.Replies.{WasAnswered}

-- a NEGOTIATE, a SESSION_SETUP or an ECHO of SessionId 0
abbrev pub IsAside : Checked → Type 0
IsAside c = (is_negotiate c.header ≡ true) ⊎ (is_setup c.header ≡ true) ⊎ (is_probe c.header c.raw ≡ true)

-- These bytes answer, at an earlier event and in the present opening of this connection, a request that the client had put up on it for
-- this opening; or a NEGOTIATE, a SESSION_SETUP or an ECHO of SessionId 0.
pub record AnswersOwn (z : WorldSettings) (es : List RepeatEvent) (k : ℕ) (m : List ℕ) : Type 0 where
  pub entry : SignedEntry
  pub text : entry.message ≡ m
  pub answered : WasAnswered z es entry
  pub here : answered.k ≡ k
  pub opening : (watched_to z answered.before).repeating.openings answered.k ≡ (watched_to z es).repeating.openings k
  pub own :
      IsAside answered.answer.checked
      ⊎ IsHeardOwn z (watched_to z answered.before).repeating (watched_to z answered.before).repeating.world.logons answered.k
      answered.answer.frame answered.answer.checked

-- where no message of the run is forged, and none at this event
abbrev pub TakenRepliesAnswerOwn : Type 0
TakenRepliesAnswerOwn =
    (z : WorldSettings) (es : List RepeatEvent) (k place : ℕ) (d : DownFrame) (y : HeardMessage) → IsFitting z → SignsAlone z
    → AllSigned z es (watching (repeat_start z)) → EventSigned z (watched_to z es) (Give k false place)
    → slice_get (watched_to z es).repeating.downs place ≡ Some d → is_heard (watched_to z es).repeating.world k ≡ true
    → ((watched_to z es).repeating.world.wires k).client_end.stage ≡ Apart
    → line_response ((watched_to z es).repeating.world.wires k).client_end d.frame ≡ Some y → AnswersOwn z es k d.frame
