-- What the response answers that ends a dialog of the client in a repeat run in which nothing is forged.
use Rattle.std.specs.Prelude.{◌≡◌, ℕ, true, false, List, Some, None, slice_get}
use Rattle.spec_exchange.specs.Status.{success}
use Rattle.spec_exchange.specs.Client.{AskedTree}
use Rattle.spec_exchange.specs.Network.{ForDialog}
use Rattle.spec_commands.specs.BodyOf.{number_of_command}
use Rattle.spec_world.specs.Settings.{WorldSettings}
use Rattle.spec_world.specs.Messages.{HeardMessage}
use Rattle.spec_world.specs.Dialog.{dialog_response, dialog_fault}
use Rattle.spec_hostile.specs.RepeatRuns.{RepeatEvent, Give, DownFrame, is_heard, repeat_start}
use Rattle.spec_hostile.specs.SignedFor.{SignedEntry, watching}
use Rattle.spec_hostile.specs.HostileNetwork.{SignsAlone, IsBounded}
use Rattle.law_hostile.specs.unforged.Unforged.{AllSigned, EventSigned}
use Rattle.law_hostile.specs.placed.Placed.{watched_to}
use Rattle.law_hostile.specs.ids.OwnIds.{id_of_put}
use Rattle.law_hostile.specs.replied.Replies.{WasAnswered}
use Rattle.law_hostile.specs.sends.HeardSends.{IsHeardSend}

-- These bytes are the server's reply, at an earlier event and in the present opening of this connection, to the TREE_CONNECT of this id
-- that the model's client sent there for its dialog.
pub record AnswersTree (z : WorldSettings) (es : List RepeatEvent) (k : ℕ) (m : List ℕ) (n : ℕ) : Type 0 where
  pub entry : SignedEntry
  pub text : entry.message ≡ m
  pub answered : WasAnswered z es entry
  pub here : answered.k ≡ k
  pub opening : (watched_to z answered.before).repeating.openings answered.k ≡ (watched_to z es).repeating.openings k
  pub own :
      IsHeardSend z answered.before (watched_to z answered.before).repeating.world.logons answered.k answered.answer.frame
      answered.answer.checked
  pub id : id_of_put own.put ≡ n
  pub command : number_of_command own.put.sent.message.command ≡ 3
  pub token : own.put.sent.token ≡ ForDialog

-- of each response to a dialog's TREE_CONNECT that the client takes: it tells success, and has no fault
abbrev pub TakenTreesAnswerSend : Type 0
TakenTreesAnswerSend =
    (z : WorldSettings) (es : List RepeatEvent) (k place : ℕ) (d : DownFrame) (y : HeardMessage) → SignsAlone z → IsBounded z es
    → AllSigned z es (watching (repeat_start z)) → EventSigned z (watched_to z es) (Give k false place)
    → slice_get (watched_to z es).repeating.downs place ≡ Some d → is_heard (watched_to z es).repeating.world k ≡ true
    → ((watched_to z es).repeating.world.wires k).client_end.stage ≡ AskedTree
    → dialog_response ((watched_to z es).repeating.world.wires k).client_end AskedTree d.frame ≡ Some y → y.header.status ≡ success
    → dialog_fault z.client ((watched_to z es).repeating.world.wires k).client_end AskedTree y ≡ None
    → AnswersTree z es k d.frame y.header.message
