-- What a client reads of a reply that answers a request of its own, in a repeat run where nothing is sealed.
use Rattle.std.specs.Prelude.{◌≡◌, ℕ, List, Some}
use Rattle.spec_exchange.specs.Commands.{Command}
use Rattle.spec_exchange.specs.State.{Reply}
use Rattle.spec_exchange.specs.Operations.{Op}
use Rattle.spec_exchange.specs.Network.{Token, answer_to}
use Rattle.spec_world.specs.Settings.{WorldSettings}
use Rattle.spec_world.specs.Messages.{HeardMessage}
use Rattle.spec_world.specs.Hearing.{Checked}
use Rattle.spec_world.specs.Dialog.{response_in}
use Rattle.spec_hostile.specs.RepeatRuns.{RepeatEvent}
use Rattle.spec_hostile.specs.SignedFor.{SignedEntry}
use Rattle.spec_hostile.specs.HostileNetwork.{SignsAlone}
use Rattle.law_ties.specs.wire_facts.Fitting.{IsFitting}
use Rattle.law_ties.specs.events.Fronts.{TellsReply, TellsBody}
use Rattle.law_ties.specs.requests.Lines.{ReplyFits, TellsToken}
use Rattle.law_hostile.specs.placed.Placed.{watched_to}
use Rattle.law_hostile.specs.meant.Heard.{FitsRequest, IsHeardOwn}
use Rattle.law_hostile.specs.replied.Replies.{WasAnswered}

-- ---- what the server answered at that event

abbrev pub command_answered : (z : WorldSettings) (es : List RepeatEvent) (e : SignedEntry) → WasAnswered z es e → Command
command_answered z es e a = let q = a.answer in let m = q.message in m.command

abbrev pub reply_given : (z : WorldSettings) (es : List RepeatEvent) (e : SignedEntry) → WasAnswered z es e → Reply
reply_given z es e a =
    let v = (watched_to z a.before).repeating.world.values in
    let q = a.answer in
    (answer_to v.server v.moment q.message (command_answered z es e a)).reply

-- ---- what is read of it

-- It has the request's id, and the reply's status, session and tree. To an operation's own request it tells the value that it settles with
-- and its open, where a success has its operation's body and a refusal none.
pub record TellsGiven (z : WorldSettings) (y : HeardMessage) (c : Checked) (command : Command) (r : Reply) : Type 0 where
  pub id : y.header.message ≡ c.header.message
  pub same : TellsReply y r
  pub body : (op : ℕ → Op) (t : Token) → TellsToken z op t command r → TellsBody op y r t

-- it answers what the client put up on that connection for that opening
abbrev pub AnswersPut : (z : WorldSettings) (es : List RepeatEvent) (e : SignedEntry) → WasAnswered z es e → Type 0
AnswersPut z es e a =
    let t = watched_to z a.before in
    let q = a.answer in
    IsHeardOwn z t.repeating t.repeating.world.logons a.k q.frame q.checked

-- of a signed reply whose numbers fit their fields, as the request's do
abbrev pub SignedRepliesTell : Type 0
SignedRepliesTell =
    (z : WorldSettings) (es : List RepeatEvent) (e : SignedEntry) (y : HeardMessage) → IsFitting z → SignsAlone z
    → response_in (Some e.message) ≡ Some y → (a : WasAnswered z es e) → (h : AnswersPut z es e a) → FitsRequest z h.put.sent.message
    → ReplyFits (command_answered z es e a) (reply_given z es e a)
    → (let q = a.answer in TellsGiven z y q.checked (command_answered z es e a) (reply_given z es e a))
