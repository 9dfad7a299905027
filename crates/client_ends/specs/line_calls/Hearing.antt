-- What a line takes.
use Rattle.std.specs.Prelude.{◌≡◌, ℕ, Bool, true, false, List, Option, Some, None, Result, Ok, Err, ⊤}
use Rattle.spec_exchange.specs.Network.{Token, ForDialog, ForOp, ForAttach}
use Rattle.spec_crypto.specs.declared.sessions.error.SealError.{SealError}
use Rattle.spec_crypto.specs.declared.sessions.error.SealError.TheVariants as seals
use Rattle.spec_wire.specs.declared.messages.header.Header.{Header}
use Rattle.spec_world.specs.Ends.{ClientEnd}
use Rattle.spec_world.specs.Messages.{HeardMessage}
use Rattle.spec_world.specs.Dialog.{if_response, is_dialogs, paid_in, response_in}
use Rattle.client_ends.specs.declared.ends.line.Line.{Line}
use Rattle.client_ends.specs.declared.ends.line.LineError.{LineError}
use Rattle.client_ends.specs.declared.ends.line.LineError.TheVariants.{Memory, NoCredit, Spent, BadReply}
use Rattle.client_ends.specs.ends.Shown.{ShowsLine, token_of}
use Rattle.client_ends.specs.declared.line_calls.incoming.Answer.{Answer}

-- the text that is due, or there is none with a header; memory may be missing
abbrev pub Texts : Option (List ℕ) → Result (List ℕ) LineError → Type 0
Texts due (Ok text) = due ≡ Some text
Texts due (Err BadReply) = response_in due ≡ None
Texts due (Err Memory) = ⊤
Texts due (Err (NoCredit held)) = ⊥
Texts due (Err Spent) = ⊥

-- why a frame isn't opened
abbrev pub IsUnsealed : SealError → LineError → Type 0
IsUnsealed seals.Memory e = e ≡ Memory
IsUnsealed seals.NotSealed e = e ≡ BadReply
IsUnsealed (seals.BadSize size) e = e ≡ BadReply
IsUnsealed (seals.OtherSession session) e = e ≡ BadReply
IsUnsealed seals.BadTag e = e ≡ BadReply

-- no request of an operation waits
abbrev pub IsLineOther : Option Token → Type 0
IsLineOther None = ⊤
IsLineOther (Some ForDialog) = ⊤
IsLineOther (Some (ForOp g)) = ⊥
IsLineOther (Some (ForAttach g)) = ⊥

-- nor does one, where a message is no response
abbrev pub LineUnanswered : Bool → Option Token → Type 0
LineUnanswered false o = ⊤
LineUnanswered true o = IsLineOther o

-- a request of an operation waits for this header, which is told with its token
abbrev pub Waits : ClientEnd → Header → Header → ℕ → Type 0
Waits n header told token =
    (told ≡ header) × (n.awaited header.message ≡ Some (token_of token)) × (is_dialogs (Some (token_of token)) ≡ false)

-- no response, or to no such request
abbrev pub Unheard : ClientEnd → Option HeardMessage → Type 0
Unheard n None = ⊤
Unheard n (Some x) = IsLineOther (n.awaited x.header.message)

-- a response with this header to the request of this token
pub record IsLineAnswer (n : ClientEnd) (m : List ℕ) (header : Header) (token : ℕ) : Type 0 where
  pub heard : if_response (response_in (Some m)) ≡ Some (record { header = header; bytes = m })
  pub waits : n.awaited header.message ≡ Some (token_of token)
  pub operations : is_dialogs (Some (token_of token)) ≡ false

abbrev pub LineAnswers : ClientEnd → Option HeardMessage → Line → Answer → Type 0
LineAnswers n due new a =
    (due ≡ Some (record { header = a.header; bytes = a.message })) × (n.awaited a.header.message ≡ Some (token_of a.token))
    × (is_dialogs (Some (token_of a.token)) ≡ false) × ShowsLine new (paid_in n a.header)

-- the reply and the end behind it; or nothing is taken and the end stays, for want of memory too
abbrev pub LineHears : ClientEnd → Option HeardMessage → Line → Result Answer LineError → Type 0
LineHears n due new (Ok a) = LineAnswers n due new a
LineHears n due new (Err BadReply) = Unheard n due × ShowsLine new n
LineHears n due new (Err Memory) = ShowsLine new n
LineHears n due new (Err (NoCredit held)) = ⊥
LineHears n due new (Err Spent) = ⊥
