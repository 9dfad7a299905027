-- An interim response, behind which the response still comes (MS-SMB2 3.2.5.1.5).
use Rattle.std.specs.Prelude.{◌==◌, ◌&&◌, ℕ, Bool, true, false, if◌then◌else◌, List, Option, Some, None, Result, Ok, Err}
use Rattle.spec_crypto.specs.sessions.Sealing.{opened}
use Rattle.spec_exchange.specs.Commands.{has_bit}
use Rattle.spec_exchange.specs.Network.{Token, ForDialog, ForOp, ForAttach}
use Rattle.spec_wire.specs.credits.Purse.{after_add}
use Rattle.spec_wire.specs.declared.messages.header.Header.{Header}
use Rattle.spec_world.specs.Dialog.{if_response, line_response, response_in}
use Rattle.spec_world.specs.Ends.{ClientEnd}
use Rattle.spec_world.specs.Messages.{HeardMessage}
use Rattle.client_ends.specs.declared.ends.line.Line.{Line}
use Rattle.client_ends.specs.declared.ends.line.LineError.{LineError}
use Rattle.client_ends.specs.declared.ends.line.LineError.TheVariants.{Memory, NoCredit, Spent, BadReply}
use Rattle.client_ends.specs.declared.line_calls.incoming.Answer.{Answer}
use Rattle.client_ends.specs.ends.Shown.{ShowsLine}
use Rattle.client_ends.specs.line_calls.Hearing.{LineHears}

-- STATUS_PENDING, with SMB2_FLAGS_ASYNC_COMMAND (2.2.1.1)
abbrev pub is_pending : Header → Bool
is_pending h = has_bit h.flags 2 && (h.status == 0x103)

-- an operation's request waits
abbrev pub is_operations : Option Token → Bool
is_operations None = false
is_operations (Some ForDialog) = false
is_operations (Some (ForOp g)) = true
is_operations (Some (ForAttach g)) = true

-- a response, where it is an interim one to a request of an operation that waits
abbrev pub interim_to : ClientEnd → Option HeardMessage → Option Header
interim_to n None = None
interim_to n (Some x) = if is_pending x.header && is_operations (n.awaited x.header.message) then Some x.header else None

-- it isn't signed (3.2.5.1.3), but sealed where the line seals
abbrev pub interim_text : ClientEnd → List ℕ → Option (List ℕ)
interim_text n frame = if n.encrypts then opened n.keys false frame else Some frame

-- the header of the interim response that a frame is
abbrev pub interim_in : ClientEnd → List ℕ → Option Header
interim_in n frame = interim_to n (if_response (response_in (interim_text n frame)))

-- its credits are had, and its id is awaited on
abbrev pub credited : ClientEnd → Header → ClientEnd
credited n h = record n { purse = after_add h.credits n.purse }

-- whether one was taken; else the end stays
abbrev pub TakesInterim : ClientEnd → Option Header → Line → Bool → Type 0
TakesInterim n (Some h) new true = ShowsLine new (credited n h)
TakesInterim n (Some h) new false = ⊥
TakesInterim n None new true = ⊥
TakesInterim n None new false = ShowsLine new n

-- an interim response is taken, unless memory ran out; any other frame is heard as a reply
abbrev pub GivesReply : ClientEnd → Option Header → Option HeardMessage → Line → Result (Option Answer) LineError → Type 0
GivesReply n (Some h) due new (Ok None) = ShowsLine new (credited n h)
GivesReply n (Some h) due new (Ok (Some a)) = ⊥
GivesReply n (Some h) due new (Err Memory) = ShowsLine new n
GivesReply n (Some h) due new (Err BadReply) = ⊥
GivesReply n (Some h) due new (Err (NoCredit held)) = ⊥
GivesReply n (Some h) due new (Err Spent) = ⊥
GivesReply n None due new (Ok None) = ⊥
GivesReply n None due new (Ok (Some a)) = LineHears n due new (Ok a)
GivesReply n None due new (Err e) = LineHears n due new (Err e)

abbrev pub LineGives : ClientEnd → List ℕ → Line → Result (Option Answer) LineError → Type 0
LineGives n frame new result = GivesReply n (interim_in n frame) (line_response n frame) new result
