-- The request of what goes out: of an operation itself, or to attach its open in its place.
use Rattle.std.specs.Prelude.{◌≡◌, ℕ, ◌<◌, ◌≤◌, Bool, if◌then◌else◌}
use Rattle.client_steps.specs.whole_client.Shown.{ShowsClient}
use Rattle.client_steps.specs.declared.whole_client.client.Client.{Client as Core}
use Rattle.client_steps.specs.sent_requests.Sent.{IsHead}
use Rattle.client_steps.specs.declared.sent_requests.heads.Head.{Head}
use Rattle.client_ends.specs.ends.Shown.{token_of}
use Rattle.client_ends.specs.line_calls.Sending.{CanSend, IsRequest}
use Rattle.client_ends.specs.operation_requests.Requesting.{IsHeading, IsRequestOf}
use Rattle.client_ends.specs.declared.operation_requests.request.Heading.{Heading}
use Rattle.spec_exchange.specs.Client.{Client, ask_message, create_for, guid_for, own_message}
use Rattle.spec_exchange.specs.Commands.{Command}
use Rattle.spec_exchange.specs.Network.{ForAttach, ForOp, Token}
use Rattle.spec_exchange.specs.Operations.{charge, reconnect_of, request_of, weight}
use Rattle.spec_exchange.specs.State.{Message}
use Rattle.wire_bytes.specs.declared.headers.request.Request.{Request}

abbrev pub message_for : Client → ℕ → ℕ → ℕ → Bool → Message
message_for c k id g asking = if asking then ask_message c k id g else own_message c k id g

-- a request to attach pays one credit
abbrev pub charge_for : Client → ℕ → Bool → ℕ
charge_for c g asking = if asking then 1 else charge (weight (c.op g))

abbrev pub token_for : ℕ → Bool → Token
token_for g asking = if asking then ForAttach g else ForOp g

-- what the client tells of them: the header, and the command
abbrev pub IsHeadFor : Core → ℕ → Bool → Head → Type 0
IsHeadFor x g asking h = (c : Client) (k id : ℕ) → ShowsClient x c → IsHead h (message_for c k id g asking)

abbrev pub IsCommandFor : Core → ℕ → ℕ → Bool → Command → Type 0
IsCommandFor x salt g asking command =
    (c : Client) → ShowsClient x c → c.who.salt ≡ salt → command
    ≡ (if asking then reconnect_of (c.op (create_for c g)) (guid_for c (create_for c g)) (c.file (create_for c g))
    else request_of (c.op g) (guid_for c g) (c.file (create_for c g)) (c.slot_of g) (c.number_of g))

-- its heading, its command's request, and the two of them; a number that wasn't taken tells nothing
pub record Heads (x : Core) (g : ℕ) (asking : Bool) (h : Heading) : Type 0 where
  pub token : 0 < g → token_of h.token ≡ token_for g asking
  pub costs : (c : Client) → ShowsClient x c → 0 < g → g ≤ c.taken → h.charge ≡ charge_for c g asking
  pub told : (c : Client) (k id : ℕ) → ShowsClient x c → IsHeading h (message_for c k id g asking)

pub record IsShort (h : Heading) (command : Command) (r : Request) : Type 0 where
  pub request : IsRequestOf h command r
  pub sends : CanSend r

pub record Asks (x : Core) (salt g : ℕ) (asking : Bool) (r : Request) : Type 0 where
  pub sends : CanSend r
  pub token : 0 < g → token_of r.token ≡ token_for g asking
  pub request : (c : Client) (k id : ℕ) → ShowsClient x c → c.who.salt ≡ salt → 0 < g → g ≤ c.taken
      → IsRequest r (message_for c k id g asking) (charge_for c g asking)
