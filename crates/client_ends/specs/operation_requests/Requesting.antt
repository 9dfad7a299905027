-- A request as a line takes it.
use Rattle.std.specs.Prelude.{◌≡◌, ◌≤◌, length, Result, Ok, Err}
use Rattle.spec_commands.specs.BodyOf.{body_of}
use Rattle.spec_commands.specs.Fits.{FitsAsked}
use Rattle.wire_commands.specs.writing.Writing.{IsBodyRefused}
use Rattle.wire_commands.specs.declared.writing.fault.WriteError.{WriteError}
use Rattle.spec_exchange.specs.Commands.{Command}
use Rattle.spec_exchange.specs.State.{Message}
use Rattle.wire_bytes.specs.declared.headers.request.Request.{Request}
use Rattle.client_ends.specs.line_calls.Sending.{CanSend, IsRequest}
use Rattle.client_ends.specs.declared.operation_requests.request.Heading.{Heading}

-- what a message tells of its session and of its operation
pub record IsHeading (h : Heading) (m : Message) : Type 0 where
  pub session : h.session ≡ m.session_id
  pub tree : h.tree ≡ m.tree_id
  pub sequence : h.sequence ≡ m.channel_sequence
  pub replay : h.replay ≡ m.replay

-- the request of each message with this heading and this command, which a line can send where its body has room in a sealed frame
pub record IsRequestOf (h : Heading) (command : Command) (r : Request) : Type 0 where
  pub fits : FitsAsked command
  pub token : r.token ≡ h.token
  pub messages : (m : Message) → IsHeading h m → m.command ≡ command → IsRequest r m h.charge
  pub sends : length (body_of command) ≤ 1113996 → CanSend r

-- or a part doesn't fit its field, or memory ran out
abbrev pub Requests : Heading → Command → Result Request WriteError → Type 0
Requests h command (Ok r) = IsRequestOf h command r
Requests h command (Err e) = IsBodyRefused (FitsAsked command) e
