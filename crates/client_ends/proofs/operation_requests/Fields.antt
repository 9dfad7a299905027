-- The fields of a request, from those of its heading and its command.
use Rattle.std.proofs.Common.{◌≡◌, ℕ, ◌≤◌, Bool, List, length, sym, ap, subst, ◌∙◌}
use Rattle.spec_commands.specs.BodyOf.{body_of, number_of_command}
use Rattle.spec_commands.specs.Tables.{bit_if}
use Rattle.spec_exchange.specs.Commands.{Command}
use Rattle.spec_exchange.specs.State.{Message}
use Rattle.wire_bytes.specs.declared.headers.request.Request.{Request}
use Rattle.client_ends.specs.line_calls.Sending.{CanSend, IsRequest}
use Rattle.client_ends.specs.declared.operation_requests.request.Heading.{Heading}
use Rattle.client_ends.specs.operation_requests.Requesting.{IsHeading}

pub requested : (r : Request) (h : Heading) (command : Command) (m : Message) → r.header.charge ≡ h.charge
    → r.header.status ≡ h.sequence → r.header.command ≡ number_of_command command → r.header.flags ≡ bit_if h.replay 0x2000_0000
    → r.header.tree ≡ h.tree → r.header.session ≡ h.session → r.body ≡ body_of command → IsHeading h m → m.command ≡ command
    → IsRequest r m h.charge
requested r h command m cost sequence number flags tree session body is e = record {
  costs = cost;
  sequence = sequence ∙ is.sequence;
  command = number ∙ ap (λ (c : Command). number_of_command c) (sym e);
  flags = flags ∙ ap (λ (b : Bool). bit_if b 0x2000_0000) is.replay;
  tree = tree ∙ is.tree;
  session = session ∙ is.session;
  body = body ∙ ap (λ (c : Command). body_of c) (sym e);
}

pub sendable : (r : Request) (due : List ℕ) → r.header.flags ≤ 0x2000_0000 → r.body ≡ due → length due ≤ 1113996 → CanSend r
sendable r due flags e short = record { flags = flags; body = subst (λ (b : List ℕ). length b ≤ 1113996) (sym e) short }
