-- The header of a request.
use Rattle.std.proofs.Common.{◌≡◌, ℕ, ◌+◌, Bool, replicate, sym, ap, ◌∙◌}
use Rattle.spec_commands.specs.BodyOf.{number_of_command}
use Rattle.spec_commands.specs.Tables.{bit_if}
use Rattle.spec_exchange.specs.State.{Message}
use Rattle.wire_bytes.specs.declared.headers.request.Request.{Request}
use Rattle.spec_world.specs.Sending.{request_header}
use Rattle.client_ends.specs.line_calls.Sending.{IsRequest}

pub header_is : (r : Request) (m : Message) (charge id flags : ℕ) (signs : Bool) → IsRequest r m charge → m.message_id ≡ id
    → flags ≡ bit_if signs 8 + r.header.flags
    → record {
      charge = r.header.charge;
      status = r.header.status;
      command = r.header.command;
      credits = 512;
      flags = flags;
      next = 0;
      message = id;
      tree = r.header.tree;
      session = r.header.session;
      signature = replicate 16 0;
    } ≡ request_header m charge (number_of_command m.command) signs
header_is r m charge id flags signs is number e =
    let told : flags ≡ bit_if signs 8 + bit_if m.replay 0x2000_0000 =
    e ∙ ap (λ (k : ℕ). bit_if signs 8 + k) is.flags in
    λ t. record {
      charge = is.costs t;
      status = is.sequence t;
      command = is.command t;
      credits = 512;
      flags = told t;
      next = 0;
      message = sym number t;
      tree = is.tree t;
      session = is.session t;
      signature = replicate 16 0;
    }
