use Rattle.std.proofs.Common.{refl, ◌∙◌}
use Rattle.spec_commands.specs.BodyOf.{body_of}
use Rattle.wire_commands.specs.values.Meaning.{client_command_of}
use Rattle.wire_bytes.specs.declared.headers.request.Request.{Request}
use Rattle.client_ends.proofs.operation_requests.Fields.{requested, sendable}
use Rattle.client_ends.proofs.operation_requests.request.request_of.Goals as goal

pub returns-in-Ok : goal.returns-in-Ok
returns-in-Ok c =
    let rest = c.header_of-header.ensures.rest in
    let flags = c.header_of-header.ensures.flags in
    let command = client_command_of c.args.command.now in
    let r : Request = record { header = c.header_of-header.result; body = c.in-Ok.body; token = c.args.heading.now.token } in record {
      fits = c.in-Ok.ensures.0;
      token = refl;
      messages = λ m is e.
          requested r c.args.heading.now command m rest.0 rest.1 (rest.2 ∙ c.number_of-number.ensures) flags.0 rest.3 rest.4
          c.in-Ok.ensures.1 is e;
      sends = λ short. sendable r (body_of command) flags.1 c.in-Ok.ensures.1 short;
    }
