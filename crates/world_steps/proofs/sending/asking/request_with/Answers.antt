use Rattle.std.proofs.Common.{sym, subst}
use Rattle.wire_commands.specs.values.Meaning.{client_command_of}
use Rattle.wire_bytes.specs.declared.headers.request.Request.{Request}
use Rattle.world_steps.specs.sending.Sending.{IsSendingShort}
use Rattle.world_steps.proofs.Refusing.{result_with}
use Rattle.world_steps.proofs.sending.Asked.{short_one}
use Rattle.world_steps.proofs.sending.asking.request_with.Goals as goal

pub returns-in-Ok : goal.returns-in-Ok
returns-in-Ok c =
    let h = c.args.heading.now in
    let command = client_command_of c.args.command.now in
    result_with c.if_short.result
    (λ r is. subst (λ (v : Request). IsSendingShort h command v) (sym is.0) (short_one h command c.in-Ok.request c.in-Ok.ensures is.1))
    c.if_short.ensures
