use Rattle.std.proofs.Common.{Some, ap, subst, ◌∙◌}
use Rattle.spec_exchange.specs.Commands.{Command}
use Rattle.spec_commands.specs.CommandOf.{heard_as}
use Rattle.wire_commands.specs.values.Meaning.{command_of, echo_told, request_of}
use Rattle.wire_commands.specs.declared.values.request.Request.{Request}
use Rattle.wire_commands.specs.declared.values.setup.SetupForm.{SetupForm}
use Rattle.conn_core.specs.requests.Asking.{IsFormed}
use Rattle.conn_core.proofs.requests.Found.{heard_aside, heard_plain, heard_setup}
use Rattle.conn_core.proofs.requests.hearing.event_of.Goals as goal

pub returns-in-Negotiate : goal.returns-in-Negotiate
returns-in-Negotiate c = λ z L f k is raw denied told due.
    heard_aside z L f c.args.checked.now c.args.message.now k c.args.told.now (λ u. u.negotiated) is
    (λ u. due u ∙ ap (λ (r : Request). Some (request_of u r)) c.in-Negotiate.is)

pub returns-in-Echo : goal.returns-in-Echo
returns-in-Echo c = λ z L f k is raw denied told due.
    heard_aside z L f c.args.checked.now c.args.message.now k c.args.told.now (λ u. echo_told u.fault c.in-Echo._form) is
    (λ u. due u ∙ ap (λ (r : Request). Some (request_of u r)) c.in-Echo.is)

pub returns-in-Setup : goal.returns-in-Setup
returns-in-Setup c = λ z L f k is raw denied told due.
    heard_setup z L f c.args.checked.now c.args.message.now k c.args.told.now c.in-Setup.form c.setup_heard.result is raw denied told
    (λ u. due u ∙ ap (λ (r : Request). Some (request_of u r)) c.in-Setup.is)
    (subst (λ (form : SetupForm). IsFormed c.args.told.now c.args.checked.now form c.args.message.now c.setup_heard.result)
    c.form_placed.ensures c.setup_heard.ensures)

pub returns-in-Command : goal.returns-in-Command
returns-in-Command c = λ z L f k is raw denied told due.
    heard_plain z L f c.args.checked.now c.args.message.now k c.args.told.now (command_of c.in-Command.command) c.heard_as.result is told
    (λ u. due u ∙ ap (λ (r : Request). Some (request_of u r)) c.in-Command.is)
    (λ u at client fault. c.heard_as.ensures u at client fault
    ∙ ap (λ (x : Command). heard_as u c.args.checked.now.header x) c.placed.ensures)
