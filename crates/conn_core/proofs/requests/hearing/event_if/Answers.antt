use Rattle.std.proofs.Common.{Option, option_map, ap, ◌∙◌}
use Rattle.wire_commands.specs.values.Meaning.{request_of}
use Rattle.wire_commands.specs.declared.values.request.Request.{Request}
use Rattle.conn_core.proofs.requests.Found.{heard_none}
use Rattle.conn_core.proofs.requests.hearing.event_if.Goals as goal

pub returns-in-None : goal.returns-in-None
returns-in-None c = λ z L f k is raw denied told due.
    heard_none z L f c.args.checked.now c.args.message.now k c.args.told.now is
    (λ u. due u ∙ ap (λ (o : Option Request). option_map (request_of u) o) c.in-None.is)

pub returns-in-Some : goal.returns-in-Some
returns-in-Some c = λ z L f k is raw denied told due.
    c.event_of.ensures z L f k is raw denied told
    (λ u. due u ∙ ap (λ (o : Option Request). option_map (request_of u) o) c.in-Some.is)
