use Rattle.client_ends.proofs.line_calls.Headers.{header_is}
use Rattle.client_ends.proofs.line_calls.outgoing.header_of.Goals as goal

pub returns : goal.returns
returns c = λ m charge r e. header_is c.args.request.now m charge c.args.id c.flags_if.result c.args.signs r e c.flags_if.ensures
