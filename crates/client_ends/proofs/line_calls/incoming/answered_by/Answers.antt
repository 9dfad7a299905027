use Rattle.std.proofs.Common.{sym, ◌∙◌}
use Rattle.spec_world.specs.Dialog.{is_response}
use Rattle.client_ends.proofs.line_calls.Replies.{no_response, responds}
use Rattle.client_ends.proofs.line_calls.incoming.answered_by.Goals as goal

pub returns-then-responds : goal.returns-then-responds
returns-then-responds c = λ n s.
    responds (is_response c.args.header) n c.args.header c.awaited.result (sym c.is_response-responds.ensures ∙ c.if-responds.true)
    (c.awaited.ensures n s)

pub returns-else-responds : goal.returns-else-responds
returns-else-responds c = λ n s.
    no_response (is_response c.args.header) (n.awaited c.args.header.message) (sym c.is_response-responds.ensures ∙ c.if-responds.false)
