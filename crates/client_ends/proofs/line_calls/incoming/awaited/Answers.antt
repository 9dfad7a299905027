use Rattle.std.proofs.Common.{sym, ◌∙◌}
use Rattle.client_ends.proofs.line_calls.Replies.{waits_as, waits_none}
use Rattle.client_ends.proofs.line_calls.incoming.awaited.Goals as goal

pub returns-in-Some : goal.returns-in-Some
returns-in-Some c = λ n s.
    waits_as n c.args.header c.in-Some.token c.given.result (s.awaited c.args.header.message ∙ sym c.in-Some.ensures) c.given.ensures

pub returns-in-None : goal.returns-in-None
returns-in-None c = λ n s. waits_none n c.args.header (s.awaited c.args.header.message ∙ sym c.in-None.ensures)
