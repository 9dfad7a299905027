use Rattle.std.proofs.Common.{◌∙◌}
use Rattle.client_ends.proofs.line_calls.Interims.{opened_gives, unopened_gives}
use Rattle.client_ends.proofs.line_calls.interim.hear_sealed.Goals as goal

pub returns-in-Ok : goal.returns-in-Ok
returns-in-Ok c = λ n s on.
    opened_gives n c.args.frame.now c.in-Ok.message c.hear_opened.new.line c.hear_opened.result (s.1.encrypts ∙ on)
    (c.in-Ok.ensures n s.1 on) (c.hear_opened.ensures n s)

pub returns-in-Err : goal.returns-in-Err
returns-in-Err c = λ n s on.
    unopened_gives n c.args.frame.now c.args.line.now c.in-Err.why (s.1.encrypts ∙ on) s (c.in-Err.ensures n s.1 on)
