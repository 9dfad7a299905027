use Rattle.client_ends.proofs.line_calls.Texts.{opens, unopened_as}
use Rattle.client_ends.proofs.line_calls.incoming.opened_under.Goals as goal

pub returns-in-Ok : goal.returns-in-Ok
returns-in-Ok c = λ n s on. opens c.args.line.now n c.args.frame.now c.in-Ok.text s on c.in-Ok.ensures

pub returns-in-Err : goal.returns-in-Err
returns-in-Err c = λ n s on.
    unopened_as c.args.line.now n c.args.frame.now c.in-Err.why c.why_unsealed.result s on c.in-Err.ensures c.why_unsealed.ensures
