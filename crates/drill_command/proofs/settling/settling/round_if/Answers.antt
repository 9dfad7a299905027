use Rattle.std.proofs.Common.{sym, ◌∙◌}
use Rattle.drill_command.proofs.settling.Rounds.{is_no, is_so}
use Rattle.drill_command.specs.settling.Parts.{is_left}
use Rattle.drill_command.proofs.settling.settling.round_if.Goals as goal

pub returns-then-is_over : goal.returns-then-is_over
returns-then-is_over c = λ z d h.
    let e = c.is_over.ensures z d h in
    (is_no (is_left d) (sym e.1 ∙ c.if-is_over.true), e.0)

pub returns-in-Ok : goal.returns-in-Ok
returns-in-Ok c = λ z d h.
    let e = c.is_over.ensures z d h in
    (is_so (is_left d) (sym e.1 ∙ c.if-is_over.false), c.in-Ok.ensures z d e.0)

pub returns-in-Err : goal.returns-in-Err
returns-in-Err c = λ z d h. c.in-Err.ensures z d (c.is_over.ensures z d h).0
