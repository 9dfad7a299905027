use Rattle.std.proofs.Common.{Option, true, false, subst}
use Rattle.spec_wire.specs.declared.messages.header.Header.{Header}
use Rattle.client_ends.specs.line_calls.Interim.{TakesInterim}
use Rattle.client_ends.proofs.line_calls.Interims.{credited_line}
use Rattle.client_ends.proofs.line_calls.interim.take_interim.Goals as goal

pub returns-in-Some : goal.returns-in-Some
returns-in-Some c = λ n s.
    subst (λ (x : Option Header). TakesInterim n x c.credit.new.self true) (c.in-Some.ensures n s.0)
    (credited_line c.args.line.now c.credit.new.self n c.in-Some.header c.credit.ensures.keeps s.1 (c.credit.ensures.shows n s.0))

pub returns-in-None : goal.returns-in-None
returns-in-None c = λ n s.
    subst (λ (x : Option Header). TakesInterim n x c.args.line.now false) (c.in-None.ensures n s.0) s
