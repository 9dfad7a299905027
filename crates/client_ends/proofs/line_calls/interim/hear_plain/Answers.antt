use Rattle.std.proofs.Common.{◌∙◌, Option, Ok, Err, Some, None, sym, subst}
use Rattle.spec_wire.specs.declared.messages.header.Header.{Header}
use Rattle.spec_world.specs.Dialog.{line_response}
use Rattle.client_ends.specs.line_calls.Interim.{GivesReply}
use Rattle.client_ends.proofs.line_calls.Interims.{gives_answer, gives_error, gives_none, plain_in}
use Rattle.client_ends.proofs.line_calls.interim.hear_plain.Goals as goal

pub returns-then-taken : goal.returns-then-taken
returns-then-taken c = λ n s plain.
    subst (λ (x : Option Header). GivesReply n x (line_response n c.args.frame.now) c.take_interim-taken.new.line (Ok None))
    (sym (plain_in n c.args.frame.now (s.1.encrypts ∙ plain)))
    (gives_none n _ _ c.take_interim-taken.new.line c.take_interim-taken.result c.if-taken.true (c.take_interim-taken.ensures n s))

pub returns-in-Ok : goal.returns-in-Ok
returns-in-Ok c = λ n s plain.
    subst (λ (x : Option Header). GivesReply n x (line_response n c.args.frame.now) c.hear.new.line (Ok (Some c.in-Ok.answer)))
    (sym (plain_in n c.args.frame.now (s.1.encrypts ∙ plain)))
    (gives_answer n _ _ c.take_interim-taken.new.line c.hear.new.line c.take_interim-taken.result c.in-Ok.answer c.if-taken.false
    (c.take_interim-taken.ensures n s) (c.in-Ok.ensures n))

pub returns-in-Err : goal.returns-in-Err
returns-in-Err c = λ n s plain.
    subst (λ (x : Option Header). GivesReply n x (line_response n c.args.frame.now) c.hear.new.line (Err c.in-Err.why))
    (sym (plain_in n c.args.frame.now (s.1.encrypts ∙ plain)))
    (gives_error n _ _ c.take_interim-taken.new.line c.hear.new.line c.take_interim-taken.result c.in-Err.why c.if-taken.false
    (c.take_interim-taken.ensures n s) (c.in-Err.ensures n))
