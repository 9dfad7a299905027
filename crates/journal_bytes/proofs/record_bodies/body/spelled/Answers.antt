use Rattle.std.proofs.Common.{List, ◌∙◌, subst}
use Rattle.journal_bytes.specs.declared.record_bytes.value.Record.{Record}
use Rattle.journal_bytes.specs.record_bodies.Body.{IsBody}
use Rattle.journal_bytes.proofs.record_bodies.Bodies.{body_is, none_refused}
use Rattle.journal_bytes.proofs.record_bodies.body.spelled.Goals as goal

pub returns-then-not-can_write-clause-sure : goal.returns-then-not-can_write-clause-sure
returns-then-not-can_write-clause-sure c = λ e.
    absurd (none_refused c.can_write.result c.as_slice-records.result.now c.can_write.ensures.1 c.if-not-can_write.true
    (c.as_slice-records.ensures ∙ e))

pub returns-in-Ok-clause-told : goal.returns-in-Ok-clause-told
returns-in-Ok-clause-told c =
    subst (λ (rs : List Record). IsBody c.in-Ok.body rs) c.as_slice-records.ensures
    (body_is c.as_slice-records.result.now _ (c.can_write.ensures.0 c.if-not-can_write.false) c.are_typed.ensures
    c.in-Ok.ensures.spelled)

pub returns-in-Err-clause-sure : goal.returns-in-Err-clause-sure
returns-in-Err-clause-sure c = λ e. c.in-Err.ensures.sure (c.as_slice-records.ensures ∙ e)
