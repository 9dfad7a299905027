use Rattle.std.proofs.Common.{List, ap, ◌∙◌}
use Rattle.journal_bytes.specs.record_bytes.Meaning.{records_of}
use Rattle.journal_bytes.specs.declared.record_bytes.value.Record.{Record}
use Rattle.server_plan.proofs.Planned.{unsaid_owes}
use Rattle.server_plan.proofs.owing.owed_on_message.Goals as goal

pub returns-in-Says-clause-told : goal.returns-in-Says-clause-told
returns-in-Says-clause-told c = rw c.in-Says.is (λ s f h w. c.owed.ensures.told s f h.opens h.files h.sessions w)

pub returns-in-Says-clause-sure : goal.returns-in-Says-clause-sure
returns-in-Says-clause-sure c = rw c.in-Says.is c.owed.ensures.sure

pub returns-in_default-clause-told : goal.returns-in_default-clause-told
returns-in_default-clause-told c = λ s f h w. ap (λ (v : List Record). records_of v) c.new.ensures
    ∙ unsaid_owes s c.args.now c.args.asked.now c.args.verdict.now c.in_default.not-Says
