use Rattle.std.proofs.Common.{sym, ◌∙◌}
use Rattle.server_checks.proofs.verdicts.Forms.{empty_form, locking_form, mixed_form, unlocking_form}
use Rattle.server_checks.proofs.verdicts.form_rules.lock_form.Goals as goal

pub returns-then-is_empty : goal.returns-then-is_empty
returns-then-is_empty c = empty_form c.args.elements.now (sym c.is_empty.ensures ∙ c.if-is_empty.true)

pub returns-then-all_lock : goal.returns-then-all_lock
returns-then-all_lock c = locking_form c.args.elements.now (sym c.is_empty.ensures ∙ c.if-is_empty.false)
    (sym c.all_lock.ensures ∙ c.if-all_lock.true)

pub returns-then-all_unlock : goal.returns-then-all_unlock
returns-then-all_unlock c = unlocking_form c.args.elements.now (sym c.is_empty.ensures ∙ c.if-is_empty.false)
    (sym c.all_unlock.ensures ∙ c.if-all_unlock.true)

pub returns : goal.returns
returns c = mixed_form c.args.elements.now (sym c.all_lock.ensures ∙ c.if-all_lock.false)
    (sym c.all_unlock.ensures ∙ c.if-all_unlock.false)
