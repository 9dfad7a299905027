use Rattle.std.proofs.Common.{sym, ◌∙◌}
use Rattle.server_effects.proofs.Parted.{zero_is, not_zero, not_pending, at_root, is_open, is_full, is_empty}
use Rattle.server_effects.proofs.closing.fate.Goals as goal

pub returns-then-not-is_pending : goal.returns-then-not-is_pending
returns-then-not-is_pending c = λ s h x. not_pending s c.args.file (sym (c.is_pending.ensures s h x) ∙ c.if-not-is_pending.true)

pub returns-then-file-eq0 : goal.returns-then-file-eq0
returns-then-file-eq0 c = λ s h x. at_root s c.args.file (zero_is c.args.file c.if-file-eq0.true)

pub returns-then-has_open : goal.returns-then-has_open
returns-then-has_open c = λ s h x. is_open s c.args.file (sym (c.has_open.ensures s h.opens) ∙ c.if-has_open.true)

pub returns-then-is_full : goal.returns-then-is_full
returns-then-is_full c = λ s h x. is_full s c.args.file (sym (c.is_pending.ensures s h x) ∙ c.if-not-is_pending.false)
    (not_zero c.args.file c.if-file-eq0.false) x (sym (c.has_open.ensures s h.opens) ∙ c.if-has_open.false)
    (sym (c.is_full.ensures s h.files x) ∙ c.if-is_full.true)

pub returns-else-is_full : goal.returns-else-is_full
returns-else-is_full c = λ s h x. is_empty s c.args.file (sym (c.is_pending.ensures s h x) ∙ c.if-not-is_pending.false)
    (not_zero c.args.file c.if-file-eq0.false) x (sym (c.has_open.ensures s h.opens) ∙ c.if-has_open.false)
    (sym (c.is_full.ensures s h.files x) ∙ c.if-is_full.false)
