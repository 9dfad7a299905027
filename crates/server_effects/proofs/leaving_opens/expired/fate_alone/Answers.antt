use Rattle.std.proofs.Common.{sym, ◌∙◌}
use Rattle.server_effects.proofs.Parted.{zero_is, not_zero, first_off, second_off, third_off, all_full, all_empty}
use Rattle.server_effects.proofs.leaving_opens.Files.{many, few}
use Rattle.server_effects.proofs.leaving_opens.expired.fate_alone.Goals as goal

pub returns-then-row-eq0 : goal.returns-then-row-eq0
returns-then-row-eq0 c = λ s o t e. second_off _ _ _ _ (zero_is c.args.row.now.file c.if-row-eq0.true)

pub returns-then-not-is_pending_with : goal.returns-then-not-is_pending_with
returns-then-not-is_pending_with c = λ s o t e. first_off _ _ _ (sym (c.is_pending_with.ensures s t e) ∙ c.if-not-is_pending_with.true)

pub returns-then-count_of-gt1 : goal.returns-then-count_of-gt1
returns-then-count_of-gt1 c = λ s o t e. third_off _ _ _ _ _ (many c.count_of.result _ (c.count_of.ensures s o) c.if-count_of-gt1.true)

pub returns-then-is_full : goal.returns-then-is_full
returns-then-is_full c = λ s o t e. all_full _ _ _ _ (sym (c.is_pending_with.ensures s t e) ∙ c.if-not-is_pending_with.false)
    (not_zero c.args.row.now.file c.if-row-eq0.false) (few c.count_of.result _ (c.count_of.ensures s o) c.if-count_of-gt1.false)
    (sym (c.is_full.ensures s t e) ∙ c.if-is_full.true)

pub returns-else-is_full : goal.returns-else-is_full
returns-else-is_full c = λ s o t e. all_empty _ _ _ _ (sym (c.is_pending_with.ensures s t e) ∙ c.if-not-is_pending_with.false)
    (not_zero c.args.row.now.file c.if-row-eq0.false) (few c.count_of.result _ (c.count_of.ensures s o) c.if-count_of-gt1.false)
    (sym (c.is_full.ensures s t e) ∙ c.if-is_full.false)
