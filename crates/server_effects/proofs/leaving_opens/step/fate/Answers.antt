use Rattle.std.proofs.Common.{sym, ◌∙◌}
use Rattle.law_server.proofs.tables.Logic.{not_true}
use Rattle.server_effects.proofs.Parted.{zero_is, not_zero, first_off, second_off, third_off, all_full, all_empty}
use Rattle.server_effects.proofs.leaving_opens.Files.{full_there}
use Rattle.server_effects.proofs.leaving_opens.step.fate.Goals as goal

pub returns-then-not-pending : goal.returns-then-not-pending
returns-then-not-pending c = λ s u o t a hu hs. first_off c.args.pending _ _ c.if-not-pending.true

pub returns-then-file-eq0 : goal.returns-then-file-eq0
returns-then-file-eq0 c = λ s u o t a hu hs. second_off c.args.pending _ _ _ (zero_is c.args.file c.if-file-eq0.true)

pub returns-then-not-is_last_open : goal.returns-then-not-is_last_open
returns-then-not-is_last_open c = λ s u o t a hu hs.
    third_off c.args.pending _ _ _ _ (sym (c.is_last_open.ensures s o) ∙ c.if-not-is_last_open.true)

pub returns-then-empty : goal.returns-then-empty
returns-then-empty c = λ s u o t a hu hs.
    let root = not_zero c.args.file c.if-file-eq0.false in
    all_empty c.args.pending _ _ _ c.if-not-pending.false root (sym (c.is_last_open.ensures s o) ∙ c.if-not-is_last_open.false)
    (not_true _ (sym (c.in_ok-empty.ensures s u t a hu hs root) ∙ c.if-empty.true))

pub returns-else-empty : goal.returns-else-empty
returns-else-empty c = λ s u o t a hu hs.
    let root = not_zero c.args.file c.if-file-eq0.false in
    all_full c.args.pending _ _ _ c.if-not-pending.false root (sym (c.is_last_open.ensures s o) ∙ c.if-not-is_last_open.false)
    (full_there _ (sym (c.in_ok-empty.ensures s u t a hu hs root) ∙ c.if-empty.false))
