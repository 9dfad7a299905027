use Rattle.std.proofs.Common.{refl, sym, ◌∙◌}
use Rattle.store_opens.proofs.open_table.table.Opens.keep_refusal.Goals as goal

pub returns-then-is_full : goal.returns-then-is_full
returns-then-is_full c = λ s h f. (rw (sym (c.is_full.ensures s h) ∙ c.if-is_full.true) refl, h)

pub returns-in-Err : goal.returns-in-Err
returns-in-Err c = λ s h f. (rw (sym (c.is_full.ensures s h) ∙ c.if-is_full.false) refl, c.in-Err.ensures.same s h)

pub returns-in-Ok : goal.returns-in-Ok
returns-in-Ok c = λ s h f. (sym (c.is_full.ensures s h) ∙ c.if-is_full.false, c.put_refusal.ensures s (c.in-Ok.ensures.same s h) f)
