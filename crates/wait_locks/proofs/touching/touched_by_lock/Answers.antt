use Rattle.std.proofs.Common.{sym, ◌∙◌}
use Rattle.wait_locks.proofs.Mild.{elsewhere}
use Rattle.wait_locks.proofs.touching.touched_by_lock.Goals as goal

pub returns : goal.returns
returns c = λ s f t n.
    elsewhere f c.file_of.result _ (c.file_of.ensures.shown s t (sym (c.stands.ensures s t.opens) ∙ c.if-not-stands.false)) n
