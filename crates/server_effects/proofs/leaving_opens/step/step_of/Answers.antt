use Rattle.std.proofs.Common.{refl}
use Rattle.store_opens.specs.open_table.Rows.{open_of}
use Rattle.server_effects.proofs.leaving_opens.Steps.{told_step}
use Rattle.server_effects.proofs.leaving_opens.step.step_of.Goals as goal

pub returns : goal.returns
returns c = λ s u o t a hu hs le.
    told_step c.args.leaving.now s u (open_of c.args.row.now) _ c.is_pending-before.result c.deletes_on_close-deletes.result
    (c.is_pending-before.ensures s t hs) c.deletes_on_close-deletes.ensures (c.one_more-opens.ensures s o le) refl refl
    (c.in_ok-fate.ensures s u o t a hu hs)
