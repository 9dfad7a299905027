use Rattle.server_effects.proofs.leaving_opens.Files.{info_marked, marked_first, marked_last}
use Rattle.server_effects.proofs.leaving_opens.expired.is_pending_with.Goals as goal

pub returns-then-info : goal.returns-then-info
returns-then-info c = λ s t e. marked_first c.info.result.marked _ _ c.if-info.true
    (info_marked c.info.result s c.args.row.now.file (c.info.ensures s t e))

pub returns-else-info : goal.returns-else-info
returns-else-info c = λ s t e. marked_last c.info.result.marked _ _ _ c.if-info.false
    (info_marked c.info.result s c.args.row.now.file (c.info.ensures s t e)) c.deletes_on_close.ensures
