use Rattle.server_core.proofs.snapshot_writing.Lemmas.{told_more}
use Rattle.server_core.proofs.snapshot_writing.pieces.tell_bytes.Goals as goal

pub returns-in-Ok-clause-told : goal.returns-in-Ok-clause-told
returns-in-Ok-clause-told g c = λ ps h. c.pass_on.ensures.told _ (told_more _ _ _ _ _ _ _ _ c.in-Ok.ensures h)
