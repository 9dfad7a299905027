use Rattle.server_effects.proofs.leaving_opens.Files.{on_ok_by, more_records}
use Rattle.server_effects.proofs.leaving_opens.records.push_record.Goals as goal

pub returns : goal.returns
returns c = on_ok_by c.push.result c.push.ensures.ok (λ e. more_records _ _ _ e)
