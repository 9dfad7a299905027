use Rattle.std.proofs.Common.{refl}
use Rattle.client_steps.proofs.whole_client.client.last_at.Goals as goal

pub returns : goal.returns
returns c = (c.index-marks-at.result, c.index-marks-at.is, refl)
