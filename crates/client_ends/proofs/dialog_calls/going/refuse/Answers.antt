use Rattle.std.proofs.Common.{refl}
use Rattle.client_ends.proofs.dialog_calls.going.refuse.Goals as goal

pub returns : goal.returns
returns c = (refl, refl)
