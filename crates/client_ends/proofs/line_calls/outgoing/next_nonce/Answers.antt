use Rattle.std.proofs.Common.{refl}
use Rattle.client_ends.proofs.line_calls.outgoing.next_nonce.Goals as goal

pub returns-in-Ok : goal.returns-in-Ok
returns-in-Ok c = record { gives = c.in-Ok.ensures; same = (refl, refl, refl, refl); room = λ h. h }

pub returns-in-Err : goal.returns-in-Err
returns-in-Err c = record { gives = c.in-Err.ensures; same = (refl, refl, refl, refl); room = λ h. h }
