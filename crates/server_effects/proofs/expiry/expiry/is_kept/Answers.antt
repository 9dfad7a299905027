use Rattle.std.proofs.Common.{refl}
use Rattle.server_effects.proofs.expiry.expiry.is_kept.Goals as goal

pub returns-in-Some : goal.returns-in-Some
returns-in-Some c = λ s h. rw c.in-Some.is (c.is_expired.ensures s h)

pub returns-in-None : goal.returns-in-None
returns-in-None c = λ s h. rw c.in-None.is refl
