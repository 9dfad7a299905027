use Rattle.std.proofs.Common.{refl}
use Rattle.server_effects.proofs.expiry.Back.{back_gone, back_there}
use Rattle.server_effects.proofs.expiry.expiry.file_back.Goals as goal

pub returns-in-Some-clause-back : goal.returns-in-Some-clause-back
returns-in-Some-clause-back c = rw c.in-Some.is (λ s o f st e r g p h.
    back_gone _ _ s o c.in-Some.gone _ f st g h c.put_back.ensures.back r)

pub returns-in-Some-clause-plain : goal.returns-in-Some-clause-plain
returns-in-Some-clause-plain c = rw c.in-Some.is (λ h. absurd (cc))

pub returns-in-None-clause-back : goal.returns-in-None-clause-back
returns-in-None-clause-back c = rw c.in-None.is (λ s o f st e r g p h.
    back_there _ _ s o c.args.file c.args.was_pending e g (p refl) h c.mark.ensures.shown)
