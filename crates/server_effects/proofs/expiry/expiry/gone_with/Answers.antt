use Rattle.std.proofs.Common.{refl}
use Rattle.server_effects.proofs.expiry.expiry.gone_with.Goals as goal

pub returns-then-goes : goal.returns-then-goes
returns-then-goes c = λ s t h. let k = h c.if-goes.true in rw c.if-goes.true (c.take_out.ensures.taken s t k.0 k.1)

pub returns : goal.returns
returns c = λ s t h. rw c.if-goes.false (refl, t)
