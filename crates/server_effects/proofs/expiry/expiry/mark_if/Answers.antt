use Rattle.server_effects.proofs.expiry.expiry.mark_if.Goals as goal

pub returns-then-deletes : goal.returns-then-deletes
returns-then-deletes c = λ s t. rw c.if-deletes.true (c.mark.ensures.shown s t)

pub returns-else-deletes : goal.returns-else-deletes
returns-else-deletes c = λ s t. rw c.if-deletes.false t
