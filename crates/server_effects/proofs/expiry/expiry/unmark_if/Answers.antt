use Rattle.server_effects.proofs.expiry.expiry.unmark_if.Goals as goal

pub returns-then-unmarked : goal.returns-then-unmarked
returns-then-unmarked c = λ s t. rw c.if-unmarked.true (c.mark.ensures.shown s t)

pub returns-else-unmarked : goal.returns-else-unmarked
returns-else-unmarked c = λ s t. rw c.if-unmarked.false t
