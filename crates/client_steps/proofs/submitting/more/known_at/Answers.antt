use Rattle.client_steps.proofs.submitting.more.known_at.Goals as goal

pub returns : goal.returns
returns c = c.index.ensures
