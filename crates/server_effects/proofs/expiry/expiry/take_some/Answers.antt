use Rattle.server_effects.proofs.expiry.expiry.take_some.Goals as goal

pub returns-in-Some-clause-shows : goal.returns-in-Some-clause-shows
returns-in-Some-clause-shows c = rw c.in-Some.is c.take_file.ensures.shows

pub returns-in-None-clause-shows : goal.returns-in-None-clause-shows
returns-in-None-clause-shows c = rw c.in-None.is (λ s o f st none k opens files undated g less. absurd k)
