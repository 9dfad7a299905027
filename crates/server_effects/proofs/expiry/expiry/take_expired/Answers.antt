use Rattle.server_effects.proofs.expiry.expiry.take_expired.Goals as goal

pub returns-in-Ok-clause-shows : goal.returns-in-Ok-clause-shows
returns-in-Ok-clause-shows c = λ s f b st none less.
    c.take_open.ensures.shows s f (c.reserve_expired.ensures.same s b.0, b.1) st none (c.fate_with-fate.ensures s f b.0 b.1 st) less

pub returns-in-Err-clause-shows : goal.returns-in-Err-clause-shows
returns-in-Err-clause-shows c = λ s f b st none less. (c.reserve_expired.ensures.same s b.0, b.1)
