use Rattle.server_effects.proofs.expiry.Behind.{undated_yet}
use Rattle.server_effects.proofs.expiry.expiry.take_open.Goals as goal

pub returns-in-Ok-clause-shows : goal.returns-in-Ok-clause-shows
returns-in-Ok-clause-shows c = λ s f b st none g less.
    let k = c.in-Ok.ensures.taken s f b.0 st in
    c.take_some.ensures.shows s c.args.id f st none k.0 k.1 b.1
    (undated_yet c.args.opens.now c.take.new.self s c.args.id c.take.ensures.undated b.0 st none) g less

pub returns-in-Err-clause-shows : goal.returns-in-Err-clause-shows
returns-in-Err-clause-shows c = λ s f b st none g less. (c.in-Err.ensures.taken s f b.0 st, b.1)
