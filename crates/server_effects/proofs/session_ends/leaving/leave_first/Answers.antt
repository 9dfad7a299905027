use Rattle.server_effects.proofs.session_ends.Picked.{none_left, picked_left, picked_stands}
use Rattle.server_effects.proofs.session_ends.leaving.leave_first.Goals as goal

pub returns-clause-shows : goal.returns-clause-shows
returns-clause-shows c = λ s f h.
    let e = c.in-Some.ensures s f h.opens in
    picked_left c.leave_one.new.t s c.args.session c.in-Some.id c.args.is_quiet f e
    (c.leave_one.ensures.shows s f h (picked_stands s c.args.session c.in-Some.id f e))

pub returns-in-None-clause-shows : goal.returns-in-None-clause-shows
returns-in-None-clause-shows c = λ s f h. none_left c.args.t.now s c.args.session c.args.is_quiet f (c.in-None.ensures s f h.opens) h
