use Rattle.server_effects.proofs.lost_connections.Lost.{first_taken, first_told, none_taken, none_told}
use Rattle.server_effects.proofs.lost_connections.connections.take_first.Goals as goal

pub returns-in-Some-clause-told : goal.returns-in-Some-clause-told
returns-in-Some-clause-told c = λ s f h.
    first_told s c.in-Some.connection c.take_out.result (c.in-Some.ensures s h) (c.take_out.ensures.told s f h)

pub returns-in-Some-clause-shows : goal.returns-in-Some-clause-shows
returns-in-Some-clause-shows c = λ s f h.
    first_taken c.take_out.new.t s c.in-Some.connection c.args.now c.args.is_quiet (c.in-Some.ensures s h)
    (c.take_out.ensures.shows s f h)

pub returns-in-None-clause-told : goal.returns-in-None-clause-told
returns-in-None-clause-told c = λ s f h. none_told s (c.in-None.ensures s h)

pub returns-in-None-clause-shows : goal.returns-in-None-clause-shows
returns-in-None-clause-shows c = λ s f h. none_taken c.args.t.now s c.args.now c.args.is_quiet (c.in-None.ensures s h) h
