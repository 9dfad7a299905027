use Rattle.wire_commands.specs.values.Meaning.{message_of}
use Rattle.server_effects.proofs.Steps.{reached_tables}
use Rattle.server_effects.proofs.reached.reach.Goals as goal

pub returns-clause-shows : goal.returns-clause-shows
returns-clause-shows c = λ s h st. reached_tables c.args.t.now c.offer.new.self s (message_of c.args.m.now) c.args.id h
    (c.offer.ensures.shows s h.opens st)
