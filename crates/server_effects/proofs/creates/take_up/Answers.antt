use Rattle.wire_commands.specs.values.Meaning.{message_of}
use Rattle.server_effects.proofs.Steps.{attached_tables}
use Rattle.server_effects.proofs.creates.take_up.Goals as goal

pub returns-clause-shows : goal.returns-clause-shows
returns-clause-shows c = λ s h st. attached_tables c.args.t.now c.put_attached.new.self s (message_of c.args.m.now) c.args.id h
    (c.put_attached.ensures s h.opens st)
