use Rattle.std.proofs.Common.{ap, ◌∙◌}
use Rattle.law_waiting.specs.held.Held.{awaited}
use Rattle.wire_commands.specs.values.Meaning.{message_of}
use Rattle.wait_locks.proofs.Never.{never, none_of, two_of}
use Rattle.wait_locks.proofs.waiter.of_elements.Goals as goal

pub returns-in_default-clause-none : goal.returns-in_default-clause-none
returns-in_default-clause-none c = λ e s.
    never s (message_of c.args.message.now) (ap awaited c.requires ∙ none_of c.args.file c.args.elements.now c.in_default.len_below)

pub returns-in_default-2-clause-none : goal.returns-in_default-2-clause-none
returns-in_default-2-clause-none c = λ e s.
    never s (message_of c.args.message.now) (ap awaited c.requires ∙ two_of c.args.file c.args.elements.now c.in_default.len_at_least)
