use Rattle.std.proofs.Common.{sym}
use Rattle.wire_commands.specs.values.Meaning.{message_of}
use Rattle.wait_locks.proofs.Never.{faulty}
use Rattle.wait_locks.proofs.waiter.of_element.Goals as goal

pub returns-then-is_some-clause-none : goal.returns-then-is_some-clause-none
returns-then-is_some-clause-none c = λ e s.
    faulty s (message_of c.args.message.now) c.args.file c.args.index c.args.number c.args.element c.requires (sym c.if-is_some.ensures)
    (λ h. c.held_law.ensures.exact s (message_of c.args.message.now) c.args.file c.args.index c.args.number c.args.element c.requires h)
