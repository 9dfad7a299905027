use Rattle.wire_commands.specs.values.Meaning.{message_of}
use Rattle.wait_locks.proofs.Never.{never, no_lock}
use Rattle.wait_locks.proofs.waiter.Waiter.of.Goals as goal

pub returns-in_default : goal.returns-in_default
returns-in_default c = record {
  some = tt;
  none = λ e s. never s (message_of c.args.message.now) (no_lock c.args.message.now.command c.in_default.not-Lock);
}
