use Rattle.std.proofs.Common.{subst, sym, true, ◌≡◌}
use Rattle.law_waiting.specs.held.Untouched.{leaves_waiters}
use Rattle.server_checks.specs.event_heard.Heard.{heard_event}
use Rattle.server_checks.specs.declared.event_heard.event.ServerEvent.{ServerEvent}
use Rattle.wait_locks.proofs.Mild.{of_message}
use Rattle.wait_locks.proofs.touching.touched_by.Goals as goal

pub returns-in-Message : goal.returns-in-Message
returns-in-Message c = λ users L s f t n.
    let P : ServerEvent → Type 0 = λ z. leaves_waiters s f (heard_event users L s z) ≡ true in
    subst P (sym c.in-Message.is) (of_message users L s f c.in-Message.message (c.touched_by_command.ensures s f t n))
