use Rattle.std.proofs.Common.{ap, sym, ◌∙◌}
use Rattle.law_waiting.specs.held.Held.{would_wait}
use Rattle.wait_locks.proofs.held.would_wait.Goals as goal

pub returns-in-Some : goal.returns-in-Some
returns-in-Some c = λ s f t. c.held_up.ensures s f t ∙ sym (ap (would_wait s) c.in-Some.ensures.some.message)
