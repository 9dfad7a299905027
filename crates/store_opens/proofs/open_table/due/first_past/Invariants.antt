use Rattle.std.proofs.Common.{◌≡◌, nat_eq}
use Rattle.std.specs.HashMap.{get}
use Rattle.spec_exchange.specs.Step.{due_in}
use Rattle.store_opens.specs.open_table.Due.{deadline_at}
use Rattle.store_opens.proofs.open_table.due.first_past.Given as goal

abbrev pub invariant-loop-id : goal.invariant-loop-id
invariant-loop-id l = due_in (λ o. deadline_at (get nat_eq l.rows o)) l.id-iterator l.now
    ≡ due_in (λ o. deadline_at (get nat_eq l.rows o)) l.overdue.keys l.now
