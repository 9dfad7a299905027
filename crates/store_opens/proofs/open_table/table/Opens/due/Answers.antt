use Rattle.std.proofs.Common.{ℕ, List, Option, ap, ◌∙◌, nat_eq}
use Rattle.std.specs.HashMap.{get}
use Rattle.store_opens.specs.open_table.Due.{least_dated_in}
use Rattle.store_opens.proofs.open_table.DueDated.{due_dated}
use Rattle.store_opens.proofs.open_table.table.Opens.due.Goals as goal

pub returns-clause-due : goal.returns-clause-due
returns-clause-due c = λ s i h.
    let t = c.move_past.new.self in
    let st = c.move_past.ensures.shows s h in
    c.least_undated.ensures
    ∙ ap (λ (xs : List ℕ). least_dated_in (λ o. get nat_eq t.rows o) c.args.now xs c.past-least.result) c.as_slice.ensures.value
    ∙ ap (λ (v : Option ℕ). least_dated_in (λ o. get nat_eq t.rows o) c.args.now t.undated.items v)
    (c.past-least.ensures s i st (c.move_past.ensures.past s h))
    ∙ due_dated t s c.args.now st i
