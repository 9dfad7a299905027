use Rattle.std.proofs.Common.{ℕ, List, ap, ◌∙◌}
use Rattle.drill_command.proofs.drill_text.Added.{ok_with, with_numbers}
use Rattle.drill_command.proofs.drill_text.creates.order_of.Goals as goal

pub returns-then-within : goal.returns-then-within
returns-then-within c =
    ok_with c.order_with.result (λ o same w are. same
    ∙ ap (λ (l : List ℕ). with_numbers c.args.create l)
    (c.as_slice.ensures.value ∙ are.each c.args.create c.order_at.result.now c.order_at.ensures)) c.order_with.ensures
