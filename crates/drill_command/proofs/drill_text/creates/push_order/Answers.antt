use Rattle.std.proofs.Common.{◌∷◌, ◌++◌, [], ap, ◌∙◌}
use Rattle.script_words.specs.declared.outcome_lines.orders.CreateOrder.{CreateOrder}
use Rattle.drill_command.proofs.drill_text.creates.push_order.Goals as goal

pub returns : goal.returns
returns c = λ w are.
    c.in_ok-push.ensures.items ∙ ap (λ (o : CreateOrder). c.args.orders.now.items ++ o ∷ []) (c.in_ok-order.ensures w are)
