use Rattle.std.proofs.Common.{if◌then◌else◌, ap, sym, ◌∙◌}
use Rattle.client_steps.proofs.submits_on_opens.joining.cost_of.Goals as goal

pub returns-then-is_attached_now : goal.returns-then-is_attached_now
returns-then-is_attached_now c = λ d create s e.
    sym (ap (λ b. if b then c.args.shape.now.charge else 1)
    (sym (c.is_attached_now.ensures d create s e) ∙ c.if-is_attached_now.true))

pub returns-else-is_attached_now : goal.returns-else-is_attached_now
returns-else-is_attached_now c = λ d create s e.
    sym (ap (λ b. if b then c.args.shape.now.charge else 1)
    (sym (c.is_attached_now.ensures d create s e) ∙ c.if-is_attached_now.false))
