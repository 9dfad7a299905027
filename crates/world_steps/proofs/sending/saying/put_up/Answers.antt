use Rattle.std.proofs.Common.{◌∙◌, ◌++◌, ◌∷◌, [], Bool, if◌then◌else◌, ap, sym}
use Rattle.world_steps.proofs.sending.saying.put_up.Goals as goal

pub returns-then-pushed : goal.returns-then-pushed
returns-then-pushed c =
    let us = c.args.list.now.items in
    c.push_back.ensures.items
    ∙ ap (λ (b : Bool). if b then us ++ c.args.up ∷ [] else us) (sym c.is_ok-pushed.ensures.value ∙ c.if-pushed.true)
