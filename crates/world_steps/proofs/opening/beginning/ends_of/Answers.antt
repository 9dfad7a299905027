use Rattle.world_steps.proofs.opening.beginning.ends_of.Goals as goal

pub returns-then-counted : goal.returns-then-counted
returns-then-counted c =
    c.ends_with.ensures c.fresh_at-fresh.ensures c.bound_of-bound.ensures (c.is_counted-counted.ensures c.if-counted.true)
