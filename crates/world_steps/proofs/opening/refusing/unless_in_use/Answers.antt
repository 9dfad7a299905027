use Rattle.world_steps.proofs.opening.Refused.{due_alike, unused_is, used_is}
use Rattle.world_steps.proofs.opening.refusing.unless_in_use.Goals as goal

pub returns-then-is_in_use : goal.returns-then-is_in_use
returns-then-is_in_use c = used_is c.is_in_use.result _ _ _ c.is_in_use.ensures c.if-is_in_use.true

pub returns : goal.returns
returns c =
    due_alike _ _ c.unless_making.result (unused_is c.is_in_use.result _ _ _ c.is_in_use.ensures c.if-is_in_use.false)
    c.unless_making.ensures
