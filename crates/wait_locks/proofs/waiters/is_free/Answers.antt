use Rattle.std.proofs.Common.{sym, ◌∙◌}
use Rattle.wait_locks.proofs.Mild.{free_where, settled_so}
use Rattle.wait_locks.proofs.waiters.is_free.Goals as goal

pub returns-then-not-may_free : goal.returns-then-not-may_free
returns-then-not-may_free c = λ s f t but. settled_so s c.args.waiter.now (but (sym c.may_free.ensures ∙ c.if-not-may_free.true))

pub returns : goal.returns
returns c = λ s f t but. free_where s c.args.waiter.now c.held_up.result c.is_none.result (c.held_up.ensures s f t) c.is_none.ensures
