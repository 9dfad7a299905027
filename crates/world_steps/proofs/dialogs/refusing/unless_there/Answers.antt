use Rattle.std.proofs.Common.{false, true}
use Rattle.world_steps.proofs.dialogs.Refused.{closed_due, open_due}
use Rattle.world_steps.proofs.dialogs.refusing.unless_there.Goals as goal

pub returns-then-not-is_client_open : goal.returns-then-not-is_client_open
returns-then-not-is_client_open c =
    closed_due c.args.channel.now c.args.k c.is_client_open.result c.is_client_open.ensures c.if-not-is_client_open.true

pub returns-then-not-comes_down : goal.returns-then-not-comes_down
returns-then-not-comes_down c =
    open_due c.args.channel.now c.args.k c.is_client_open.result c.comes_down.result false c.is_client_open.ensures
    c.if-not-is_client_open.false c.comes_down.ensures c.if-not-comes_down.true

pub returns : goal.returns
returns c =
    open_due c.args.channel.now c.args.k c.is_client_open.result c.comes_down.result true c.is_client_open.ensures
    c.if-not-is_client_open.false c.comes_down.ensures c.if-not-comes_down.false
