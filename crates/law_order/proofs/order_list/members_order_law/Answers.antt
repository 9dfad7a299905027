use Rattle.law_order.proofs.order_list.Members.{order_is}
use Rattle.law_order.proofs.order_list.members_order_law.Goals as goal

pub returns : goal.returns
returns c = order_is
