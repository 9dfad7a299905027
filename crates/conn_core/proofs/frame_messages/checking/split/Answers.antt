use Rattle.conn_core.proofs.frame_messages.Splitting.{split_is, split_some, split_order}
use Rattle.conn_core.proofs.frame_messages.checking.split.Goals as goal

pub returns-in-Ok : goal.returns-in-Ok
returns-in-Ok c =
    let s = split_is c.args.text.now c.in-Ok.parts c.in-Ok.ensures in (
      s.0,
      s.1,
      split_some c.args.text.now c.in-Ok.parts c.in-Ok.ensures,
      split_order c.args.text.now c.in-Ok.parts c.in-Ok.ensures,
    )
