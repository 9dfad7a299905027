use Rattle.store_opens.proofs.open_table.Moved.{attached_fresh, attached_stays}
use Rattle.store_opens.proofs.open_table.table.Opens.put_attached.Goals as goal

pub returns-then-is_without_session : goal.returns-then-is_without_session
returns-then-is_without_session c = λ s h st. attached_fresh _ s c.args.id c.args.session c.args.tree c.args.sequence _
    (c.is_without_session.ensures s h st) c.if-is_without_session.true (c.attach_one.ensures.shows s h st)

pub returns-else-is_without_session : goal.returns-else-is_without_session
returns-else-is_without_session c = λ s h st. attached_stays _ s c.args.id c.args.session c.args.tree c.args.sequence _
    (c.is_without_session.ensures s h st) c.if-is_without_session.false h
