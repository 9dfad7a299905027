use Rattle.journal.proofs.disk_journal.Gathered.{put_parts}
use Rattle.journal.proofs.disk_journal.journal.put_behind.Goals as goal

pub returns-clause-put : goal.returns-clause-put
returns-clause-put c = put_parts c.args.form c.args.body.now c.args.buffer.now.items c.put_head.new.buffer.items
    c.extend_from_slice.new.self.items c.push.new.self.items
    c.in_ok-put_head.ensures.put c.in_ok-extend_from_slice.ensures.items c.in_ok-push.ensures.items
