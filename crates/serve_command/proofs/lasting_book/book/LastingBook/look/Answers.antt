use Rattle.serve_command.proofs.Renewals.{looks_due, looks_later, looks_on}
use Rattle.serve_command.proofs.lasting_book.book.LastingBook.look.Goals as goal

pub returns-then-due : goal.returns-then-due
returns-then-due g c = (
  c.snapshot_size-size.result,
  looks_due g.D.Disk.told g.D.Disk.seen g.D.Disk.may_leave g.D.Disk.faults c.args.self.now c.write_anew.new.self
      c.is_first_form-is_first.result _ c.args.used c.snapshot_size-size.result c.write_anew.result c.is_due-due.ensures
      c.is_first_form-is_first.ensures c.requires c.if-due.true c.write_anew.ensures,
)

pub returns-else-due : goal.returns-else-due
returns-else-due g c = (
  c.snapshot_size-size.result,
  looks_later g.D.Disk.told g.D.Disk.seen g.D.Disk.may_leave g.D.Disk.faults c.args.self.now _
      c.is_first_form-is_first.result _ c.args.used c.snapshot_size-size.result c.is_due-due.ensures
      c.is_first_form-is_first.ensures c.requires c.if-due.false
      (looks_on c.args.self.now _ _ _ _ c.look_again-self.ensures c.requires),
)
