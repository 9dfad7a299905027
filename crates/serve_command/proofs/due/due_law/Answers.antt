use Rattle.serve_command.proofs.Wholes.{disk_stands}
use Rattle.serve_command.proofs.due.due_law.Goals as goal

pub returns : goal.returns
returns g c = record {
  on_disk = λ told z k seat opening from came wrote answer due.
      (let base = due.stands.0.0 in
      let w = due.stands.0.1.1.stands due.stands.1 told in (
        base,
        disk_stands g.D.Disk.told g.D.Disk.seen g.D.Disk.may_leave g.D.Disk.faults due.last.server.disk_book.book.server base due.stand.server
            due.stand.records w.0 w.1,
      ));
}
