use Rattle.store_opens.proofs.open_table.Added.{restored_row}
use Rattle.store_opens.proofs.open_table.table.Opens.ready_to_restore.Goals as goal

pub returns-in_err-note-clause-same : goal.returns-in_err-note-clause-same
returns-in_err-note-clause-same c = λ s h. c.note.ensures.same s (c.reserve_row.ensures.same s h)

pub returns-clause-same : goal.returns-clause-same
returns-clause-same c = λ s h. c.note.ensures.same s (c.reserve_row.ensures.same s h)

pub returns-clause-row : goal.returns-clause-row
returns-clause-row c = restored_row c.in_ok-row.row c.without_session.result c.args.made.now c.args.user.now
    c.in_ok-row.ensures c.without_session.ensures

pub returns-clause-room : goal.returns-clause-room
returns-clause-room c = c.note.ensures.room c.in_ok-reserve_row.ensures.room
