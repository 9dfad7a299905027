use Rattle.std.proofs.Common.{refl}
use Rattle.client_book.proofs.Turned.{leaves_on, leaves}
use Rattle.client_book.proofs.book.ClientBook.end_dialog.Goals as goal

pub returns-clause-client : goal.returns-clause-client
returns-clause-client c =
    let old = c.args.self.now in
    let mid = record old { failed = 0 } in
    leaves_on old mid c.open.new.self (leaves old mid refl refl refl) c.open.ensures.client
