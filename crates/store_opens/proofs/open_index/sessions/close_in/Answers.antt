use Rattle.std.proofs.Common.{sym, nat_eq}
use Rattle.std.specs.HashMap.{get}
use Rattle.store_opens.proofs.open_index.SessionLemmas.{written_row, close_row}
use Rattle.store_opens.proofs.open_index.sessions.close_in.Goals as goal

pub returns-in-Some-clause-here : goal.returns-in-Some-clause-here
returns-in-Some-clause-here c =
    close_row (get nat_eq c.args.sessions.now c.args.session)
    (get nat_eq (c.get_mut.follows.lender c.close.new.self) c.args.session) c.args.guid c.in-Some.row.now
    c.close.new.self (sym c.in-Some.ensures.value)
    (written_row c.args.sessions.now (c.get_mut.follows.lender c.close.new.self) c.args.session c.in-Some.row.now
    c.close.new.self (sym c.in-Some.ensures.value) (c.get_mut.follows.holds c.close.new.self).3).0
    c.close.ensures.kept
