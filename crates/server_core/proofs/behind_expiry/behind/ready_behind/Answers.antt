use Rattle.server_core.proofs.behind_expiry.Stays.{journal_stays, tables_stay}
use Rattle.std.proofs.Common.{refl}
use Rattle.server_core.proofs.behind_expiry.behind.ready_behind.Goals as goal

pub returns-in-Ok-clause-shown : goal.returns-in-Ok-clause-shown
returns-in-Ok-clause-shown g c = λ s records f h a b. c.room_behind.ensures.shown s records f h a (c.in-Ok.ensures s records f h b)

pub returns-in-Ok-clause-front : goal.returns-in-Ok-clause-front
returns-in-Ok-clause-front g c = c.room_behind.ensures.front c.args.front.now

pub returns-in-Err-clause-front : goal.returns-in-Err-clause-front
returns-in-Err-clause-front g c = λ h. h

pub returns-in-Err-clause-shown : goal.returns-in-Err-clause-shown
returns-in-Err-clause-shown g c = λ s records f h a b. (h, tt)

pub returns-in-Err-clause-kept : goal.returns-in-Err-clause-kept
returns-in-Err-clause-kept g c = tables_stay c.args.server.now.tables

pub returns-in-Err-clause-journal : goal.returns-in-Err-clause-journal
returns-in-Err-clause-journal g c = (journal_stays c.args.server.now.journal, refl)
