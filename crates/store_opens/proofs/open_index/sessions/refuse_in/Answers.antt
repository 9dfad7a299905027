use Rattle.std.proofs.Common.{sym, nat_eq}
use Rattle.std.specs.HashMap.{get}
use Rattle.store_opens.proofs.open_index.SessionLemmas.{written_row, refuse_row}
use Rattle.store_opens.proofs.open_index.sessions.refuse_in.Goals as goal

pub returns-in-Some-clause-refuses : goal.returns-in-Some-clause-refuses
returns-in-Some-clause-refuses c =
    refuse_row (λ q. get nat_eq c.args.sessions.now q)
    (λ q. get nat_eq (c.get_mut.follows.lender c.refuse.new.self) q) c.args.session c.args.guid c.args.status
    c.in-Some.row.now c.refuse.new.self (sym c.in-Some.ensures.value)
    (written_row c.args.sessions.now (c.get_mut.follows.lender c.refuse.new.self) c.args.session c.in-Some.row.now
    c.refuse.new.self (sym c.in-Some.ensures.value) (c.get_mut.follows.holds c.refuse.new.self).3)
    c.refuse.ensures.kept c.refuse.ensures.others c.refuse.ensures.opens c.refuse.ensures.plain
