use Rattle.std.proofs.Common.{sym, nat_eq}
use Rattle.std.specs.HashMap.{get}
use Rattle.store_opens.proofs.open_index.SessionLemmas.{written_row, count_row}
use Rattle.store_opens.proofs.open_index.sessions.count_in.Goals as goal

pub returns-in-Some : goal.returns-in-Some
returns-in-Some c = record {
  counted = λ _. count_row (λ q. get nat_eq c.args.sessions.now q)
      (λ q. get nat_eq (c.get_mut.follows.lender c.count.new.self) q) c.args.session c.in-Some.row.now
      c.count.new.self (sym c.in-Some.ensures.value)
      (written_row c.args.sessions.now (c.get_mut.follows.lender c.count.new.self) c.args.session c.in-Some.row.now
      c.count.new.self (sym c.in-Some.ensures.value) (c.get_mut.follows.holds c.count.new.self).3)
      c.count.ensures.kept c.count.ensures.results c.count.ensures.opens c.count.ensures.plain;
}
