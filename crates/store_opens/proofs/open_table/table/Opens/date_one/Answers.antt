use Rattle.std.proofs.Common.{nat_eq, ◌∙◌}
use Rattle.std.specs.HashMap.{get}
use Rattle.store_opens.proofs.open_table.DatedLemmas.{dated_with, dated_none, grows_with}
use Rattle.store_opens.proofs.open_table.Moved.{index_same}
use Rattle.store_opens.proofs.open_table.table.Opens.date_one.Goals as goal

pub returns-in-Some-clause-rows : goal.returns-in-Some-clause-rows
returns-in-Some-clause-rows c = λ q. c.set_deadline.ensures.rows q ∙ dated_with c.args.now q c.args.id
    c.in-Some.deadline (λ p. get nat_eq c.args.self.now.rows p) c.in-Some.ensures

pub returns-in-Some-clause-indexed : goal.returns-in-Some-clause-indexed
returns-in-Some-clause-indexed c = grows_with (λ q. get nat_eq c.args.self.now.rows q)
    (λ q. get nat_eq c.set_deadline.new.self.rows q) c.args.id c.in-Some.deadline _ _ c.set_deadline.ensures.whole
    c.set_deadline.ensures.others c.set_deadline.ensures.here c.set_deadline.ensures.rows

pub returns-in_default-clause-rows : goal.returns-in_default-clause-rows
returns-in_default-clause-rows c = λ q. dated_none c.args.now q c.args.id (λ p. get nat_eq c.args.self.now.rows p) c.in_default.ensures

pub returns-in_default-clause-indexed : goal.returns-in_default-clause-indexed
returns-in_default-clause-indexed c = index_same _ _
