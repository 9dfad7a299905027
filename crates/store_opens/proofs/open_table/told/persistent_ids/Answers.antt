use Rattle.std.specs.BTreeSet.{contains}
use Rattle.std.specs.Ordering.{nat_cmp}
use Rattle.store_opens.specs.open_table.Stood.{keeps_in}
use Rattle.store_opens.proofs.open_table.StoodLemmas.{keeps_on, keeps_end}
use Rattle.store_opens.proofs.open_table.told.persistent_ids.Goals as goal

pub loop-id-preserved : goal.loop-id-preserved
loop-id-preserved c = keeps_on (λ q. contains nat_cmp c.keep_if.new.kept q) (λ q. contains nat_cmp c.loop-id.kept q)
    (λ q. keeps_in c.args.rows.now.entries q) c.loop-id.id-iterator c.next.new.self c.in-Some.id.now c.in-Some.row.now
    c.in-Some.ensures.steps c.loop-id.invariant c.in_ok-keep_if.ensures

pub returns-clause-kept : goal.returns-clause-kept
returns-clause-kept c = keeps_end (λ q. contains nat_cmp c.loop-id.kept q) (λ q. keeps_in c.args.rows.now.entries q)
    c.loop-id.id-iterator c.in-None.ensures.steps.0 c.loop-id.invariant
