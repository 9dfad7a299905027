use Rattle.std.proofs.Common.{ℕ, ◌+◌, ◌≤◌, List, length, sym, subst, arith}
use Rattle.client_rows.proofs.operation_rows.Walking.{positive}
use Rattle.client_rows.proofs.operation_rows.Finding.{Finds, finds_held, finds_none, finds_one, finds_over, finds_stands}
use Rattle.client_rows.proofs.operation_rows.choosing.find_from.Goals as goal

pub loop-from-preserved : goal.loop-from-preserved
loop-from-preserved c =
    let e = c.holder_of-holder.ensures in
    subst (λ (ps : List ℕ). Finds c.args.rows.now c.args.holders.now c.args.prices.now c.args.watchers.now
    c.holder_of-holder.new.rows ps c.watch.new.self c.args.start (c.in-Some.index + 1) c.args.credits) (sym c.set.ensures)
    (finds_held c.args.rows.now c.args.holders.now c.args.prices.now c.args.watchers.now c.loop-from.rows
    c.holder_of-holder.new.rows c.loop-from.prices c.loop-from.watchers c.watch.new.self c.args.start c.loop-from.from
    c.args.credits c.in-Some.index c.holder_of-holder.result c.loop-from.invariant c.requires.credits c.in-Some.ensures
    e.alike e.safe (positive c.holder_of-holder.result c.if-holder-eq0.false) e.some e.fits c.watch.ensures.count c.watch.ensures.watch)

pub returns-in_default-clause-chosen : goal.returns-in_default-clause-chosen
returns-in_default-clause-chosen c = λ holds fills cost s. finds_none c.args.rows.now c.args.holders.now c.args.prices.now
    c.args.watchers.now c.loop-from.rows c.loop-from.prices c.loop-from.watchers c.args.start c.loop-from.from
    c.args.credits c.loop-from.invariant c.requires.credits c.in_default.ensures holds fills cost s

pub returns-clause-chosen : goal.returns-clause-chosen
returns-clause-chosen c = λ holds fills cost s.
    let l : length c.loop-from.rows ≤ c.loop-from.from = (let t = c.loop-from-test.false in omega arith) in
    finds_over c.args.rows.now c.args.holders.now c.args.prices.now c.args.watchers.now c.loop-from.rows
    c.loop-from.prices c.loop-from.watchers c.args.start c.loop-from.from c.args.credits c.loop-from.invariant l holds fills cost s

pub returns-then-holder-eq0-clause-chosen : goal.returns-then-holder-eq0-clause-chosen
returns-then-holder-eq0-clause-chosen c = λ holds fills cost s.
    let now = c.loop-from.invariant.stay holds fills cost s in
    finds_one c.args.rows.now c.args.holders.now c.args.prices.now c.args.watchers.now c.loop-from.rows
    c.loop-from.prices c.loop-from.watchers c.args.start c.loop-from.from c.args.credits c.in-Some.index
    c.loop-from.invariant c.requires.credits c.in-Some.ensures holds fills cost
    (c.holder_of-holder.ensures.none holds fills now.fits now.first c.if-holder-eq0.true) s

pub returns-then-holder-eq0-clause-stands : goal.returns-then-holder-eq0-clause-stands
returns-then-holder-eq0-clause-stands c = λ holds fills cost s. finds_stands c.args.rows.now c.args.holders.now c.args.prices.now
    c.args.watchers.now c.loop-from.rows c.holder_of-holder.new.rows c.loop-from.prices c.loop-from.watchers
    c.args.start c.loop-from.from c.args.credits c.loop-from.invariant c.holder_of-holder.ensures.alike
    c.holder_of-holder.ensures.fits holds fills cost s
