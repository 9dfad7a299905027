use Rattle.std.proofs.Common.{ℕ, ◌<◌, List, sym, subst}
use Rattle.client_rows.proofs.operation_rows.Changing.{Wakes, rewatched, wakes_one}
use Rattle.client_rows.proofs.operation_rows.moves.wake.Goals as goal

pub loop-at-preserved : goal.loop-at-preserved
loop-at-preserved c =
    let e = c.in-Some.ensures.some.1 in
    subst (λ (ps : List ℕ). Wakes c.args.rows.now c.args.prices.now c.args.watchers.now ps c.release.new.self c.args.index c.in-Some.at)
    (sym c.set.ensures)
    (wakes_one c.args.rows.now c.args.prices.now c.args.watchers.now c.loop-at.prices c.loop-at.watchers c.release.new.self
    c.args.index c.loop-at.below c.in-Some.at c.price-price.result c.loop-at.invariant c.requires.above
    (c.loop-at.invariant.counts.inside c.in-Some.at (subst (λ z. 0 < z) (sym e) c.requires.above)) e
    c.in-Some.ensures.highest c.release.ensures.count c.in-Some.ensures.watch c.price-price.ensures)

pub returns-clause-stands : goal.returns-clause-stands
returns-clause-stands c = λ holds fills holders s.
    rewatched holds fills c.args.rows.now holders c.loop-at.prices c.loop-at.watchers c.release.new.self
    c.in_default.ensures.same (c.loop-at.invariant.stay holds fills holders s)
