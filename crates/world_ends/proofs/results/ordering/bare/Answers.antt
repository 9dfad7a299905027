use Rattle.std.proofs.Common.{◌≡◌, ◌+◌, ℕ, List, subst, sym, arith}
use Rattle.world_ends.proofs.results.Adding.{none_bare, one_bare}
use Rattle.world_ends.specs.results.Listing.{AreBare}
use Rattle.world_ends.specs.declared.results.ordering.Order.{Order}
use Rattle.world_ends.proofs.results.ordering.bare.Goals as goal

pub loop-at-init : goal.loop-at-init
loop-at-init c = record {
  bare = subst (λ (xs : List Order). AreBare 0 xs) (sym c.in_ok-orders.ensures.items) none_bare;
  within = omega arith;
}

pub loop-at-preserved : goal.loop-at-preserved
loop-at-preserved c =
    let i = c.loop-at.invariant in
    let n = c.loop-at.at in
    record {
      bare = subst (λ (xs : List Order). AreBare (n + 1) xs) (sym c.in_ok-push.ensures.items)
          (one_bare n c.loop-at.orders.items c.new.result c.new.ensures i.bare);
      within = (let t = c.loop-at-test.true in omega (arith, t));
    }

pub returns : goal.returns
returns c =
    let i = c.loop-at.invariant in
    let e : c.loop-at.at ≡ c.args.count = (let l = i.within in let t = c.loop-at-test.false in omega (arith, l, t)) in
    subst (λ (n : ℕ). AreBare n c.loop-at.orders.items) e i.bare
