use Rattle.std.proofs.Common.{ℕ, List, subst, sym, arith}
use Rattle.base_lists.specs.price_table.Prices.{PriceBounds}
use Rattle.base_lists.proofs.price_table.Blocks.{push_bounds}
use Rattle.base_lists.proofs.price_table.lows.Lows.push.Goals as goal

pub invariant_of-self-in-Continue-branch-3 : goal.invariant_of-self-in-Continue-branch-3
invariant_of-self-in-Continue-branch-3 c =
    subst (λ (xs : List ℕ). PriceBounds xs c.self.inside.lows.items) (sym c.in_ok-push-2.ensures.items)
    (push_bounds c.self.inside.all.items c.self.inside.lows.items
    (λ e. c.if-len-eq0.false (grind (arith, c.len.ensures, c.self.inside.all.ok.0, e))) c.self.invariant)
