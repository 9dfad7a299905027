use Rattle.std.proofs.Common.{◌≡◌, ℕ, ◌*◌, ◌/◌, ◌<◌, ◌≤◌, length, slice_index, set, subst, sym, arith, List}
use Rattle.std.proofs.lemmas.Grind.{common_steps}
use Rattle.base_lists.specs.price_table.Prices.{PriceBounds}
use Rattle.base_lists.proofs.price_table.Blocks.{piece, set_bounds}
use Rattle.base_lists.proofs.price_table.Prices.set.Goals as goal

pub invariant_of-self-else-price-low : goal.invariant_of-self-else-price-low
invariant_of-self-else-price-low c =
    let s : c.set-else-price-low.new.self ≡ set c.self.inside.lows (c.args.index / 128) c.low_of-low.result = cc in
    subst (λ (xs : List ℕ). PriceBounds (set c.self.inside.all.items c.args.index c.args.price) xs) (sym s)
    (set_bounds c.args.index c.args.price c.low_of-low.result c.min-end.result c.self.inside.all.items
    c.self.inside.lows (omega arith) (grind (arith, common_steps)) (grind (arith, common_steps)) c.self.invariant
    (subst (λ (xs : List ℕ). (i : ℕ) → i < length (piece (c.args.index / 128 * 128) c.min-end.result xs)
    → c.low_of-low.result ≤ slice_index (piece (c.args.index / 128 * 128) c.min-end.result xs) i)
    c.deref.ensures.value c.low_of-low.ensures))
