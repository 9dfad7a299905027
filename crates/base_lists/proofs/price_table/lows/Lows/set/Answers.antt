use Rattle.std.proofs.Common.{ℕ, ◌*◌, ◌/◌, ◌<◌, ◌≤◌, length, slice_index, subst, arith, List}
use Rattle.std.proofs.lemmas.Grind.{common_steps}
use Rattle.base_lists.proofs.price_table.Blocks.{piece, set_bounds}
use Rattle.base_lists.proofs.price_table.lows.Lows.set.Goals as goal

pub invariant_of-self : goal.invariant_of-self
invariant_of-self c =
    set_bounds c.args.index c.args.price c.low_of.result c.min-end.result c.self.inside.all.items
    c.self.inside.lows.items (omega arith) (grind (arith, common_steps)) (grind (arith, common_steps)) c.self.invariant
    (subst (λ (xs : List ℕ). (i : ℕ) → i < length (piece (c.args.index / 128 * 128) c.min-end.result xs)
    → c.low_of.result ≤ slice_index (piece (c.args.index / 128 * 128) c.min-end.result xs) i)
    c.deref.ensures.value c.low_of.ensures)
