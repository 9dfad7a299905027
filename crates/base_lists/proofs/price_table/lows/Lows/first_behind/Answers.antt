use Rattle.std.proofs.Common.{◌≡◌, ℕ, ◌*◌, length, subst, arith, List}
use Rattle.std.proofs.lemmas.Grind.{common_steps}
use Rattle.base_lists.specs.price_table.Prices.{AllAbove, IsFirstPrice, PriceBounds}
use Rattle.base_lists.proofs.price_table.Blocks.{piece, skips, searched, first_found}
use Rattle.base_lists.proofs.price_table.lows.Lows.first_behind.Goals as goal
use Rattle.base_lists.proofs.price_table.lows.Lows.first_behind.Goals.{then-index-limit+in_default, else-index-limit}

pub returns-in-Some : goal.returns-in-Some
returns-in-Some c =
    first_found c.args.limit c.args.from (c.loop-block.block * 128) c.min-end.result c.in-Some.i c.args.self.now
    (grind (arith, common_steps)) (grind (arith, common_steps))
    (let v : c.deref.result.now ≡ c.args.self.now = cc
    in subst (λ (xs : List ℕ). IsFirstPrice c.args.limit (piece (c.loop-block.block * 128) c.min-end.result xs) 0
    c.in-Some.i) v c.in-Some.ensures)
    (λ j f k. c.loop-block.invariant j f (grind (arith, common_steps)) k)

pub loop-block-preserved : goal.loop-block-preserved
loop-block-preserved c =
    elim c.if-index-limit.branch [
      | then-index-limit+in_default w ↦
          searched c.args.limit c.args.from c.loop-block.block w.min-end.result c.args.self.now
          (grind (arith, common_steps)) (grind (arith, common_steps))
          (let v : w.deref.result.now ≡ c.args.self.now = cc
          in subst (λ (xs : List ℕ). AllAbove c.args.limit (piece (c.loop-block.block * 128) w.min-end.result xs)
          0 (length (piece (c.loop-block.block * 128) w.min-end.result xs))) v w.in_default.ensures)
          c.loop-block.invariant
      | else-index-limit w ↦
          skips c.args.limit c.args.from c.loop-block.block c.args.self.now c.self.inside.lows.items
          (subst (λ (xs : List ℕ). PriceBounds xs c.self.inside.lows.items)
          (let v : c.self.inside.all.items ≡ c.args.self.now = cc in v) c.self.invariant)
          (grind (arith, common_steps)) c.loop-block.invariant
    ]
