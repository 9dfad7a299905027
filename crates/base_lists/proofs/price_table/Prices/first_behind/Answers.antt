use Rattle.std.proofs.Common.{◌≡◌, ℕ, ◌+◌, ◌*◌, ◌/◌, ◌<◌, ◌≤◌, length, subst, arith, List}
use Rattle.std.proofs.lemmas.Grind.{common_steps}
use Rattle.base_lists.specs.price_table.Prices.{AllAbove, IsFirstPrice, Before, PriceBounds}
use Rattle.base_lists.proofs.price_table.Blocks.{piece, skips_many, searched, first_found}
use Rattle.base_lists.proofs.price_table.Prices.first_behind.Goals as goal

pub returns-in-Some-first_in : goal.returns-in-Some-first_in
returns-in-Some-first_in c =
    let f = c.in-Some.ensures in
    let b : PriceBounds c.args.self.now c.self.inside.lows = (let v : c.self.inside.all.items ≡ c.args.self.now = cc
    in subst (λ (xs : List ℕ). PriceBounds xs c.self.inside.lows) v c.self.invariant) in
    let done : Before c.args.limit c.args.self.now c.args.from c.in-Some.block =
    skips_many c.args.limit c.args.from c.loop-next.next c.in-Some.block c.args.self.now c.self.inside.lows b
    f.above c.loop-next.invariant.1 in
    let ahead : c.args.from ≤ c.in-Some.block * 128 = (let i = c.loop-next.invariant.0 in let g = f.behind
    in grind (arith, common_steps, i, g)) in
    let v : c.deref.result.now ≡ c.args.self.now = cc in
    first_found c.args.limit c.args.from (c.in-Some.block * 128) c.min-end.result c.in-Some-first_in.i c.args.self.now
    ahead (grind (arith, common_steps))
    (subst (λ (xs : List ℕ). IsFirstPrice c.args.limit (piece (c.in-Some.block * 128) c.min-end.result xs) 0
    c.in-Some-first_in.i) v c.in-Some-first_in.ensures)
    (λ j e k. done j e (let n = f.within in let m = b.few in grind (arith, common_steps, n, m)) k)

pub loop-next-preserved : goal.loop-next-preserved
loop-next-preserved c =
    let f = c.in-Some.ensures in
    let b : PriceBounds c.args.self.now c.self.inside.lows = (let v : c.self.inside.all.items ≡ c.args.self.now = cc
    in subst (λ (xs : List ℕ). PriceBounds xs c.self.inside.lows) v c.self.invariant) in
    let done : Before c.args.limit c.args.self.now c.args.from c.in-Some.block =
    skips_many c.args.limit c.args.from c.loop-next.next c.in-Some.block c.args.self.now c.self.inside.lows b
    f.above c.loop-next.invariant.1 in
    let v : c.deref.result.now ≡ c.args.self.now = cc in
    let ahead : c.args.from / 128 < c.in-Some.block + 1 = (let i = c.loop-next.invariant.0 in let g = f.behind in grind (arith, i, g)) in (
      ahead,
      searched c.args.limit c.args.from c.in-Some.block c.min-end.result c.args.self.now (let n = f.within
          in let m = b.few in grind (arith, common_steps, n, m)) (grind (arith, common_steps))
          (subst (λ (xs : List ℕ). AllAbove c.args.limit (piece (c.in-Some.block * 128) c.min-end.result xs) 0
          (length (piece (c.in-Some.block * 128) c.min-end.result xs))) v c.in_default-first_in.ensures) done,
    )
