use Rattle.std.proofs.Common.{◌≡◌, ℕ, ◌-◌, ◌≤◌, length, subst, arith, List}
use Rattle.std.proofs.lemmas.Grind.{common_steps}
use Rattle.base_lists.specs.price_table.Prices.{AllAbove, IsFirstPrice}
use Rattle.base_lists.proofs.price_table.Blocks.{piece, piece_length, joined, first_found}
use Rattle.base_lists.proofs.price_table.Prices.first_from.Goals as goal

pub first_behind-requires : goal.first_behind-requires
first_behind-requires c =
    let v : c.deref.result.now ≡ c.args.self.now = cc in
    let f = subst (λ (xs : List ℕ). AllAbove c.args.limit (piece c.args.from c.min-end.result xs) 0
    (length (piece c.args.from c.min-end.result xs))) v c.in-None.ensures in
    let e : c.min-end.result ≤ length c.args.self.now = grind (arith, common_steps) in
    let l = piece_length c.args.from c.min-end.result c.args.self.now e in
    λ i behind within below.
    joined c.args.limit c.args.from c.args.from c.min-end.result (c.min-end.result - c.args.from) c.args.self.now
    (omega arith) (λ j z k. f j z (omega (arith, l))) (λ j a b. absurd (omega arith)) i behind
    (grind (arith, common_steps))

pub returns-in-Some : goal.returns-in-Some
returns-in-Some c =
    let v : c.deref.result.now ≡ c.args.self.now = cc in
    first_found c.args.limit c.args.from c.args.from c.min-end.result c.in-Some.i c.args.self.now (omega arith)
    (grind (arith, common_steps))
    (subst (λ (xs : List ℕ). IsFirstPrice c.args.limit (piece c.args.from c.min-end.result xs) 0 c.in-Some.i) v
    c.in-Some.ensures) (λ j a b. absurd (omega arith))
