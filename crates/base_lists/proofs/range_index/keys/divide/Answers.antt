use Rattle.std.proofs.Common.{ℕ, Option, Some}
use Rattle.std.specs.Ordering.{nat_cmp}
use Rattle.std.specs.BTreeMap.{get}
use Rattle.base_lists.specs.declared.range_index.keys.Reach.{Reach}
use Rattle.base_lists.proofs.range_index.Changed.{divided, at_new, at_others}
use Rattle.base_lists.proofs.range_index.keys.divide.Goals as goal

pub returns-in-Ok-clause-same : goal.returns-in-Ok-clause-same
returns-in-Ok-clause-same c =
    let u = c.in-Ok.ensures.updates in
    let keys : ℕ → Option Reach = λ q. get nat_cmp c.args.tops.now q in
    let more : ℕ → Option Reach = λ q. get nat_cmp c.insert.new.self q in
    λ x. divided keys more c.args.at c.rest_at-reach.result
    (at_new c.args.tops.now c.insert.new.self c.args.at (Some c.rest_at-reach.result) u) c.rest_at-reach.ensures
    (at_others c.args.tops.now c.insert.new.self c.args.at (Some c.rest_at-reach.result) u) x
