use Rattle.std.proofs.Common.{ℕ, Option, sym, ◌∙◌, refl, arith}
use Rattle.std.specs.Ordering.{nat_cmp}
use Rattle.std.specs.BTreeMap.{get}
use Rattle.base_lists.specs.declared.range_index.keys.Reach.{Reach}
use Rattle.base_lists.proofs.range_index.Changed.{empty, floored, none_if, told_none}
use Rattle.base_lists.proofs.range_index.keys.rest_at.Goals as goal

pub returns-in-Some : goal.returns-in-Some
returns-in-Some c =
    let keys : ℕ → Option Reach = λ q. get nat_cmp c.args.tops.now q in
    let k = c.in-Some.ensures in
    λ f. c.rest.ensures f ∙ sym (floored keys c.in-Some.key.at c.args.at f c.in-Some.key.reach k.key k.before
    (λ q a b. none_if (keys q) (λ s. let l = k.last q b s in omega arith)))

pub returns-in-None : goal.returns-in-None
returns-in-None c = λ f. told_none (record { number = 0; more = 4294967295 }) refl f
    ∙ sym (empty (λ q. get nat_cmp c.args.tops.now q) c.args.at f c.in-None.ensures.none)
