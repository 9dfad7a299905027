use Rattle.std.proofs.Common.{ℕ, ◌+◌, ◌-◌, ◌≡◌, Option, sym, ◌∙◌, ap, arith}
use Rattle.std.specs.Ordering.{nat_cmp}
use Rattle.std.specs.BTreeMap.{get}
use Rattle.base_lists.specs.declared.range_index.keys.Reach.{Reach}
use Rattle.base_lists.specs.range_index.Tops.{range_told}
use Rattle.base_lists.proofs.range_index.Changed.{empty, floored, none_if}
use Rattle.base_lists.proofs.range_index.keys.top_of.Goals as goal

pub returns-in-Some : goal.returns-in-Some
returns-in-Some c =
    let keys : ℕ → Option Reach = λ q. get nat_cmp c.args.tops.now q in
    let k = c.in-Some.ensures in
    let far : 0 + (c.args.at - c.in-Some.key.at) ≡ c.args.at - c.in-Some.key.at = omega arith in
    sym (floored keys c.in-Some.key.at c.args.at 0 c.in-Some.key.reach k.key k.before
    (λ q a b. none_if (keys q) (λ s. let l = k.last q b s in omega arith))
    ∙ ap (λ n. range_told c.in-Some.key.reach n) far ∙ sym c.tell.ensures)

pub returns-in-None : goal.returns-in-None
returns-in-None c = sym (empty (λ q. get nat_cmp c.args.tops.now q) c.args.at 0 c.in-None.ensures.none)
