use Rattle.std.proofs.Common.{None, refl, sym, ◌∙◌}
use Rattle.std.specs.Ordering.{nat_cmp}
use Rattle.std.specs.BTreeMap.{get}
use Rattle.base_lists.proofs.range_index.Changed.{at_key, gone, at_new, at_others, told_none}
use Rattle.base_lists.proofs.range_index.keys.forget_key.Goals as goal

pub returns-then-number_below-eq0-clause-none : goal.returns-then-number_below-eq0-clause-none
returns-then-number_below-eq0-clause-none c =
    let u = c.remove.ensures.updates in
    gone (λ q. get nat_cmp c.args.tops.now q) (λ q. get nat_cmp c.remove.new.self q) c.args.at
    (at_new c.args.tops.now c.remove.new.self c.args.at None u)
    (at_others c.args.tops.now c.remove.new.self c.args.at None u) (λ h. sym (c.number_below.ensures.other h) ∙ c.if-number_below-eq0.true)

pub returns-else-number_below-eq0-clause-none : goal.returns-else-number_below-eq0-clause-none
returns-else-number_below-eq0-clause-none c = λ f.
    at_key (λ q. get nat_cmp c.put.new.tops q) c.args.at f (record { number = 0; more = 4294967295 }) c.put.ensures.key
    ∙ told_none (record { number = 0; more = 4294967295 }) refl f
