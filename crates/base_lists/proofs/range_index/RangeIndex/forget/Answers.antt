use Rattle.std.proofs.Common.{ℕ, Option, refl}
use Rattle.std.specs.Ordering.{nat_cmp}
use Rattle.std.specs.BTreeMap.{get}
use Rattle.base_lists.specs.declared.range_index.keys.Reach.{Reach}
use Rattle.base_lists.proofs.range_index.Changed.{forgot}
use Rattle.base_lists.proofs.range_index.RangeIndex.forget.Goals as goal

pub returns-then-has_key : goal.returns-then-has_key
returns-then-has_key c =
    let old : ℕ → Option Reach = λ q. get nat_cmp c.args.self.now.tops q in
    let new : ℕ → Option Reach = λ q. get nat_cmp c.forget_key.new.tops q in
    let h = c.if-has_key.ensures refl in
    forgot old new c.args.at c.args.number h.0 h.1 h.2 c.forget_key.ensures.none c.forget_key.ensures.others
