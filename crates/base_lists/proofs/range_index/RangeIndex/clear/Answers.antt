use Rattle.std.specs.Ordering.{nat_cmp}
use Rattle.std.specs.BTreeMap.{get}
use Rattle.base_lists.proofs.range_index.Changed.{empty, no_keys}
use Rattle.base_lists.proofs.range_index.RangeIndex.clear.Goals as goal

pub returns : goal.returns
returns c = λ x. empty (λ q. get nat_cmp c.clear.new.self q) x 0 (λ q h. no_keys c.clear.new.self c.clear.ensures.empty q)
