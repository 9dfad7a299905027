-- What an index of ranges tells of each byte.
use Rattle.std.specs.Prelude.{ℕ}
use Rattle.std.specs.Ordering.{nat_cmp}
use Rattle.std.specs.BTreeMap.{get}
use Rattle.base_lists.specs.declared.range_index.RangeIndex.{RangeIndex}
use Rattle.base_lists.specs.range_index.Tops.{top_in}

-- the number of the range that covers a byte last, or 0
abbrev pub top : RangeIndex → ℕ → ℕ
top index x = top_in (λ q. get nat_cmp index.tops q) x
