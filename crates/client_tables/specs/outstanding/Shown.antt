-- The set of what is outstanding.
use Rattle.std.specs.Prelude.{◌≡◌, ℕ, ◌<◌, List, length}
use Rattle.base_lists.specs.declared.number_set.Members.{Members}
use Rattle.base_lists.specs.number_set.Members.{MembersFit, has, size}
use Rattle.client_rows.specs.declared.operation_rows.row.Row.{Row}
use Rattle.client_rows.specs.operation_rows.Rows.{is_out}

-- the members are those of which something is outstanding
pub record HoldsOut (rows : List Row) (out : Members) : Type 0 where
  pub fits : MembersFit out
  pub sized : size out ≡ length rows
  pub out_is : (g : ℕ) → g < length rows → has out g ≡ is_out rows g
