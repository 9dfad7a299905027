-- A lock or unlock in the model's words (MS-SMB2 3.3.5.14).
use Rattle.std.specs.Prelude.{◌≡◌, ℕ, [], List, Option, Some, None, nat_eq, ⊤}
use Rattle.std.specs.HashMap.{get}
use Rattle.spec_exchange.specs.State as model
use Rattle.spec_exchange.specs.Ranges.{RangeAnswer, Stands, Denied}
use Rattle.store_opens.specs.share_modes.Answers.{status_of}
use Rattle.store_opens.specs.declared.share_modes.lists.Range.{Range}
use Rattle.store_opens.specs.declared.open_index.held.FileOpens.{FileOpens}
use Rattle.store_opens.specs.declared.open_table.row.Row.{Row}
use Rattle.store_opens.specs.declared.open_table.table.Opens.{Opens}
use Rattle.store_opens.specs.declared.share_modes.ranges.RangeError.{RangeError}
use Rattle.store_opens.specs.declared.share_modes.ranges.RangeError.TheVariants.{Memory}

-- the refusal tells the status, or memory ran out
abbrev pub DeniedBy : RangeError → RangeAnswer → Type 0
DeniedBy Memory a = ⊤
DeniedBy e a = a ≡ Denied (status_of e)

-- the answer stands, with ranges of which P holds
abbrev pub StandsWith : RangeAnswer → (List model.Range → Type 0) → Type 0
StandsWith (Stands ranges) P = P ranges
StandsWith (Denied status) P = ⊥

-- the ranges that the table has of a file, and of the file of an open
abbrev pub ranges_in : Option FileOpens → List Range
ranges_in None = []
ranges_in (Some row) = row.ranges

abbrev pub held_of : Opens → ℕ → List Range
held_of t file = ranges_in (get nat_eq t.files file)

abbrev pub file_at : Option Row → ℕ
file_at None = 0
file_at (Some r) = r.file

abbrev pub held_by : Opens → ℕ → List Range
held_by t id = held_of t (file_at (get nat_eq t.rows id))

-- the row of a file with these ranges
abbrev pub with_ranges : List Range → Option FileOpens → Option FileOpens
with_ranges rs None = None
with_ranges rs (Some r) = Some (record r { ranges = rs })
