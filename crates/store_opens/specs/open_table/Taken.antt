-- An open that was taken out of the table, as the state has it.
use Rattle.std.specs.Prelude.{◌≡◌, ℕ, map, true, Option, Some, None}
use Rattle.spec_exchange.specs.Table.{has}
use Rattle.spec_exchange.specs.State as model
use Rattle.store_opens.specs.share_modes.Locking.{range_of}
use Rattle.store_opens.specs.open_table.Rows.{OpenRowFound}
use Rattle.store_opens.specs.declared.open_table.leave.Taken.{Taken}
use Rattle.store_opens.specs.declared.open_table.table.Opens.{Opens}

pub record IsTaken (t : Taken) (s : model.Server) (o : ℕ) : Type 0 where
  pub id_is : t.id ≡ o
  pub row_is : OpenRowFound (Some t.row) s o
  pub ranges_are : map range_of t.ranges.items ≡ s.ranges (s.opened o).file

abbrev pub TakenFor : Option Taken → model.Server → ℕ → Type 0
TakenFor None s o = ⊥
TakenFor (Some t) s o = IsTaken t s o

-- where it has no deadline, it is among those that wait for one
abbrev pub IsUndated : Opens → model.Server → ℕ → Type 0
IsUndated t s o = s.deadline o ≡ None → has o t.undated.items ≡ true
