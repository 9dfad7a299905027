-- A table of opens of which some have got their first deadline.
use Rattle.std.specs.Prelude.{◌≡◌, ℕ, Bool, Option}
use Rattle.store_opens.specs.open_table.Shown.{HasOpensRoom, HasRoomIn, HasOpensSessionRoom}
use Rattle.store_opens.specs.declared.open_table.table.Opens.{Opens}

-- it has the room that it had, and all but deadlines as it was
pub record HasRoomYet (old new : Opens) : Type 0 where
  pub room : HasOpensRoom old → HasOpensRoom new
  pub in_session : (x o : ℕ) → HasOpensSessionRoom old x o → HasOpensSessionRoom new x o
  pub in_new : (session : Option ℕ) (o : ℕ) (persistent : Bool) → HasRoomIn old session o persistent → HasRoomIn new session o persistent
  pub rest : new ≡ record old { rows = new.rows; deadlines = new.deadlines; undated = new.undated }
