-- Lists of calls on one window.
use Rattle.std.specs.Prelude.{ℕ, List, [], ◌∷◌, ◌++◌, ◌≤◌, Some, None, Option as Perhaps}
use Rattle.spec_wire.specs.credits.Ids.{counted, ids_from, outside, times}
use Rattle.spec_wire.specs.credits.Window.{HeldIds, first_window, after_take, after_grant}

pub data Call : Type 0 where
  -- of the first id and the charge
  taking : ℕ → ℕ → Call
  -- of the credits that are asked for
  granting : ℕ → Call

-- what is done where the ids are held, else nothing is
abbrev pub after_taking : Perhaps ℕ → ℕ → ℕ → HeldIds → HeldIds
after_taking None first charge w = after_take first charge w
after_taking (Some id) first charge w = w

abbrev pub ids_taken : Perhaps ℕ → ℕ → ℕ → List ℕ
ids_taken None first charge = ids_from first (counted charge)
ids_taken (Some id) first charge = []

abbrev pub after_call : Call → HeldIds → HeldIds
after_call (taking first charge) w = after_taking (outside w.held first (counted charge)) first charge w
after_call (granting asked) w = after_grant asked w

abbrev pub taken_by : Call → HeldIds → List ℕ
taken_by (taking first charge) w = ids_taken (outside w.held first (counted charge)) first charge
taken_by (granting asked) w = []

-- all ids that the calls take, one call after the other
abbrev pub all_taken : List Call → HeldIds → List ℕ
all_taken [] w = []
all_taken (c ∷ cs) w = taken_by c w ++ all_taken cs (after_call c w)

-- Over every list of calls on a new window each id is taken at most once.
abbrev pub EachIdOnce : Type 0
EachIdOnce = (calls : List Call) (id : ℕ) → times id (all_taken calls first_window) ≤ 1
