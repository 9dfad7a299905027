-- Deadlines of rows.
use Rattle.std.specs.Prelude.{◌≡◌, ◌⊎◌, ℕ, ◌&&◌, not, min, true, if◌then◌else◌, List, [], ◌∷◌, Option, Some, None, is_some}
use Rattle.spec_exchange.specs.Effects.{deadline_behind}
use Rattle.spec_exchange.specs.Step.{first_deadline, is_past}
use Rattle.store_opens.specs.declared.open_table.row.Row.{Row}
use Rattle.store_opens.specs.open_table.Rows.{open_of}
use Rattle.store_opens.specs.declared.open_index.index.Deadlines.{Deadlines}
use Rattle.store_opens.specs.open_index.Index.{indexes}

abbrev pub deadline_at : Option Row → Option ℕ
deadline_at None = None
deadline_at (Some r) = r.deadline

-- the row of an open that recovery found, at its first event
abbrev pub dated_row : ℕ → Option Row → Option Row
dated_row now None = None
dated_row now (Some r) = Some (record r { deadline = first_deadline now true r.session (open_of r) r.deadline })

abbrev pub with_deadline : ℕ → Option Row → Option Row
with_deadline d None = None
with_deadline d (Some r) = Some (record r { deadline = Some d })

-- the deadline that an open of this row gets at the first event behind a recovery, where it has neither one nor a session
abbrev pub first_of : ℕ → Option Row → Option ℕ
first_of now None = None
first_of now (Some r) = if not (is_some r.session) && not (is_some r.deadline) then Some (deadline_behind now r.timeout) else None

abbrev pub lesser : ℕ → Option ℕ → ℕ
lesser n None = n
lesser n (Some m) = min n m

-- the least id of rows in any order whose deadline is met, and of one that was found before
abbrev pub least_from : ℕ → Option ℕ → List (ℕ × Row) → Option ℕ
least_from now least [] = least
least_from now least (e ∷ es) = least_from now (if is_past now e.1.deadline then Some (lesser e.0 least) else least) es

abbrev pub least_past_in : ℕ → List (ℕ × Row) → Option ℕ
least_past_in now es = least_from now None es

-- an index that has each deadline that it had, and each that rows have anew
pub record IndexGrows (a b : ℕ → Option Row) (t u : Deadlines) : Type 0 where
  pub whole : u.is_whole ≡ true → t.is_whole ≡ true
  pub kept : (o d : ℕ) → indexes t d o ≡ true → indexes u d o ≡ true
  pub here : u.is_whole ≡ true → (o d : ℕ) → deadline_at (b o) ≡ Some d → (deadline_at (a o) ≡ Some d) ⊎ (indexes u d o ≡ true)

-- the least of an id that was found before and of those in a list whose first deadline would be met
abbrev pub least_dated_in : (ℕ → Option Row) → ℕ → List ℕ → Option ℕ → Option ℕ
least_dated_in rows now [] least = least
least_dated_in rows now (o ∷ os) least = least_dated_in rows now os (if is_past now (first_of now (rows o)) then Some
    (lesser o least) else least)
