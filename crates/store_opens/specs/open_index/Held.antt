-- What the opens of a file hold of it (MS-FSA 2.1.5.1.2.2, 2.1.4.10): their count, sharing and ranges.
use Rattle.std.specs.Prelude.{◌≡◌, ℕ, ◌==◌, if◌then◌else◌, List, [], ◌∷◌, length, map, Option, Some, None}
use Rattle.spec_exchange.specs.State as model
use Rattle.store_opens.specs.declared.share_modes.lists.Open.{Open}
use Rattle.store_opens.specs.share_modes.Sharing.{CountsShown}
use Rattle.store_opens.specs.share_modes.Locking.{range_of}
use Rattle.store_opens.specs.declared.open_index.held.FileOpens.{FileOpens}

-- an open as sharing looks at it
abbrev pub sharing_of : ℕ → model.Open → Open
sharing_of o row = record { id = o; access = row.access; share = row.share }

-- the opens of a file, in the order of the list
abbrev pub sharing_in : (ℕ → model.Open) → List ℕ → ℕ → List Open
sharing_in opened [] f = []
sharing_in opened (o ∷ os) f = if (opened o).file == f then sharing_of o (opened o) ∷ sharing_in opened os f else sharing_in opened os f

-- the row of a file with these opens, whose ranges these are
pub record HeldIs (r : FileOpens) (os : List Open) (ranges : List model.Range) : Type 0 where
  pub count_is : length os ≡ r.count
  pub shares_are : CountsShown r.shares os
  pub ranges_are : ranges ≡ map range_of r.ranges

-- a file without a row has no open and no range
abbrev pub HeldShown : Option FileOpens → List Open → List model.Range → Type 0
HeldShown None os ranges = (os ≡ []) × (ranges ≡ [])
HeldShown (Some r) os ranges = HeldIs r os ranges
