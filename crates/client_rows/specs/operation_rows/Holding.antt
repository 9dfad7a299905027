-- What ties the links and the lists to what waits. What operations ask comes in by two tests: holds h g, of one open, g waits
-- for h; fills h, h writes a byte or more.
use Rattle.std.specs.Prelude.{◌≡◌, ℕ, ◌<◌, ◌≤◌, ◌==◌, ◌&&◌, Bool, true, false, List, length, slice_index, ◌⊎◌}
use Rattle.client_values.specs.declared.operations.shapes.Kind.{Kind}
use Rattle.client_values.specs.declared.operations.shapes.Kind.TheVariants as kinds
use Rattle.client_rows.specs.declared.operation_rows.row.Row.{Row}
use Rattle.client_rows.specs.declared.operation_rows.chains.Chain.TheVariants as chains
use Rattle.client_rows.specs.operation_rows.Rows.{row_at, stands, owner, kind, begins, ends, links}
use Rattle.client_rows.specs.operation_rows.Chains.{Descends, Chained}
use Rattle.client_rows.specs.operation_rows.Listed.{IsListed}

-- a write, an end, a time, a rename or a removal
abbrev pub is_holding_changing : Kind → Bool
is_holding_changing kinds.Write = true
is_holding_changing kinds.End = true
is_holding_changing kinds.Change = true
is_holding_changing _ = false

-- ---- who stands in which chain

-- of the same open, and such
abbrev pub on_by : (ℕ → ℕ) → (ℕ → Bool) → ℕ → ℕ → Bool
on_by owner such h g = (owner h == owner g) && such h

abbrev pub holding_on_open : (ℕ → ℕ) → ℕ → ℕ → Bool
holding_on_open owner h g = on_by owner (λ x. true) h g

abbrev pub on_changes : (ℕ → ℕ) → (ℕ → Kind) → ℕ → ℕ → Bool
on_changes owner kind h g = on_by owner (λ x. is_holding_changing (kind x)) h g

abbrev pub on_filled : (ℕ → ℕ) → (ℕ → Bool) → ℕ → ℕ → Bool
on_filled owner fills h g = on_by owner fills h g

-- in the chain that an operation of this kind goes down
abbrev pub on_chain : Kind → (ℕ → ℕ) → (ℕ → Kind) → (ℕ → Bool) → ℕ → ℕ → Bool
on_chain kinds.End owner kind fills h g = on_changes owner kind h g
on_chain kinds.Change owner kind fills h g = on_changes owner kind h g
on_chain kinds.Look owner kind fills h g = on_filled owner fills h g
on_chain kinds.Close owner kind fills h g = holding_on_open owner h g
on_chain _ owner kind fills h g = false

-- ---- holders

-- b holds g up: its create, or a lower one that it waits for
pub record HoldingHolder (holds : ℕ → ℕ → Bool) (owner : ℕ → ℕ) (stands : ℕ → Bool) (b g : ℕ) : Type 0 where
  pub lower : b < g
  pub unsettled : stands b ≡ true
  pub same : owner b ≡ owner g
  pub why : (b ≡ owner g) ⊎ (holds b g ≡ true)

-- once l is settled, so is h
abbrev pub Leads : (ℕ → ℕ → Bool) → (ℕ → ℕ) → ℕ → ℕ → Type 0
Leads holds owner h l = (l ≡ h) ⊎ ((h < l) × (owner h ≡ owner l) × (holds h l ≡ true))

-- what is settled waits for nothing
abbrev pub AreFirst : (ℕ → ℕ → Bool) → (ℕ → ℕ) → (ℕ → Bool) → Type 0
AreFirst holds owner stands = (g h : ℕ) → 0 < g → stands g ≡ false → h < g → owner h ≡ owner g → holds h g ≡ true → stands h ≡ false

-- an entry of a stretch leads to h
pub record IsEntry (holds : ℕ → ℕ → Bool) (owner : ℕ → ℕ) (holders : List ℕ) (begin end h : ℕ) : Type 0 where
  pub at : ℕ
  pub behind : begin ≤ at
  pub within : at < end
  pub leads : Leads holds owner h (slice_index holders at)

pub record HoldingFits (holds : ℕ → ℕ → Bool) (fills : ℕ → Bool) (owner : ℕ → ℕ) (kind : ℕ → Kind) (stands : ℕ → Bool)
    (all changes filled begin end : ℕ → ℕ) (holders : List ℕ) : Type 0 where
  -- a create is on its own open
  pub own : (g : ℕ) → owner (owner g) ≡ owner g
  pub opens : Chained all (holding_on_open owner) stands
  pub changing : Chained changes (on_changes owner kind) stands
  pub filling : Chained filled (on_filled owner fills) stands
  -- all of a chain that one goes down hold it up, or are its create
  pub suits : (h g : ℕ) → h < g → on_chain (kind g) owner kind fills h g ≡ true → (h ≡ owner g) ⊎ (holds h g ≡ true)
  -- what is listed holds it up
  pub entries : (g i : ℕ) → begin g ≤ i → i < end g
      → (slice_index holders i < g) × (owner (slice_index holders i) ≡ owner g) × (holds (slice_index holders i) g ≡ true)
  pub numbered : (g i : ℕ) → begin g ≤ i → i < end g → 0 < slice_index holders i
  -- whatever holds it up is settled, is found by its list, or stands in its chain
  pub covered : (g h : ℕ) → 0 < h → h < g → owner h ≡ owner g → holds h g ≡ true
      → (stands h ≡ false) ⊎ (IsEntry holds owner holders (begin g) (end g) h ⊎ (on_chain (kind g) owner kind fills h g ≡ true))

abbrev pub FitsRows : (ℕ → ℕ → Bool) → (ℕ → Bool) → List Row → List ℕ → Type 0
FitsRows holds fills rows holders =
    HoldingFits holds fills (owner rows) (kind rows) (stands rows) (links chains.All rows) (links chains.Changes rows)
    (links chains.Filled rows) (begins rows) (ends rows) holders

-- the chains alone
pub record FitsChains (holds : ℕ → ℕ → Bool) (fills : ℕ → Bool) (owner : ℕ → ℕ) (kind : ℕ → Kind) (stands : ℕ → Bool)
    (all changes filled : ℕ → ℕ) : Type 0 where
  pub opens : Chained all (holding_on_open owner) stands
  pub changing : Chained changes (on_changes owner kind) stands
  pub filling : Chained filled (on_filled owner fills) stands
  pub suits : (h g : ℕ) → h < g → on_chain (kind g) owner kind fills h g ≡ true → (h ≡ owner g) ⊎ (holds h g ≡ true)

abbrev pub ChainsFit : (ℕ → ℕ → Bool) → (ℕ → Bool) → List Row → Type 0
ChainsFit holds fills rows =
    FitsChains holds fills (owner rows) (kind rows) (stands rows) (links chains.All rows) (links chains.Changes rows)
    (links chains.Filled rows)

-- the links that are followed lead to lower ones
pub record Descend (rows : List Row) : Type 0 where
  pub all : Descends (links chains.All rows)
  pub changes : Descends (links chains.Changes rows)
  pub filled : Descends (links chains.Filled rows)

-- whatever the operations ask, no link and no list leads out of the rows
pub record IsSafe (rows : List Row) (holders : List ℕ) : Type 0 where
  pub descend : Descend rows
  pub listed : (g : ℕ) → g < length rows → IsListed rows holders g
  pub nought : stands rows 0 ≡ false
  pub owned : (g : ℕ) → g < length rows → owner rows g ≤ g

-- what is left where links and the ends of lists are taken out
abbrev pub bare : Row → Row
bare r = record r { holders_end = 0; lower = 0; change = 0; filled = 0; dear = 0 }

pub record Alike (old new : List Row) : Type 0 where
  pub count : length new ≡ length old
  pub row : (g : ℕ) → bare (row_at new g) ≡ bare (row_at old g)
