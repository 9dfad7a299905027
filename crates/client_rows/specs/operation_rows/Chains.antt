-- A chain of links downwards, said by its gaps: between an operation and the one that its link names, none of the chain is unsettled.
use Rattle.std.specs.Prelude.{◌≡◌, ℕ, ◌-◌, ◌<◌, ◌≤◌, Bool, true, false, List, length}
use Rattle.client_rows.specs.declared.operation_rows.row.Row.{Row}
use Rattle.client_rows.specs.declared.operation_rows.chains.Chain.{Chain}
use Rattle.client_rows.specs.operation_rows.Rows.{row_at, with_link, links}

-- a link leads to a lower number, and that of 0 and of 1 nowhere
abbrev pub Descends : (ℕ → ℕ) → Type 0
Descends link = (g : ℕ) → link g ≤ g - 1

-- on h g: h is in the chain that g's link leads down
pub record Chained (link : ℕ → ℕ) (on : ℕ → ℕ → Bool) (stands : ℕ → Bool) : Type 0 where
  pub gap : (g h : ℕ) → link g < h → h < g → on h g ≡ true → stands h ≡ false
  -- the one that a link names goes on with the same chain
  pub same : (g : ℕ) → 0 < link g → (h : ℕ) → on h (link g) ≡ on h g
  pub is : (g : ℕ) → 0 < link g → on (link g) g ≡ true

-- from one on, at is the next that may be unsettled
pub record Reaches (on : ℕ → ℕ → Bool) (stands : ℕ → Bool) (from at : ℕ) : Type 0 where
  pub passed : (h : ℕ) → at < h → h < from → on h from ≡ true → stands h ≡ false
  pub left : at < from → stands from ≡ false
  pub same : 0 < at → (h : ℕ) → on h at ≡ on h from
  pub is : 0 < at → at < from → on at from ≡ true

-- rows that differ by this link alone
pub record SameBut (chain : Chain) (old new : List Row) : Type 0 where
  pub count : length new ≡ length old
  pub row : (g : ℕ) → row_at new g ≡ with_link chain (row_at old g) (links chain new g)

-- a lower one of the chain that is unsettled
pub record IsChainOn (on : ℕ → ℕ → Bool) (stands : ℕ → Bool) (at g : ℕ) : Type 0 where
  pub lower : at < g
  pub unsettled : stands at ≡ true
  pub member : on at g ≡ true
