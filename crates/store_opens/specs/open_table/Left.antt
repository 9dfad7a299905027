-- The table behind an open that leaves.
use Rattle.std.specs.Prelude.{◌≡◌, ℕ, ◌+◌, ◌==◌, nat_eq, true, false, if◌then◌else◌, List, ◌∷◌, Some, None, IfSome}
use Rattle.std.specs.HashMap.{get, hash_map_len}
use Rattle.spec_exchange.specs.State as model
use Rattle.spec_exchange.specs.Opens.{with_guid}
use Rattle.spec_exchange.specs.Ranges.{without_owner}
use Rattle.store_opens.specs.declared.share_modes.lists.Open.{Open}
use Rattle.store_opens.specs.open_index.Held.{HeldShown, sharing_of}
use Rattle.store_opens.specs.open_index.Index.{indexes}
use Rattle.store_opens.specs.open_index.Keep.{IsNotListed}
use Rattle.store_opens.specs.declared.open_table.row.Row.{Row}
use Rattle.store_opens.specs.declared.open_table.table.Opens.{Opens}
use Rattle.store_opens.specs.open_table.Rows.{open_of}
use Rattle.store_opens.specs.open_table.Shown.{pair_eq}

-- what the maps of the new table say of the old one's, its sessions and its index aside
pub record Left (t u : Opens) (o : ℕ) (row : Row) : Type 0 where
  pub was : get nat_eq t.rows o ≡ Some row
  pub rows : (q : ℕ) → get nat_eq u.rows q ≡ (if q == o then None else get nat_eq t.rows q)
  pub len : hash_map_len u.rows + 1 ≡ hash_map_len t.rows
  pub guids : (c g : ℕ) → get pair_eq u.guids (c, g) ≡ with_guid (λ d h. get pair_eq t.guids (d, h)) row.client row.guid None c g
  pub file : (os : List Open) (ranges : List model.Range) → HeldShown (get nat_eq t.files row.file)
      (sharing_of o (open_of row) ∷ os) ranges → HeldShown (get nat_eq u.files row.file) os (without_owner o ranges)
  pub files : (q : ℕ) → (q == row.file) ≡ false → get nat_eq u.files q ≡ get nat_eq t.files q
  pub undated : u.undated ≡ t.undated
  pub epoch : u.epoch ≡ t.epoch
  pub given : u.given ≡ t.given
  pub expired : u.expired ≡ t.expired
  pub expired_count : u.expired_count ≡ t.expired_count
  pub whole : u.deadlines.is_whole ≡ t.deadlines.is_whole
  pub index : (q d : ℕ) → (q == o) ≡ false → indexes t.deadlines d q ≡ true → indexes u.deadlines d q ≡ true

-- the index has no deadline that the row of this open told
abbrev pub IsUndatedIn : Opens → Row → ℕ → Type 0
IsUndatedIn t row o = (d : ℕ) → row.deadline ≡ Some d → indexes t.deadlines d o ≡ false

-- nor does the session's row list it
abbrev pub IsUnlisted : Opens → Row → ℕ → Type 0
IsUnlisted t row o = IsUndatedIn t row o × IfSome row.session (λ x. IsNotListed (get nat_eq t.sessions x) o)
