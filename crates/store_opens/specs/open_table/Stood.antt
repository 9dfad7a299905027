-- Opens that a snapshot tells, put back one by one, and what the table tells of them.
use Rattle.std.specs.Prelude.{◌≡◌, ℕ, ◌==◌, ◌++◌, nat_lt, nat_le, Bool, true, false, not, ◌&&◌, ◌||◌, if◌then◌else◌, List, [], ◌∷◌}
use Rattle.std.specs.Prelude.{length, Option, Some, None, is_some}
use Rattle.std.specs.List.{list_any, IsDistinct}
use Rattle.std.specs.HashSet.{hash_set_len}
use Rattle.spec_exchange.specs.State as model
use Rattle.spec_exchange.specs.Opens.{id_of, add_open}
use Rattle.spec_exchange.specs.Effects.{set_ranges}
use Rattle.store_opens.specs.declared.share_modes.lists.Range.{Range}
use Rattle.store_opens.specs.declared.open_index.held.FileOpens.{FileOpens}
use Rattle.store_opens.specs.declared.open_table.row.OpenParts.{OpenParts}
use Rattle.store_opens.specs.declared.open_table.row.Row.{Row}
use Rattle.store_opens.specs.declared.open_table.table.Opens.{Opens}
use Rattle.store_opens.specs.share_modes.Locking.{range_of}
use Rattle.store_opens.specs.open_table.Rows.{open_with}
use Rattle.store_opens.specs.open_table.Shown.{pair_eq}

-- ---- an open that is put back

-- an id that was given, in this epoch or an earlier one, and that is no open's
abbrev pub has_free_id : model.Server → ℕ → Bool
has_free_id s o = nat_lt 0 o && (nat_le o (id_of s.epoch s.open_ids_given) && not (s.standing o))

-- a guid that no live open of the client has
abbrev pub has_free_name : model.Server → ℕ → Option ℕ → Bool
has_free_name s client None = false
has_free_name s client (Some g) = not (is_some (s.by_guid client g))

abbrev pub may_stand_again : model.Server → ℕ → OpenParts → Bool
may_stand_again s o p = has_free_id s o && (p.persistent && has_free_name s p.client p.guid)

-- it stands without a session
abbrev pub stood : model.Server → ℕ → OpenParts → List ℕ → model.Server
stood s o p user = add_open s o (open_with p user) None p.sequence

-- ---- a range that is put back, behind those of its file

abbrev pub with_range : model.Server → Range → model.Server
with_range s r = set_ranges s (s.opened r.owner).file (s.ranges (s.opened r.owner).file ++ range_of r ∷ [])

abbrev pub with_pushed : Range → Option FileOpens → Option FileOpens
with_pushed x None = None
with_pushed x (Some r) = Some (record r { ranges = r.ranges ++ x ∷ [] })

-- ---- guids of opens that expired

-- none of them did before, and there is a number for one more
abbrev pub may_expire_once : model.Server → ℕ → ℕ → Bool
may_expire_once s client guid = not (s.expired_guids client guid) && nat_lt s.expired_count 0xffff_ffff

-- each pair that expired, once
pub record AreExpired (pairs : List (ℕ × ℕ)) (s : model.Server) : Type 0 where
  pub each : (c g : ℕ) → list_any (pair_eq (c, g)) pairs ≡ s.expired_guids c g
  pub once : IsDistinct pair_eq pairs
  pub count : length pairs ≡ s.expired_count

-- none expired twice
abbrev pub counts_each_once : Opens → Bool
counts_each_once t = hash_set_len t.expired == t.expired_count

-- ---- rows that outlive a restart

-- a row of this id is persistent
abbrev pub keeps_in : List (ℕ × Row) → ℕ → Bool
keeps_in [] q = false
keeps_in (e ∷ es) q = if e.0 == q then (e.1.persistent || keeps_in es q) else keeps_in es q
