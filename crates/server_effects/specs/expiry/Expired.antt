-- An open that was taken out in front of an event, with its file where that goes, as the state has it (MS-SMB2 3.3.6.2).
use Rattle.std.specs.Prelude.{◌≡◌, ℕ, Bool, true, false, if◌then◌else◌, Option, Some, None, ⊤}
use Rattle.spec_exchange.specs.State as model
use Rattle.spec_exchange.specs.Opens.{goes, is_kept_back, drop_open, pending_behind}
use Rattle.spec_exchange.specs.Files.{remove_file}
use Rattle.store_opens.specs.open_table.Changes.{is_expired_in}
use Rattle.store_opens.specs.open_table.Shown.{HasOpensRoom, ShowsOpens}
use Rattle.store_opens.specs.open_table.Taken.{IsTaken, IsUndated}
use Rattle.store_opens.specs.declared.open_table.table.Opens.{Opens}
use Rattle.store_files.specs.file_tree.Gone.{GoneOf}
use Rattle.store_files.specs.file_tree.Shown.{ShowsFiles}
use Rattle.store_files.specs.declared.file_tree.gone.Gone.{Gone}
use Rattle.store_files.specs.declared.file_tree.tree.Tree.{Tree}
use Rattle.server_effects.specs.declared.expiry.expiry.Expired.{Expired}
use Rattle.server_effects.specs.declared.fates.Fate.{Fate}
use Rattle.server_effects.specs.Fates.{fate_of}

abbrev pub ShowsBoth : Opens → Tree → model.Server → Type 0
ShowsBoth t f s = ShowsOpens t s × ShowsFiles f s

-- its file goes with it
abbrev pub goes_behind : model.Server → ℕ → Bool
goes_behind s o = goes (drop_open (pending_behind s o) o) (s.opened o).file

-- or it can't go, and loses its mark
abbrev pub kept_behind : model.Server → ℕ → Bool
kept_behind s o = is_kept_back (drop_open (pending_behind s o) o) (s.opened o).file

abbrev pub fate_behind : model.Server → ℕ → Fate
fate_behind s o = fate_of (kept_behind s o) (goes_behind s o)

-- its file where that went with it, and else none
abbrev pub GoneWith : Bool → Option Gone → model.Server → ℕ → Type 0
GoneWith true g s f = GoneOf g s f
GoneWith false g s f = g ≡ None

-- the state without the file of the open, where that goes with it
abbrev pub behind_gone : model.Server → ℕ → model.Server
behind_gone s o = if goes_behind s o then remove_file s (s.opened o).file else s

pub record IsExpired (t : Opens) (x : Expired) (s : model.Server) (o : ℕ) : Type 0 where
  pub taken : IsTaken x.taken s o
  pub gone : GoneWith (goes_behind s o) x.gone s (s.opened o).file
  pub was_pending : x.gone ≡ None → x.was_pending ≡ s.delete_pending (s.opened o).file
  pub was_kept : x.was_kept ≡ is_expired_in s (s.opened o).client_guid (s.opened o).create_guid
  -- room to put it back
  pub room : HasOpensRoom t
  pub undated : IsUndated t s o

abbrev pub ExpiredFor : Opens → Option Expired → model.Server → ℕ → Type 0
ExpiredFor t None s o = ⊥
ExpiredFor t (Some x) s o = IsExpired t x s o

-- there is room to put it back
abbrev pub HasRoomBack : Opens → Option Expired → Type 0
HasRoomBack t None = ⊤
HasRoomBack t (Some x) = HasOpensRoom t
