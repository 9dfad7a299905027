-- What single checks look at.
use Rattle.std.specs.Prelude.{◌≡◌, ℕ, ◌+◌, ◌==◌, Bool, true, false, not, ◌&&◌, if◌then◌else◌, List, [], ◌∷◌, length, take, drop}
use Rattle.std.specs.Prelude.{◌||◌, Option}
use Rattle.std.specs.Prelude.{Some, None, nat_le, nat_lt, ◌<◌, is_some}
use Rattle.std.specs.Prelude.{⊤}
use Rattle.spec_exchange.specs.CheckOpen.{bytes_change, file_of, there, close_check, flush_check, read_check, write_check}
use Rattle.spec_exchange.specs.CheckOpen.{lock_check, ioctl_check, list_check, file_query_check, volume_query_check, set_check}
use Rattle.spec_exchange.specs.CheckSetup.{is_new, is_binding}
use Rattle.spec_exchange.specs.Commands as asks
use Rattle.spec_exchange.specs.Content.{is_empty}
use Rattle.spec_exchange.specs.Files.{passes_room}
use Rattle.spec_exchange.specs.Listing.{last_name}
use Rattle.spec_exchange.specs.Opens.{file_has_open}
use Rattle.spec_exchange.specs.Ranges.{may_write}
use Rattle.spec_exchange.specs.State as says
use Rattle.spec_exchange.specs.Status.{disk_full, end_of_file, file_lock_conflict, not_supported, duplicate_objectid, access_denied}
use Rattle.spec_exchange.specs.Table.{is_at, is_filled}
use Rattle.spec_exchange.specs.Texts.{same_name}
use Rattle.store_opens.specs.declared.open_table.row.Row.{Row}
use Rattle.spec_exchange.specs.Verdict.{Verdict, Refuse, TurnDown, Tell, Alter, Repeat}
use Rattle.server_checks.specs.declared.session_table.row.Purpose.{Purpose}
use Rattle.server_checks.specs.declared.session_table.row.Purpose.TheVariants.{New, Binding}

-- what is in the making is for this purpose
abbrev pub is_made_for : Purpose → Option says.Making → Bool
is_made_for (New session) making = is_new session making
is_made_for (Binding session) making = is_binding session making

-- the session of a request is there, but for SESSION_SETUP
abbrev pub HasItsSession : says.Server → says.Message → Type 0
HasItsSession s m = asks.is_setup m.command ≡ false → s.present m.session_id ≡ true

-- neither a request that doesn't read, nor one on the tree alone, nor an IOCTL that names no open
abbrev pub IsOnOpen : asks.Command → Type 0
IsOnOpen (asks.Unreadable status) = ⊥
IsOnOpen asks.TreeDisconnect = ⊥
IsOnOpen (asks.Create request) = ⊥
IsOnOpen (asks.Ioctl file code room) = (file == asks.no_file) ≡ false
IsOnOpen _ = ⊤

-- what a READ comes to behind its access and the ranges
abbrev pub read_bytes : says.Server → ℕ → ℕ → ℕ → ℕ → ℕ → Verdict
read_bytes s o f at size minimum =
    if not (size == 0) && not (nat_lt at (length (s.content f))) then TurnDown o end_of_file
    else if nat_lt (there s f at size) minimum then TurnDown o end_of_file
    else Tell o (says.Content (take size (drop at (s.content f))))

-- a write that keeps its form
pub record IsListingShort (at : ℕ) (bytes : List ℕ) : Type 0 where
  pub few : nat_le (length bytes) 1048576 ≡ true
  pub low : at + length bytes < 0x8000_0000_0000_0000

-- a write that meets no range meets the room
abbrev pub bytes_or_full : says.Server → ℕ → ℕ → List ℕ → Verdict
bytes_or_full s o at bytes =
    if not (is_empty bytes) && passes_room s (file_of s o) (at + length bytes) then TurnDown o disk_full
    else Alter o (bytes_change at bytes) (says.Count (length bytes))

-- a write of an open that may write, which isn't repeated
abbrev pub new_bytes : says.Server → ℕ → ℕ → List ℕ → Verdict
new_bytes s o at bytes =
    if not (may_write (s.ranges (file_of s o)) o at (length bytes)) then TurnDown o file_lock_conflict
    else bytes_or_full s o at bytes

-- the live open of a CreateGuid, by its row and the user of the session
abbrev pub row_check : says.Message → asks.CreateRequest → ℕ → Row → List ℕ → Verdict
row_check m r o row user =
    if not m.replay then Refuse duplicate_objectid
    else if is_at m.session_id row.session then Repeat o r
    else if is_some row.session || not row.persistent then Refuse duplicate_objectid
    else if same_name row.user user then Repeat o r
    else Refuse access_denied

-- the name of the last of a list, which a listing goes on behind; none where the list is empty
abbrev pub IsListingLast : Option (List ℕ) → Option (List ℕ) → List says.Named → Type 0
IsListingLast None last ns = ns ≡ []
IsListingLast (Some name) last ns = (is_filled ns ≡ true) × (last_name last ns ≡ Some name)

-- what a request comes to that names this open of its session
abbrev pub open_command : says.Server → says.Message → ℕ → asks.Command → Verdict
open_command s m o (asks.Close f query) = close_check s o query
open_command s m o (asks.Flush f) = flush_check s o
open_command s m o (asks.Read f at size minimum channel) = read_check s o at size minimum
open_command s m o (asks.Write f at bytes channel) = write_check s m o at bytes
open_command s m o (asks.Lock f index number elements) = lock_check s o index number elements
open_command s m o (asks.Ioctl f code room) = ioctl_check s m o code room
open_command s m o (asks.ListDirectory f class restart single pattern room) = list_check s o class restart single pattern room
open_command s m o (asks.QueryFile f class room) = file_query_check s o class room
open_command s m o (asks.QueryVolume f class room) = volume_query_check s o class room
open_command s m o (asks.SetInfo f setting) = set_check s m o setting
open_command s m o _ = Refuse not_supported

-- one of these files has an open
abbrev pub any_open : says.Server → List ℕ → Bool
any_open s [] = false
any_open s (f ∷ fs) = file_has_open s f || any_open s fs
