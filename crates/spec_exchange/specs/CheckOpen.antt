-- The checks of the requests that name an open (MS-SMB2 3.3.5.10 to 3.3.5.21).
use Rattle.std.specs.Prelude.{ℕ, ◌+◌, ◌-◌, ◌%◌, ◌==◌, nat_lt, nat_le, min, Bool, true, false, not, ◌&&◌, ◌||◌}
use Rattle.std.specs.Prelude.{if◌then◌else◌, List, [], ◌∷◌, length, take, drop, Option, Some, None, is_some}
use Rattle.spec_exchange.specs.Status.{success, file_not_available, access_denied, invalid_device_request}
use Rattle.spec_exchange.specs.Status.{invalid_parameter, info_length_mismatch, end_of_file, file_lock_conflict}
use Rattle.spec_exchange.specs.Status.{disk_full, no_such_file, no_more_files, directory_not_empty, file_closed}
use Rattle.spec_exchange.specs.Status.{object_path_not_found, object_name_collision, fs_driver_required, cannot_delete, delete_pending, object_name_not_found}
use Rattle.spec_exchange.specs.Texts.{is_below}
use Rattle.spec_exchange.specs.Content.{written, ended, same_bytes, is_empty}
use Rattle.spec_exchange.specs.Commands.{Basic, has_bit, Setting, SetBasic, Rename, SetDelete, SetAllocation, SetEnd, Element, SetPosition, SetMode}
use Rattle.spec_exchange.specs.State.{Server, Message, Kept, Entry, Empty, Content, Count, Closed, Listing, FileInfo}
use Rattle.spec_exchange.specs.State.{VolumeInfo, Interfaces, ObjectId, Named, Body}
use Rattle.spec_exchange.specs.Files.{root, find, path_of, has_parent, is_directory, is_full_directory, info_of, used, passes_room, allocated, set_basic, same_basic, is_read_only, may_set_attributes, may_set_times, has_pending_parent}
use Rattle.spec_exchange.specs.Ranges.{RangeAnswer, Stands, Denied, change_ranges, may_read, may_write}
use Rattle.spec_exchange.specs.Opens.{file_has_open}
use Rattle.spec_exchange.specs.Listing.{all_named, wanted, fitting, one_or_all, last_name, file_info_size, volume_info_size}
use Rattle.spec_exchange.specs.Verdict.{Verdict, Refuse, Give, TurnDown, Tell, Show, KeepSlot, PutRanges, Alter}
use Rattle.spec_exchange.specs.Verdict.{CloseOpen, Change, PutBytes, PutEnd, PutBasic, PutDeletePending, PutPath}
use Rattle.spec_exchange.specs.Verdict.{PutNothing, Behind, At}

-- ---- the channel sequence (3.3.5.2.10): older by the difference modulo 65,536

abbrev pub is_stale : ℕ → ℕ → Bool
is_stale n kept = nat_le 32768 ((n + 65536 - kept) % 65536)

abbrev pub is_late : Server → Message → ℕ → Bool
is_late s m o = is_stale m.channel_sequence (s.sequence o)

abbrev pub file_of : Server → ℕ → ℕ
file_of s o = (s.opened o).file

abbrev pub has_access : Server → ℕ → ℕ → Bool
has_access s o bit = has_bit (s.opened o).access bit

-- ---- changes

abbrev pub changes_nothing : Server → ℕ → Change → Bool
changes_nothing s f (PutBytes at bytes) = same_bytes (written at bytes (s.content f)) (s.content f)
changes_nothing s f (PutEnd size) = same_bytes (ended size (s.content f)) (s.content f)
changes_nothing s f (PutBasic basic) = same_basic basic (s.basic f)
changes_nothing s f (PutDeletePending flag) = if s.delete_pending f then flag else not flag
changes_nothing s f (PutPath replaced path) = not (is_some replaced) && same_bytes path (path_of s f)
changes_nothing s f PutNothing = true

-- check 8: a replayed request that would change nothing but times is SUCCESS. It stands behind the access and before ranges,
-- names, the room and the journal, so that a change that acted is heard as one though they would refuse it now.
abbrev pub is_repeated : Server → Message → ℕ → Change → Bool
is_repeated s m o change = m.replay && changes_nothing s (file_of s o) change

-- ---- WRITE (3.3.5.13)

abbrev pub bytes_change : ℕ → List ℕ → Change
bytes_change at bytes = if is_empty bytes then PutNothing else PutBytes at bytes

abbrev pub timely_write : Server → Message → ℕ → ℕ → List ℕ → Verdict
timely_write s m o at bytes =
    if not (has_access s o 0x2) then TurnDown o access_denied
    else if is_directory s (file_of s o) then TurnDown o invalid_device_request
    else if is_repeated s m o (bytes_change at bytes) then Tell o (Count (length bytes))
    else if not (may_write (s.ranges (file_of s o)) o at (length bytes)) then TurnDown o file_lock_conflict
    else if not (is_empty bytes) && passes_room s (file_of s o) (at + length bytes) then TurnDown o disk_full
    else Alter o (bytes_change at bytes) (Count (length bytes))

abbrev pub write_check : Server → Message → ℕ → ℕ → List ℕ → Verdict
write_check s m o at bytes = if is_late s m o then Refuse file_not_available else timely_write s m o at bytes

-- ---- READ (3.3.5.12)

abbrev pub there : Server → ℕ → ℕ → ℕ → ℕ
there s f at size = min size (length (s.content f) - at)

abbrev pub read_check : Server → ℕ → ℕ → ℕ → ℕ → Verdict
read_check s o at size minimum =
    if not (has_access s o 0x1 || has_access s o 0x20) then TurnDown o access_denied
    else if is_directory s (file_of s o) then TurnDown o invalid_device_request
    else if not (may_read (s.ranges (file_of s o)) o at size) then TurnDown o file_lock_conflict
    else if not (size == 0) && not (nat_lt at (length (s.content (file_of s o)))) then TurnDown o end_of_file
    else if nat_lt (there s (file_of s o) at size) minimum then TurnDown o end_of_file
    else Tell o (Content (take size (drop at (s.content (file_of s o)))))

-- ---- LOCK (3.3.5.14): an index from 1 to 64 names a slot

abbrev pub is_slot : ℕ → Bool
is_slot index = nat_le 1 index && nat_le index 64

abbrev pub kept_status : ℕ → Option Kept → Option ℕ
kept_status number None = None
kept_status number (Some kept) = if kept.number == number then Some kept.status else None

abbrev pub turn_down_lock : ℕ → ℕ → ℕ → List Element → ℕ → Verdict
turn_down_lock o index number elements status = if is_slot index then KeepSlot o index number status elements else TurnDown o status

abbrev pub range_check : ℕ → ℕ → ℕ → List Element → RangeAnswer → Verdict
range_check o index number elements (Denied status) = turn_down_lock o index number elements status
range_check o index number elements (Stands ranges) = PutRanges o index number ranges elements

abbrev pub new_lock_check : Server → ℕ → ℕ → ℕ → List Element → Verdict
new_lock_check s o index number elements =
    if is_directory s (file_of s o) then turn_down_lock o index number elements invalid_device_request
    else range_check o index number elements (change_ranges (s.ranges (file_of s o)) o elements)

-- what a slot keeps is answered before the sequence is looked at
abbrev pub slot_check : Server → ℕ → ℕ → ℕ → List Element → Option ℕ → Verdict
slot_check s o index number elements None = new_lock_check s o index number elements
slot_check s o index number elements (Some status) = if status == success then Give Empty else Refuse status

abbrev pub kept_lock : Server → ℕ → ℕ → ℕ → Option ℕ
kept_lock s o index number = if is_slot index then kept_status number (s.lock_sequences o index) else None

abbrev pub lock_check : Server → ℕ → ℕ → ℕ → List Element → Verdict
lock_check s o index number elements = slot_check s o index number elements (kept_lock s o index number)

-- ---- SET_INFO (3.3.5.21, MS-FSA 2.1.5.15)

-- an open of this file, or of one below this path
unfoldable pub open_below : Server → List Entry → List ℕ → Bool
open_below s [] path = false
open_below s (e ∷ es) path = (is_below path e.path && file_has_open s e.file) || open_below s es path

-- the target of a rename: the file itself is none with replace
abbrev pub target_of : ℕ → Option ℕ → Option ℕ
target_of f None = None
target_of f (Some t) = if t == f then None else Some t

unfoldable pub target_refused : Server → Option ℕ → Bool
target_refused s None = false
target_refused s (Some t) = is_directory s t || file_has_open s t

unfoldable pub rename_names : Server → ℕ → Bool → List ℕ → Option ℕ
rename_names s f replace path =
    if f == root then Some access_denied
    else if is_directory s f && is_below (path_of s f) path then Some invalid_parameter
    else if not (has_parent s path) then Some object_path_not_found
    else if has_pending_parent s path then Some delete_pending
    else if is_some (find s path) && not replace then Some object_name_collision
    else if target_refused s (target_of f (find s path)) then Some access_denied
    else if is_directory s f && open_below s s.entries (path_of s f) then Some access_denied
    else None

unfoldable pub delete_names : Server → ℕ → Bool → Option ℕ
delete_names s f flag =
    if not flag then None
    else if f == root then Some access_denied
    else if is_full_directory s f then Some directory_not_empty
    else if is_read_only s f then Some cannot_delete
    else None

-- what no file of this kind can be told (MS-FSA 2.1.5.15.2)
unfoldable pub basic_names : Server → ℕ → Basic → Option ℕ
basic_names s f b = if may_set_attributes (is_directory s f) b.attributes && may_set_times b then None else Some invalid_parameter

abbrev pub named_change : ℕ → Change → Option ℕ → Verdict
named_change o change (Some status) = TurnDown o status
named_change o change None = Alter o change Empty

abbrev pub unless_repeated : Server → Message → ℕ → Change → Verdict → Verdict
unless_repeated s m o change v = if is_repeated s m o change then Tell o Empty else v

abbrev pub size_change : Server → Message → ℕ → ℕ → Change → Verdict
size_change s m o size change =
    if not (has_access s o 0x2) then TurnDown o access_denied
    else if is_directory s (file_of s o) then TurnDown o invalid_device_request
    else if is_repeated s m o change then Tell o Empty
    else if passes_room s (file_of s o) size then TurnDown o disk_full
    else Alter o change Empty

abbrev pub allocation_change : Server → ℕ → ℕ → Change
allocation_change s f size = if nat_lt size (length (s.content f)) then PutEnd size else PutNothing

abbrev pub path_change : Server → ℕ → List ℕ → Change
path_change s o path = PutPath (target_of (file_of s o) (find s path)) path

abbrev pub setting_check : Server → Message → ℕ → Setting → Verdict
setting_check s m o (SetBasic basic) =
    if has_access s o 0x100 then unless_repeated s m o (PutBasic (set_basic (s.basic (file_of s o)) basic))
    (named_change o (PutBasic (set_basic (s.basic (file_of s o)) basic)) (basic_names s (file_of s o) basic))
    else TurnDown o access_denied
setting_check s m o (Rename replace path) =
    if has_access s o 0x1_0000 then unless_repeated s m o (path_change s o path)
    (named_change o (path_change s o path) (rename_names s (file_of s o) replace path)) else TurnDown o
    access_denied
setting_check s m o (SetDelete flag) = if has_access s o 0x1_0000 then unless_repeated s m o (PutDeletePending flag)
    (named_change o (PutDeletePending flag) (delete_names s (file_of s o) flag)) else TurnDown o access_denied
setting_check s m o (SetAllocation size) = size_change s m o (allocated size (length (s.content (file_of s o))))
    (allocation_change s (file_of s o) size)
setting_check s m o (SetEnd size) = size_change s m o size (PutEnd size)
-- these two need no access (MS-FSA 2.1.5.15.7, 2.1.5.15.9); an open's mode never changes (this project's)
setting_check s m o (SetPosition position) = Show o (At position) Empty
setting_check s m o SetMode = Tell o Empty

abbrev pub set_check : Server → Message → ℕ → Setting → Verdict
set_check s m o setting = if is_late s m o then Refuse file_not_available else setting_check s m o setting

-- ---- FLUSH, CLOSE, queries, IOCTL

abbrev pub flush_check : Server → ℕ → Verdict
flush_check s o = if has_access s o 0x2 || has_access s o 0x4 then Tell o Empty else TurnDown o access_denied

abbrev pub close_check : Server → ℕ → Bool → Verdict
close_check s o query = CloseOpen o (if query then Closed (info_of s (file_of s o)) else Empty)

abbrev pub needs_attributes : ℕ → Bool
needs_attributes class = (class == 4) || ((class == 18) || (class == 34))

-- no file has a short name, which class 21 asks for, whatever room there is
abbrev pub file_query_check : Server → ℕ → ℕ → ℕ → Verdict
file_query_check s o class room =
    if needs_attributes class && not (has_access s o 0x80) then TurnDown o access_denied
    else if class == 21 then TurnDown o object_name_not_found
    else if nat_lt room (file_info_size class (is_directory s (file_of s o)) (path_of s (file_of s o)))
    then TurnDown o info_length_mismatch
    else Tell o (FileInfo class (path_of s (file_of s o)) (info_of s (file_of s o)) (s.opened o).access (s.opened o).options
    (s.current_byte_offset o))

abbrev pub volume_query_check : Server → ℕ → ℕ → ℕ → Verdict
volume_query_check s o class room = if nat_lt room (volume_info_size class) then TurnDown o info_length_mismatch else
    Tell o (VolumeInfo class s.room (used s))

-- a listing goes on behind the last name, or begins anew
abbrev pub begins_at : Bool → Option (List ℕ) → Option (List ℕ)
begins_at true last = None
begins_at false last = last

abbrev pub none_wanted : Option (List ℕ) → ℕ
none_wanted None = no_such_file
none_wanted (Some last) = no_more_files

unfoldable pub listing_of : ℕ → ℕ → Option (List ℕ) → List Named → List Named → Verdict
listing_of o class last [] fit = TurnDown o (none_wanted last)
listing_of o class last (n ∷ ns) [] = TurnDown o info_length_mismatch
listing_of o class last (n ∷ ns) (k ∷ ks) = Show o (Behind (last_name last (k ∷ ks))) (Listing class (k ∷ ks))

abbrev pub list_from : Server → ℕ → ℕ → Bool → List ℕ → ℕ → Option (List ℕ) → Verdict
list_from s o class single pattern room last =
    let all = wanted last pattern (all_named s (file_of s o)) in listing_of o class last all (one_or_all single (fitting class room 0 all))

abbrev pub list_check : Server → ℕ → ℕ → Bool → Bool → List ℕ → ℕ → Verdict
list_check s o class restart single pattern room =
    if not (has_access s o 0x1) then TurnDown o access_denied
    else if not (is_directory s (file_of s o)) then TurnDown o invalid_parameter
    else list_from s o class single pattern room (begins_at restart (s.enumeration_location o))

abbrev pub query_interfaces : ℕ
query_interfaces = 0x14_01fc

abbrev pub get_referrals : ℕ
get_referrals = 0x6_0194

abbrev pub get_object_id : ℕ
get_object_id = 0x9_00c0

-- the status of an IOCTL (3.3.5.15), 0 where it tells the interfaces or an object id (MS-FSA 2.1.5.10.1)
abbrev pub ioctl_status : ℕ → ℕ → ℕ
ioctl_status code room = if code == query_interfaces then (if nat_lt room 152 then info_length_mismatch else success)
    else if code == get_object_id then (if nat_lt room 64 then invalid_parameter else success)
    else if code == get_referrals then fs_driver_required else invalid_device_request

-- what it tells of an open: each file has an object id from the first on, its number, and so nothing changes
abbrev pub ioctl_body : Server → ℕ → ℕ → Body
ioctl_body s o code = if code == get_object_id then ObjectId (file_of s o) else Interfaces s.address

abbrev pub ioctl_check : Server → Message → ℕ → ℕ → ℕ → Verdict
ioctl_check s m o code room =
    if is_late s m o then Refuse file_not_available  -- an IOCTL too
    else if ioctl_status code room == success then Tell o (ioctl_body s o code)
    else TurnDown o (ioctl_status code room)

-- an object id is an open's, whatever room there is
abbrev pub free_ioctl_check : Server → ℕ → ℕ → Verdict
free_ioctl_check s code room =
    if code == get_object_id then Refuse file_closed
    else if ioctl_status code room == success then Give (Interfaces s.address)
    else Refuse (ioctl_status code room)
