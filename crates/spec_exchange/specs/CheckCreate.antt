-- The checks of CREATE (MS-SMB2 3.3.5.9, 3.3.5.9.10, 3.3.5.9.12; MS-FSA 2.1.5.1).
use Rattle.std.specs.Prelude.{ℕ, ◌==◌, nat_le, Bool, true, false, not, ◌&&◌, ◌||◌, if◌then◌else◌, length, Option, Some}
use Rattle.std.specs.Prelude.{None, bit_or, is_some, nat_lt}
use Rattle.spec_exchange.specs.Table.{is_at}
use Rattle.spec_exchange.specs.Status.{invalid_parameter, access_denied, object_path_not_found, delete_pending}
use Rattle.spec_exchange.specs.Status.{object_name_not_found, object_name_collision, not_a_directory}
use Rattle.spec_exchange.specs.Status.{file_is_a_directory, sharing_violation, insufficient_resources}
use Rattle.spec_exchange.specs.Status.{duplicate_objectid, cannot_delete}
use Rattle.spec_exchange.specs.Texts.{same_name}
use Rattle.spec_exchange.specs.Commands.{CreateRequest, Durable, Reconnect, has_bit, asks_directory, asks_file}
use Rattle.spec_exchange.specs.Commands.{deletes_on_close}
use Rattle.spec_exchange.specs.State.{Server, Message}
use Rattle.spec_exchange.specs.Files.{root, find, has_parent, is_directory, is_read_only, has_pending_parent}
use Rattle.spec_exchange.specs.Opens.{mapped, granted, writes, deletes, opens_of, admits, max_ids}
use Rattle.spec_exchange.specs.Verdict.{Verdict, Refuse, KeepRefusal, Repeat, Attach, Make}

abbrev pub max_opens : ℕ
max_opens = 16384

abbrev pub max_files : ℕ
max_files = 65536

abbrev pub max_guids : ℕ
max_guids = 262144

abbrev pub last_file : ℕ
last_file = 0xffff_ffff_ffff_fffe

-- a refusal by the names, the sharing or the room is kept by the request's CreateGuid, where it has one
abbrev pub refused_by : Option Durable → ℕ → Verdict
refused_by None status = Refuse status
refused_by (Some d) status = KeepRefusal d.guid status

abbrev pub refused_create : CreateRequest → ℕ → Verdict
refused_create r status = refused_by r.durable status

-- ---- names and kinds

-- action of a success: superseded 0, opened 1, created 2, overwritten 3 (2.2.14)
abbrev pub action_on_found : ℕ → ℕ
action_on_found disposition = if disposition == 0 then 0 else if nat_le 4 disposition then 3 else 1

abbrev pub empties : ℕ → Bool
empties disposition = (disposition == 0) || nat_le 4 disposition

-- on a missing path these make a file or a directory
abbrev pub makes_missing : ℕ → Bool
makes_missing disposition = not ((disposition == 1) || (disposition == 4))

-- what is there: the status of the first rule that it breaks
unfoldable pub found_names : Server → CreateRequest → ℕ → Option ℕ
found_names s r f =
    if s.delete_pending f then Some delete_pending
    else if r.disposition == 2 then Some object_name_collision
    else if asks_directory r && not (is_directory s f) then Some not_a_directory
    else if asks_file r && is_directory s f then Some file_is_a_directory
    else if empties r.disposition && is_directory s f then Some invalid_parameter
    else if deletes_on_close r.options && (f == root) then Some access_denied
    else None

unfoldable pub missing_names : CreateRequest → Option ℕ
missing_names r = if makes_missing r.disposition then None else Some object_name_not_found

-- ---- attributes (MS-FSA 2.1.5.1.1, 2.1.5.1.2, 2.1.5.1.2.1), behind names and kinds

-- HIDDEN or SYSTEM, which the file has, is to be among the attributes of a request that empties it
abbrev pub drops_bit : Server → CreateRequest → ℕ → ℕ → Bool
drops_bit s r f bit = has_bit (s.basic f).attributes bit && not (has_bit r.attributes bit)

unfoldable pub found_attributes : Server → CreateRequest → ℕ → Option ℕ
found_attributes s r f =
    if empties r.disposition && (drops_bit s r f 0x2 || drops_bit s r f 0x4) then Some access_denied
    else if is_read_only s f && (empties r.disposition || writes (granted s f r.access)) then Some access_denied
    else if is_read_only s f && deletes_on_close r.options then Some cannot_delete
    else None

-- a read-only file that would go with its first open
unfoldable pub missing_attributes : CreateRequest → Option ℕ
missing_attributes r = if deletes_on_close r.options && (not (asks_directory r) && has_bit r.attributes 0x1) then Some
    cannot_delete else None

-- the first refusal, or the second
abbrev pub first_refusal : Option ℕ → Option ℕ → Option ℕ
first_refusal None second = second
first_refusal (Some status) second = Some status

unfoldable pub names_of_found : Server → CreateRequest → Option ℕ → Option ℕ
names_of_found s r None = first_refusal (missing_names r) (missing_attributes r)
names_of_found s r (Some f) = first_refusal (found_names s r f) (found_attributes s r f)

unfoldable pub names : Server → CreateRequest → Option ℕ → Option ℕ
names s r found =
    if not (is_some found || has_parent s r.path) then Some object_path_not_found
    else if has_pending_parent s r.path then Some delete_pending
    else names_of_found s r found

-- ---- sharing: a create that empties a file asks for write access too

abbrev pub shared_access : Server → CreateRequest → ℕ → ℕ
shared_access s r f = if empties r.disposition then bit_or (granted s f r.access) 0x2 else granted s f r.access

abbrev pub shares : Server → CreateRequest → Option ℕ → Bool
shares s r None = true
shares s r (Some f) = admits s.opened (opens_of s f) (shared_access s r f) r.share

-- ---- counts

abbrev pub keeps_guid : CreateRequest → Bool
keeps_guid r = is_some r.durable

abbrev pub makes_file : CreateRequest → Option ℕ → Bool
makes_file r found = not (is_some found) && makes_missing r.disposition

-- a count whose refusal is kept stands at its limit
unfoldable pub is_counted_out : Server → CreateRequest → Option ℕ → Bool
is_counted_out s r found = nat_le max_opens (length s.opens)
    || ((makes_file r found && nat_le max_files (length s.entries))
    || (nat_le max_ids s.open_ids_given || (makes_file r found && nat_lt last_file s.next_file)))

abbrev pub action_of : CreateRequest → Option ℕ → ℕ
action_of r None = 2
action_of r (Some f) = action_on_found r.disposition

abbrev pub after_names : Server → CreateRequest → Option ℕ → Option ℕ → Verdict
after_names s r found (Some status) = refused_create r status
after_names s r found None = if shares s r found then Make r found (action_of r found) else refused_create r sharing_violation

-- a create whose CreateGuid is new, or that has none
abbrev pub new_check : Server → Message → CreateRequest → Option ℕ → Verdict
new_check s m r found =
    if deletes_on_close r.options && not (deletes (mapped r.access)) then Refuse access_denied
    else if keeps_guid r && nat_le max_guids (s.guids m.session_id) then Refuse insufficient_resources
    else if is_counted_out s r found then refused_create r insufficient_resources
    else after_names s r found (names s r found)

-- ---- kept results

-- a live open of that guid: the first answer again where the replay flag is set and the open is this session's,
-- or persistent and nobody's
abbrev pub live_check : Server → Message → CreateRequest → ℕ → Verdict
live_check s m r o =
    if not m.replay then Refuse duplicate_objectid
    else if is_at m.session_id (s.session_of_open o) then Repeat o r
    else if is_some (s.session_of_open o) || not (s.opened o).persistent then Refuse duplicate_objectid
    else if same_name (s.opened o).user (s.user m.session_id) then Repeat o r
    else Refuse access_denied

abbrev pub refusal_check : Server → Message → CreateRequest → Option ℕ → Verdict
refusal_check s m r (Some status) = Refuse status
refusal_check s m r None = new_check s m r (find s r.path)

abbrev pub guid_check : Server → Message → CreateRequest → Durable → Option ℕ → Verdict
guid_check s m r d (Some o) = live_check s m r o
guid_check s m r d None =
    if s.closed m.session_id d.guid then Refuse duplicate_objectid
    else if s.expired_guids m.client_guid d.guid then Refuse duplicate_objectid
    else refusal_check s m r (s.refused m.session_id d.guid)

abbrev pub has_guid : ℕ → Option ℕ → Bool
has_guid g None = false
has_guid g (Some h) = h == g

-- an open of that id and guid: attached where its session is gone or this one
abbrev pub reconnect_check : Server → Message → CreateRequest → Reconnect → Verdict
reconnect_check s m r c =
    if not (s.standing c.file && has_guid c.guid (s.opened c.file).create_guid) then Refuse object_name_not_found
    else if not (same_name (s.opened c.file).user (s.user m.session_id)) then Refuse access_denied
    else if is_some (s.session_of_open c.file) && not (is_at m.session_id (s.session_of_open c.file)) then Refuse object_name_not_found
    else Attach c.file r

abbrev pub durable_check : Server → Message → CreateRequest → Option Durable → Verdict
durable_check s m r None = new_check s m r (find s r.path)
durable_check s m r (Some d) = guid_check s m r d (s.by_guid m.client_guid d.guid)

abbrev pub reconnect_or_create : Server → Message → CreateRequest → Option Reconnect → Verdict
reconnect_or_create s m r (Some c) = reconnect_check s m r c
reconnect_or_create s m r None = durable_check s m r r.durable

-- on the share of the pipes no name is found, whatever the request carries, and nothing is looked up or kept of it
abbrev pub create_check : Server → Message → CreateRequest → Bool → Verdict
create_check s m r pipes = if pipes then Refuse object_name_not_found else reconnect_or_create s m r r.reconnect
