-- The checks of a message look at no deadline.
use Rattle.std.proofs.Common.{◌≡◌, ℕ, ◌+◌, ◌==◌, nat_le, Bool, not, ◌&&◌, ◌||◌, if◌then◌else◌, List, [], ◌∷◌, length}
use Rattle.std.proofs.Common.{Option, Some, None, is_some, refl, ap, ◌∙◌}
use Rattle.spec_exchange.specs.Check.{check, command_check, formed, has_session, in_tree, on_open, owed, tree_command, with_tree}
use Rattle.spec_exchange.specs.CheckCreate.{after_names, create_check, durable_check, guid_check, is_counted_out, found_names}
use Rattle.spec_exchange.specs.CheckCreate.{names, names_of_found, new_check, reconnect_or_create, refusal_check}
use Rattle.spec_exchange.specs.CheckCreate.{keeps_guid, max_guids, refused_create, shares}
use Rattle.spec_exchange.specs.CheckCreate.{found_attributes}
use Rattle.spec_exchange.specs.CheckOpen.{allocation_change, bytes_change, changes_nothing, delete_names, file_of, is_repeated, list_check}
use Rattle.spec_exchange.specs.CheckOpen.{list_from, listing_of, named_change, open_below, path_change, rename_names, set_check}
use Rattle.spec_exchange.specs.CheckOpen.{setting_check, size_change, slot_check, kept_lock, target_of, target_refused, unless_repeated}
use Rattle.spec_exchange.specs.CheckOpen.{begins_at, has_access, is_late, write_check}
use Rattle.spec_exchange.specs.CheckOpen.{basic_names}
use Rattle.spec_exchange.specs.CheckSetup.{binding_check, binding_token, first_binding, first_token, is_binding, is_new}
use Rattle.spec_exchange.specs.CheckSetup.{live_binding, second_binding}
use Rattle.spec_exchange.specs.CheckSetup.{second_token, session_check, setup_check, tree_in}
use Rattle.spec_exchange.specs.Commands.{Aside, Bad, Begins, Close, Command, Create, CreateRequest, Durable, Flush, Ioctl, ListDirectory}
use Rattle.spec_exchange.specs.Commands.{Lock, Logoff, Logon, QueryFile, QueryVolume, Read, Reconnect, Refused, Rename, SetAllocation}
use Rattle.spec_exchange.specs.Commands.{SetBasic, SetDelete, SetEnd, SetInfo, Setting, Setup, SetupRequest, Shows, TreeConnect}
use Rattle.spec_exchange.specs.Commands.{SetPosition, SetMode}
use Rattle.spec_exchange.specs.Commands.{deletes_on_close, TreeDisconnect, Unreadable, Write, Element, form, is_setup}
use Rattle.spec_exchange.specs.Files.{find, has_parent, has_pending_parent, root, info_of, is_directory, is_found_directory, is_found_pending}
use Rattle.spec_exchange.specs.Files.{is_full_directory, passes_room, path_of, used}
use Rattle.spec_exchange.specs.Files.{is_read_only, exists}
use Rattle.spec_exchange.specs.Listing.{all_named, children, fitting, one_or_all, parent_file, wanted, insert_named}
use Rattle.spec_exchange.specs.Opens.{deletes, file_has_open, is_of_tree, mapped}
use Rattle.spec_exchange.specs.Opens.{granted}
use Rattle.spec_exchange.specs.Status.{access_denied, disk_full, duplicate_objectid, file_lock_conflict}
use Rattle.spec_exchange.specs.Status.{file_not_available, insufficient_resources}
use Rattle.spec_exchange.specs.Status.{file_closed, invalid_device_request, invalid_parameter, object_name_collision, object_name_not_found}
use Rattle.spec_exchange.specs.Status.{object_path_not_found, delete_pending, request_not_accepted, user_session_deleted}
use Rattle.spec_exchange.specs.Ranges.{may_write}
use Rattle.spec_exchange.specs.Content.{is_empty}
use Rattle.spec_exchange.specs.State.{Accept, Count, Empty, End, Entry, Heard, Message, Named, Server, ServerEvent, Stop}
use Rattle.spec_exchange.specs.Step.{Says, ruling}
use Rattle.spec_exchange.specs.Texts.{is_below, leaf_of, parent_of}
use Rattle.spec_exchange.specs.Verdict.{Change, PutBasic, PutBytes, PutDeletePending, PutEnd, PutNothing, PutPath, Verdict}
use Rattle.spec_exchange.specs.Verdict.{Alter, Refuse, Tell, TurnDown}

-- the state with other deadlines
abbrev pub with : Server → (ℕ → Option ℕ) → Server
with s f = record s { deadline = f }

either : {X : Type 0} (b c : Bool) (x y u v : X) → b ≡ c → x ≡ u → y ≡ v → (if b then x else y) ≡ (if c then u else v)
either b c x y u v e h k = λ t. if e t then h t else k t

-- ---- names

found : (s : Server) (f : ℕ → Option ℕ) (path : List ℕ) → find (with s f) path ≡ find s path
unfolding find
found s f [] = refl
found s f (c ∷ cs) = refl

found_directory : (s : Server) (f : ℕ → Option ℕ) (o : Option ℕ) → is_found_directory (with s f) o ≡ is_found_directory s o
unfolding is_found_directory is_directory
found_directory s f None = refl
found_directory s f (Some g) = refl

parent : (s : Server) (f : ℕ → Option ℕ) (path : List ℕ) → has_parent (with s f) path ≡ has_parent s path
unfolding has_parent
parent s f path = ap (is_found_directory (with s f)) (found s f (parent_of path)) ∙ found_directory s f (find s (parent_of path))

found_pending : (s : Server) (f : ℕ → Option ℕ) (o : Option ℕ) → is_found_pending (with s f) o ≡ is_found_pending s o
unfolding is_found_pending
found_pending s f None = refl
found_pending s f (Some g) = refl

pending_parent : (s : Server) (f : ℕ → Option ℕ) (path : List ℕ) → has_pending_parent (with s f) path ≡ has_pending_parent s path
unfolding has_pending_parent
pending_parent s f path = ap (is_found_pending (with s f)) (found s f (parent_of path)) ∙ found_pending s f (find s (parent_of path))

found_name : (s : Server) (f : ℕ → Option ℕ) (r : CreateRequest) (o : Option ℕ) → names_of_found (with s f) r o ≡ names_of_found s r o
unfolding names_of_found found_names found_attributes is_directory is_read_only exists granted
found_name s f r None = refl
found_name s f r (Some g) = refl

name : (s : Server) (f : ℕ → Option ℕ) (r : CreateRequest) (o : Option ℕ) → names (with s f) r o ≡ names s r o
unfolding names
name s f r o = either _ _ (Some object_path_not_found) _ _ _ (ap (λ (b : Bool). not (is_some o || b)) (parent s f r.path)) refl
    (either _ _ (Some delete_pending) _ _ _ (pending_parent s f r.path) refl (found_name s f r o))

-- ---- CREATE

shared : (s : Server) (f : ℕ → Option ℕ) (r : CreateRequest) (o : Option ℕ) → shares (with s f) r o ≡ shares s r o
unfolding granted is_read_only exists is_directory
shared s f r None = refl
shared s f r (Some g) = refl

named : (s : Server) (f : ℕ → Option ℕ) (r : CreateRequest) (o n : Option ℕ) → after_names (with s f) r o n ≡ after_names s r o n
named s f r o (Some status) = refl
named s f r o None = either _ _ _ _ _ _ (shared s f r o) refl refl

new : (s : Server) (f : ℕ → Option ℕ) (m : Message) (r : CreateRequest) (o : Option ℕ) → new_check (with s f) m r o ≡ new_check s m r o
unfolding is_counted_out
new s f m r o =
    either (deletes_on_close r.options && not (deletes (mapped r.access))) _ (Refuse access_denied) _ _ _ refl refl
    (either (keeps_guid r && nat_le max_guids (s.guids m.session_id)) _ (Refuse insufficient_resources) _ _ _ refl refl
    (either (is_counted_out (with s f) r o) _ (refused_create r insufficient_resources) _ _ _ refl refl
    (ap (after_names (with s f) r o) (name s f r o) ∙ named s f r o (names s r o))))

new_at : (s : Server) (f : ℕ → Option ℕ) (m : Message) (r : CreateRequest) → new_check (with s f) m r (find (with s f) r.path)
    ≡ new_check s m r (find s r.path)
new_at s f m r = ap (new_check (with s f) m r) (found s f r.path) ∙ new s f m r (find s r.path)

refused_before : (s : Server) (f : ℕ → Option ℕ) (m : Message) (r : CreateRequest) (o : Option ℕ)
    → refusal_check (with s f) m r o ≡ refusal_check s m r o
refused_before s f m r (Some status) = refl
refused_before s f m r None = new_at s f m r

by_its_guid : (s : Server) (f : ℕ → Option ℕ) (m : Message) (r : CreateRequest) (d : Durable) (o : Option ℕ)
    → guid_check (with s f) m r d o ≡ guid_check s m r d o
by_its_guid s f m r d (Some o) = refl
by_its_guid s f m r d None =
    either (s.closed m.session_id d.guid) _ (Refuse duplicate_objectid) _ _ _ refl refl
    (either (s.expired_guids m.client_guid d.guid) _ (Refuse duplicate_objectid) _ _ _ refl refl
    (refused_before s f m r (s.refused m.session_id d.guid)))

durable : (s : Server) (f : ℕ → Option ℕ) (m : Message) (r : CreateRequest) (d : Option Durable)
    → durable_check (with s f) m r d ≡ durable_check s m r d
durable s f m r None = new_at s f m r
durable s f m r (Some d) = by_its_guid s f m r d (s.by_guid m.client_guid d.guid)

reconnected : (s : Server) (f : ℕ → Option ℕ) (m : Message) (r : CreateRequest) (c : Option Reconnect)
    → reconnect_or_create (with s f) m r c ≡ reconnect_or_create s m r c
reconnected s f m r (Some c) = refl
reconnected s f m r None = durable s f m r r.durable

created : (s : Server) (f : ℕ → Option ℕ) (m : Message) (r : CreateRequest) (pipes : Bool)
    → create_check (with s f) m r pipes ≡ create_check s m r pipes
created s f m r pipes = either pipes _ (Refuse object_name_not_found) _ _ _ refl refl (reconnected s f m r r.reconnect)

-- ---- changes

nothing : (s : Server) (f : ℕ → Option ℕ) (g : ℕ) (c : Change) → changes_nothing (with s f) g c ≡ changes_nothing s g c
unfolding path_of
nothing s f g (PutBytes at bytes) = refl
nothing s f g (PutEnd size) = refl
nothing s f g (PutBasic basic) = refl
nothing s f g (PutDeletePending flag) = refl
nothing s f g (PutPath replaced path) = refl
nothing s f g PutNothing = refl

repeated : (s : Server) (f : ℕ → Option ℕ) (m : Message) (o : ℕ) (c : Change) → is_repeated (with s f) m o c ≡ is_repeated s m o c
repeated s f m o c = ap (λ (b : Bool). m.replay && b) (nothing s f (file_of s o) c)

unrepeated : (s : Server) (f : ℕ → Option ℕ) (m : Message) (o : ℕ) (c : Change) (v w : Verdict) → v ≡ w
    → unless_repeated (with s f) m o c v ≡ unless_repeated s m o c w
unrepeated s f m o c v w e = either _ _ _ _ _ _ (repeated s f m o c) refl e

abbrev room_for : Server → ℕ → ℕ → List ℕ → Verdict
room_for s o at bytes =
    if not (may_write (s.ranges (file_of s o)) o at (length bytes)) then TurnDown o file_lock_conflict
    else if not (is_empty bytes) && passes_room s (file_of s o) (at + length bytes) then TurnDown o disk_full
    else Alter o (bytes_change at bytes) (Count (length bytes))

room_same : (s : Server) (f : ℕ → Option ℕ) (o at : ℕ) (bytes : List ℕ) → room_for (with s f) o at bytes ≡ room_for s o at bytes
unfolding passes_room used
room_same s f o at bytes = refl

written : (s : Server) (f : ℕ → Option ℕ) (m : Message) (o at : ℕ) (bytes : List ℕ) → write_check (with s f) m o at bytes
    ≡ write_check s m o at bytes
unfolding is_directory
written s f m o at bytes =
    either (is_late s m o) _ (Refuse file_not_available) _ _ _ refl refl
    (either (not (has_access s o 0x2)) _ (TurnDown o access_denied) _ _ _ refl refl
    (either (is_directory (with s f) (file_of s o)) _ (TurnDown o invalid_device_request) _ _ _ refl refl
    (either _ _ (Tell o (Count (length bytes))) (room_for (with s f) o at bytes) _ (room_for s o at bytes)
    (repeated s f m o (bytes_change at bytes)) refl (room_same s f o at bytes))))

-- ---- LOCK

slot : (s : Server) (f : ℕ → Option ℕ) (o index number : ℕ) (es : List Element) (k : Option ℕ)
    → slot_check (with s f) o index number es k ≡ slot_check s o index number es k
unfolding is_directory
slot s f o index number es None = refl
slot s f o index number es (Some status) = refl

-- ---- a listing

child : (s : Server) (f : ℕ → Option ℕ) (es : List Entry) (path : List ℕ) → children (with s f) es path ≡ children s es path
unfolding children info_of is_directory
child s f [] path = refl
child s f (e ∷ es) path =
    either _ _ _ _ _ _ refl (ap (insert_named (record { name = leaf_of e.path; info = info_of s e.file }))
    (child s f es path)) (child s f es path)

all : (s : Server) (f : ℕ → Option ℕ) (g : ℕ) → all_named (with s f) g ≡ all_named s g
unfolding all_named info_of is_directory path_of
all s f g =
    λ t. record { name = 46 ∷ []; info = info_of s g } ∷ record {
      name = 46 ∷ 46 ∷ [];
      info = info_of s (parent_file (found s f (parent_of (path_of s g)) t));
    } ∷ child s f s.entries (path_of s g) t

listed : (s : Server) (f : ℕ → Option ℕ) (o class : ℕ) (restart single : Bool) (pattern : List ℕ) (room : ℕ)
    → list_check (with s f) o class restart single pattern room ≡ list_check s o class restart single pattern room
unfolding is_directory
listed s f o class restart single pattern room =
    either (not (has_access s o 0x1)) _ (TurnDown o access_denied) _ _ _ refl refl
    (either (not (is_directory (with s f) (file_of s o))) _ (TurnDown o invalid_parameter) _ _ _ refl refl
    (by (begins_at restart (s.enumeration_location o))))
  where
    by : (last : Option (List ℕ)) → list_from (with s f) o class single pattern room last ≡ list_from s o class single pattern room last
    by last = ap (λ (ns : List Named). listing_of o class last (wanted last pattern ns)
        (one_or_all single (fitting class room 0 (wanted last pattern ns)))) (all s f (file_of s o))

-- ---- SET_INFO

below : (s : Server) (f : ℕ → Option ℕ) (es : List Entry) (path : List ℕ) → open_below (with s f) es path ≡ open_below s es path
unfolding open_below file_has_open
below s f [] path = refl
below s f (e ∷ es) path = ap (λ (b : Bool). (is_below path e.path && file_has_open s e.file) || b) (below s f es path)

target : (s : Server) (f : ℕ → Option ℕ) (o : Option ℕ) → target_refused (with s f) o ≡ target_refused s o
unfolding target_refused is_directory file_has_open
target s f None = refl
target s f (Some g) = refl

renamed : (s : Server) (f : ℕ → Option ℕ) (g : ℕ) (replace : Bool) (path : List ℕ) → rename_names (with s f) g replace path
    ≡ rename_names s g replace path
unfolding rename_names is_directory path_of
renamed s f g replace path =
    either (g == root) _ (Some access_denied) _ _ _ refl refl
    (either (is_directory (with s f) g && is_below (path_of (with s f) g) path) _ (Some invalid_parameter) _ _ _ refl refl
    (either _ _ (Some object_path_not_found) _ _ _ (ap not (parent s f path)) refl
    (either _ _ (Some delete_pending) _ _ _ (pending_parent s f path) refl
    (either _ _ (Some object_name_collision) _ _ _ (ap (λ (o : Option ℕ). is_some o && not replace) (found s f path)) refl
    (either _ _ (Some access_denied) _ _ _ (ap (λ (o : Option ℕ). target_refused (with s f) (target_of g o)) (found s f path)
    ∙ target s f (target_of g (find s path))) refl
    (either _ _ (Some access_denied) None _ _ (ap (λ (b : Bool). is_directory s g && b) (below s f s.entries (path_of s g))) refl refl))))))

pathed : (s : Server) (f : ℕ → Option ℕ) (o : ℕ) (path : List ℕ) → path_change (with s f) o path ≡ path_change s o path
pathed s f o path = ap (λ (n : Option ℕ). PutPath (target_of (file_of s o) n) path) (found s f path)

abbrev size_for : Server → ℕ → ℕ → Change → Verdict
size_for s o size c = if passes_room s (file_of s o) size then TurnDown o disk_full else Alter o c Empty

size_same : (s : Server) (f : ℕ → Option ℕ) (o size : ℕ) (c : Change) → size_for (with s f) o size c ≡ size_for s o size c
unfolding passes_room used
size_same s f o size c = refl

sized : (s : Server) (f : ℕ → Option ℕ) (m : Message) (o size : ℕ) (c : Change) → size_change (with s f) m o size c
    ≡ size_change s m o size c
unfolding is_directory
sized s f m o size c =
    either (not (has_access s o 0x2)) _ (TurnDown o access_denied) _ _ _ refl refl
    (either (is_directory (with s f) (file_of s o)) _ (TurnDown o invalid_device_request) _ _ _ refl refl
    (either _ _ (Tell o Empty) (size_for (with s f) o size c) _ (size_for s o size c) (repeated s f m o c) refl (size_same s f o size c)))

set : (s : Server) (f : ℕ → Option ℕ) (m : Message) (o : ℕ) (x : Setting) → setting_check (with s f) m o x ≡ setting_check s m o x
unfolding is_full_directory is_directory path_of delete_names basic_names is_read_only exists
set s f m o (SetBasic basic) = refl
set s f m o (Rename replace path) =
    either (has_access s o 0x1_0000) _ _ (TurnDown o access_denied) _ _ refl
    (ap (λ (c : Change). unless_repeated (with s f) m o c
    (named_change o c (rename_names (with s f) (file_of s o) replace path))) (pathed s f o path)
    ∙ unrepeated s f m o (path_change s o path) _ _ (ap (named_change o (path_change s o path)) (renamed s f (file_of s o) replace path)))
    refl
set s f m o (SetDelete flag) = refl
set s f m o (SetAllocation size) = sized s f m o _ (allocation_change s (file_of s o) size)
set s f m o (SetEnd size) = sized s f m o size (PutEnd size)
set s f m o (SetPosition position) = refl
set s f m o SetMode = refl

set_checked : (s : Server) (f : ℕ → Option ℕ) (m : Message) (o : ℕ) (x : Setting) → set_check (with s f) m o x ≡ set_check s m o x
set_checked s f m o x = either (is_late s m o) _ (Refuse file_not_available) _ _ _ refl refl (set s f m o x)

-- ---- SESSION_SETUP

second : (s : Server) (f : ℕ → Option ℕ) (m : Message) (shows : Shows) → second_binding (with s f) m shows ≡ second_binding s m shows
second s f m Begins = refl
second s f m Bad = refl
second s f m Refused = refl
second s f m (Logon user) = refl

bound : (s : Server) (f : ℕ → Option ℕ) (m : Message) (r : SetupRequest) → binding_token (with s f) m r ≡ binding_token s m r
bound s f m r = either (is_binding m.session_id (s.making m.connection)) _ _ (first_binding m r.shows) _ _ refl (second s f m r.shows) refl

live : (s : Server) (f : ℕ → Option ℕ) (m : Message) (r : SetupRequest) → live_binding (with s f) m r ≡ live_binding s m r
live s f m r =
    either (not r.signed) _ (Refuse invalid_parameter) _ _ _ refl refl
    (either (not (m.client_guid == s.client m.session_id)) _ (Refuse user_session_deleted) _ _ _ refl refl
    (either (not ((r.cipher == s.cipher m.session_id) && (r.signing == s.signing m.session_id))) _
    (Refuse invalid_parameter) _ _ _ refl refl
    (either (is_some (s.session_on m.connection)) _ (Refuse request_not_accepted) _ _ _ refl refl
    (either (not r.verified) _ (Refuse access_denied) _ _ _ refl refl (bound s f m r)))))

bindings : (s : Server) (f : ℕ → Option ℕ) (m : Message) (r : SetupRequest) → binding_check (with s f) m r ≡ binding_check s m r
bindings s f m r = either (s.present m.session_id) _ _ (unbound s) _ (unbound s) refl (live s f m r) refl
  where
    unbound : Server → Verdict
    unbound u = if not (is_new m.session_id (u.making m.connection)) then Refuse user_session_deleted
        else if not r.signed then Refuse invalid_parameter else Refuse request_not_accepted

first_shown : (s : Server) (f : ℕ → Option ℕ) (shows : Shows) → first_token (with s f) shows ≡ first_token s shows
first_shown s f Begins = refl
first_shown s f Bad = refl
first_shown s f Refused = refl
first_shown s f (Logon user) = refl

second_shown : (s : Server) (f : ℕ → Option ℕ) (m : Message) (r : SetupRequest) (shows : Shows)
    → second_token (with s f) m r shows ≡ second_token s m r shows
second_shown s f m r Begins = refl
second_shown s f m r Bad = refl
second_shown s f m r Refused = refl
second_shown s f m r (Logon user) = refl

sessions : (s : Server) (f : ℕ → Option ℕ) (m : Message) (r : SetupRequest) → session_check (with s f) m r ≡ session_check s m r
sessions s f m r =
    either (m.session_id == 0) _ _ _ _ _ refl
    (either (is_some (s.session_on m.connection)) _ (Refuse request_not_accepted) _ _ _ refl refl (first_shown s f r.shows))
    (either (s.present m.session_id) _ (Refuse request_not_accepted) _ _ _ refl refl
    (either (is_new m.session_id (s.making m.connection)) _ _ (Refuse user_session_deleted) _ _ refl (second_shown s f m r r.shows) refl))

setups : (s : Server) (f : ℕ → Option ℕ) (m : Message) (r : SetupRequest) → setup_check (with s f) m r ≡ setup_check s m r
setups s f m r = either r.binding _ _ _ _ _ refl (bindings s f m r) (sessions s f m r)

-- ---- the whole

on : (s : Server) (f : ℕ → Option ℕ) (m : Message) (o : ℕ) (v w : Verdict) → v ≡ w → on_open (with s f) m o v ≡ on_open s m o w
on s f m o v w e = either (is_of_tree s o m.session_id m.tree_id) _ v (Refuse file_closed) w _ refl e refl

in_its_tree : (s : Server) (f : ℕ → Option ℕ) (m : Message) (pipes : Bool) (c : Command)
    → tree_command (with s f) m pipes c ≡ tree_command s m pipes c
unfolding is_directory info_of path_of used
in_its_tree s f m pipes (Unreadable status) = refl
in_its_tree s f m pipes (Aside status) = refl
in_its_tree s f m pipes (Setup r) = refl
in_its_tree s f m pipes Logoff = refl
in_its_tree s f m pipes (TreeConnect share) = refl
in_its_tree s f m pipes TreeDisconnect = refl
in_its_tree s f m pipes (Create r) = created s f m r pipes
in_its_tree s f m pipes (Close o query) = refl
in_its_tree s f m pipes (Flush o) = refl
in_its_tree s f m pipes (Read o at size minimum channel) = refl
in_its_tree s f m pipes (Write o at bytes channel) = on s f m o _ _ (written s f m o at bytes)
in_its_tree s f m pipes (Lock o index number es) = on s f m o _ _ (slot s f o index number es (kept_lock s o index number))
in_its_tree s f m pipes (Ioctl o code room) = refl
in_its_tree s f m pipes (ListDirectory o class restart single pattern room) = on s f m o _ _
    (listed s f o class restart single pattern room)
in_its_tree s f m pipes (QueryFile o class room) = refl
in_its_tree s f m pipes (QueryVolume o class room) = refl
in_its_tree s f m pipes (SetInfo o x) = on s f m o _ _ (set_checked s f m o x)

tree : (s : Server) (f : ℕ → Option ℕ) (m : Message) (o : Option Bool) → in_tree (with s f) m o ≡ in_tree s m o
tree s f m None = refl
tree s f m (Some pipes) = in_its_tree s f m pipes m.command

trees : (s : Server) (f : ℕ → Option ℕ) (m : Message) → with_tree (with s f) m ≡ with_tree s m
trees s f m = tree s f m (tree_in (s.trees m.session_id) m.tree_id)

commanded : (s : Server) (f : ℕ → Option ℕ) (m : Message) (c : Command) → command_check (with s f) m c ≡ command_check s m c
commanded s f m (Unreadable status) = refl
commanded s f m (Aside status) = refl
commanded s f m (Setup r) = setups s f m r
commanded s f m Logoff = refl
commanded s f m (TreeConnect share) = refl
commanded s f m TreeDisconnect = trees s f m
commanded s f m (Create r) = trees s f m
commanded s f m (Close o query) = trees s f m
commanded s f m (Flush o) = trees s f m
commanded s f m (Read o at size minimum channel) = trees s f m
commanded s f m (Write o at bytes channel) = trees s f m
commanded s f m (Lock o index number es) = trees s f m
commanded s f m (Ioctl o code room) = trees s f m
commanded s f m (ListDirectory o class restart single pattern room) = trees s f m
commanded s f m (QueryFile o class room) = trees s f m
commanded s f m (QueryVolume o class room) = trees s f m
commanded s f m (SetInfo o x) = trees s f m

formed_same : (s : Server) (f : ℕ → Option ℕ) (m : Message) (o : Option ℕ) → formed (with s f) m o ≡ formed s m o
formed_same s f m None = commanded s f m m.command
formed_same s f m (Some status) = refl

owed_same : (s : Server) (f : ℕ → Option ℕ) (m : Message) (o : Option ℕ) → owed (with s f) m o ≡ owed s m o
owed_same s f m None = formed_same s f m (form m.command)
owed_same s f m (Some status) = refl

pub checked : (s : Server) (f : ℕ → Option ℕ) (m : Message) → check (with s f) m ≡ check s m
checked s f m = either (is_setup m.command || has_session s m) _ _ (Refuse user_session_deleted) _ _ refl (owed_same s f m m.fault) refl

pub ruled : (s : Server) (f : ℕ → Option ℕ) (e : ServerEvent) → ruling (with s f) e ≡ ruling s e
ruled s f (Heard m) = ap (Says m) (checked s f m)
ruled s f (Accept k) = refl
ruled s f (End k) = refl
ruled s f Stop = refl
