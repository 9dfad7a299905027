-- Each check's status fits 4 bytes, where what the server keeps does and the message carries no other.
use Rattle.std.proofs.Common.{◌≡◌, ℕ, ◌+◌, ◌==◌, nat_le, nat_lt, Bool, true, false, not, ◌&&◌, ◌||◌, List, [], ◌∷◌}
use Rattle.std.proofs.Common.{length, refl, sym, subst, Option, Some, None, is_some, inl, inr}
use Rattle.spec_exchange.specs.Table.{is_at}
use Rattle.spec_exchange.specs.Status.{success, access_denied, user_session_deleted, sharing_violation, insufficient_resources}
use Rattle.spec_exchange.specs.Status.{invalid_device_request, lock_not_granted, range_not_locked, disk_full}
use Rattle.spec_exchange.specs.Status.{file_not_available}
use Rattle.spec_exchange.specs.Texts.{same_name, begins_with_backslash, is_path, is_below}
use Rattle.spec_exchange.specs.Content.{is_empty}
use Rattle.spec_exchange.specs.Commands.{Command, Unreadable, Aside, Setup, Logoff, TreeConnect, TreeDisconnect, Create}
use Rattle.spec_exchange.specs.Commands.{Close, Flush, Read, Write, Lock, Ioctl, ListDirectory, QueryFile, QueryVolume}
use Rattle.spec_exchange.specs.Commands.{SetInfo, Setting, SetBasic, Rename, SetDelete, SetAllocation, SetEnd}
use Rattle.spec_exchange.specs.Commands.{SetPosition, SetMode}
use Rattle.spec_exchange.specs.Commands.{CreateRequest, Durable, Reconnect, SetupRequest, Shows, Begins, Bad, Refused, Logon, Element}
use Rattle.spec_exchange.specs.Commands.{deletes_on_close, asks_directory, asks_file, form}
use Rattle.spec_exchange.specs.Commands.{path_form, made_form, create_form, transfer_form, lock_form}
use Rattle.spec_exchange.specs.Commands.{room_form, list_form, is_short_pattern, is_setup, no_file, all_lock, all_unlock}
use Rattle.spec_exchange.specs.Commands.{has_bit, Basic}
use Rattle.spec_exchange.specs.State.{Server, Message, Kept, Named, Range, Empty}
use Rattle.spec_exchange.specs.Files.{root, find, has_parent, has_pending_parent, is_directory}
use Rattle.spec_exchange.specs.Files.{is_full_directory, path_of, set_basic, allocated, passes_room}
use Rattle.spec_exchange.specs.Files.{is_read_only, may_set_attributes, may_set_times}
use Rattle.spec_exchange.specs.Ranges.{RangeAnswer, Stands, Denied, change_ranges, lock_ranges, unlock_ranges, stands_or, ranges_of}
use Rattle.spec_exchange.specs.Ranges.{any_wraps, add_ranges, take_ranges, count_owned, max_ranges, may_read, may_write}
use Rattle.spec_exchange.specs.Opens.{deletes, mapped, max_ids, is_of_tree}
use Rattle.spec_exchange.specs.Opens.{granted, writes}
use Rattle.spec_exchange.specs.CheckCreate.{keeps_guid, max_guids, is_counted_out, action_of, names, names_of_found, found_names}
use Rattle.spec_exchange.specs.CheckCreate.{missing_names, makes_missing, empties, shares, refused_by, refused_create, after_names}
use Rattle.spec_exchange.specs.CheckCreate.{new_check, live_check, refusal_check, guid_check, reconnect_check, has_guid, durable_check}
use Rattle.spec_exchange.specs.CheckCreate.{reconnect_or_create, create_check}
use Rattle.spec_exchange.specs.CheckCreate.{found_attributes, missing_attributes, drops_bit, first_refusal}
use Rattle.spec_exchange.specs.CheckOpen.{file_of, has_access, is_slot, kept_status, kept_lock, is_repeated, is_late, bytes_change}
use Rattle.spec_exchange.specs.CheckOpen.{path_change, allocation_change, rename_names}
use Rattle.spec_exchange.specs.CheckOpen.{delete_names, target_of, target_refused, open_below}
use Rattle.spec_exchange.specs.CheckOpen.{timely_write, write_check, read_check, there, turn_down_lock, range_check, new_lock_check}
use Rattle.spec_exchange.specs.CheckOpen.{slot_check, lock_check, named_change, unless_repeated, size_change, setting_check, set_check}
use Rattle.spec_exchange.specs.CheckOpen.{flush_check, close_check, needs_attributes, file_query_check, volume_query_check, listing_of}
use Rattle.spec_exchange.specs.CheckOpen.{list_check, ioctl_status, ioctl_check, free_ioctl_check, query_interfaces, get_object_id, get_referrals}
use Rattle.spec_exchange.specs.CheckOpen.{basic_names}
use Rattle.spec_exchange.specs.Listing.{file_info_size, volume_info_size}
use Rattle.spec_exchange.specs.CheckSetup.{tree_in, setup_check, tree_check}
use Rattle.spec_exchange.specs.CheckSetup.{binding_check, live_binding, session_check, granted_session}
use Rattle.spec_exchange.specs.CheckSetup.{granted_binding, second_token, first_token}
use Rattle.spec_exchange.specs.CheckSetup.{second_binding, first_binding, is_new, is_binding}
use Rattle.spec_exchange.specs.CheckSetup.{max_sessions, max_channels, max_numbers, count_channels, no_tree_left, pipes_name}
use Rattle.spec_exchange.specs.Check.{check, owed, formed, command_check, with_tree, in_tree, tree_command, on_open, has_session}
use Rattle.spec_exchange.specs.Verdict.{Verdict, Refuse, Give, KeepRefusal, Repeat, Attach, Make, TurnDown, Tell, Show}
use Rattle.spec_exchange.specs.Verdict.{KeepSlot, PutRanges, Alter, CloseOpen, Challenge, ChallengeBinding, Begin, Join}
use Rattle.spec_exchange.specs.Verdict.{EndSession, AddTree, DropTree, Change, PutDeletePending, PutBasic, PutEnd}
use Rattle.spec_exchange.specs.Step.{without_room}
use Rattle.law_server.proofs.tables.Logic.{either}
use Rattle.law_server.proofs.tables.Doors.{Finds}

-- it fits 4 bytes
abbrev pub is_low : ℕ → Bool
is_low status = nat_lt status 0x1_0000_0000

-- where a status is named, it fits
abbrev pub LowIn : Option ℕ → Type 0
LowIn None = Unit {0}
LowIn (Some status) = is_low status ≡ true

-- a kept refusal's is no success either
abbrev pub IsRefusal : ℕ → Type 0
IsRefusal status = (is_low status ≡ true) × ((status == success) ≡ false)

abbrev pub KeptIn : Option ℕ → Type 0
KeptIn None = Unit {0}
KeptIn (Some status) = IsRefusal status

-- ---- words on verdicts

-- what the verdict tells fits
abbrev pub Tells : Verdict → Type 0
Tells (Refuse status) = is_low status ≡ true
Tells (KeepRefusal guid status) = IsRefusal status
Tells (TurnDown o status) = is_low status ≡ true
Tells (KeepSlot o index number status elements) = is_low status ≡ true
Tells _ = Unit {0}

-- what it keeps does
abbrev pub Keeps : Verdict → Type 0
Keeps (KeepRefusal guid status) = IsRefusal status
Keeps (KeepSlot o index number status elements) = is_low status ≡ true
Keeps _ = Unit {0}

pub kept_of_told : (v : Verdict) → Tells v → Keeps v
kept_of_told (Refuse status) e = tt
kept_of_told (KeepRefusal guid status) e = e
kept_of_told (TurnDown o status) e = tt
kept_of_told (KeepSlot o index number status elements) e = e
kept_of_told (Give body) e = tt
kept_of_told (Repeat o r) e = tt
kept_of_told (Attach o r) e = tt
kept_of_told (Make r found action) e = tt
kept_of_told (Tell o body) e = tt
kept_of_told (Show o last body) e = tt
kept_of_told (PutRanges o index number ranges elements) e = tt
kept_of_told (Alter o change body) e = tt
kept_of_told (CloseOpen o body) e = tt
kept_of_told Challenge e = tt
kept_of_told (ChallengeBinding session) e = tt
kept_of_told (Begin session user previous r is_quiet) e = tt
kept_of_told (Join session) e = tt
kept_of_told (EndSession session is_quiet) e = tt
kept_of_told (AddTree pipes) e = tt
kept_of_told DropTree e = tt

-- the command carries no status that doesn't fit
abbrev pub Carries : Command → Type 0
Carries (Unreadable status) = is_low status ≡ true
Carries (Aside status) = is_low status ≡ true
Carries _ = Unit {0}

-- ---- what the server keeps

-- of a slot
abbrev pub LowKept : Option Kept → Type 0
LowKept None = Unit {0}
LowKept (Some kept) = is_low kept.status ≡ true

pub record Low (refusals : ℕ → ℕ → Option ℕ) (locks : ℕ → ℕ → Option Kept) : Type 0 where
  pub creates : (x g : ℕ) → KeptIn (refusals x g)
  pub slots : (o i : ℕ) → LowKept (locks o i)

abbrev pub LowServer : Server → Type 0
LowServer s = Low s.refused s.lock_sequences

-- ---- CREATE

low_refused : (u : Option Durable) (status : ℕ) → IsRefusal status → Tells (refused_by u status)
low_refused None status e = e.0
low_refused (Some d) status e = e

low_found : (s : Server) (r : CreateRequest) (f : ℕ) → KeptIn (found_names s r f)
unfolding found_names
low_found s r f =
    either KeptIn (s.delete_pending f) _ _ (λ _. (refl, refl)) (λ _. either KeptIn (r.disposition == 2) _ _ (λ _. (refl, refl))
    (λ _. either KeptIn (asks_directory r && not (is_directory s f)) _ _ (λ _. (refl, refl))
    (λ _. either KeptIn (asks_file r && is_directory s f) _ _ (λ _. (refl, refl))
    (λ _. either KeptIn (empties r.disposition && is_directory s f) _ _ (λ _. (refl, refl))
    (λ _. either KeptIn (deletes_on_close r.options && (f == root)) _ _ (λ _. (refl, refl)) (λ _. tt))))))

low_attributes : (s : Server) (r : CreateRequest) (f : ℕ) → KeptIn (found_attributes s r f)
unfolding found_attributes
low_attributes s r f =
    either KeptIn (empties r.disposition && (drops_bit s r f 0x2 || drops_bit s r f 0x4)) _ _ (λ _. (refl, refl))
    (λ _. either KeptIn (is_read_only s f && (empties r.disposition || writes (granted s f r.access))) _ _ (λ _. (refl, refl))
    (λ _. either KeptIn (is_read_only s f && deletes_on_close r.options) _ _ (λ _. (refl, refl)) (λ _. tt)))

low_missing : (r : CreateRequest) → KeptIn (missing_names r)
unfolding missing_names
low_missing r = either KeptIn (makes_missing r.disposition) _ _ (λ _. tt) (λ _. (refl, refl))

low_made : (r : CreateRequest) → KeptIn (missing_attributes r)
unfolding missing_attributes
low_made r = either KeptIn (deletes_on_close r.options && (not (asks_directory r) && has_bit r.attributes 0x1)) _ _
    (λ _. (refl, refl)) (λ _. tt)

low_of_two : (a b : Option ℕ) → KeptIn a → KeptIn b → KeptIn (first_refusal a b)
low_of_two None b g h = h
low_of_two (Some status) b g h = g

low_by : (s : Server) (r : CreateRequest) (found : Option ℕ) → KeptIn (names_of_found s r found)
unfolding names_of_found
low_by s r None = low_of_two (missing_names r) (missing_attributes r) (low_missing r) (low_made r)
low_by s r (Some f) = low_of_two (found_names s r f) (found_attributes s r f) (low_found s r f) (low_attributes s r f)

pub low_names : (s : Server) (r : CreateRequest) (found : Option ℕ) → KeptIn (names s r found)
unfolding names
low_names s r found = either KeptIn (not (is_some found || has_parent s r.path)) _ _ (λ _. (refl, refl))
    (λ _. either KeptIn (has_pending_parent s r.path) _ _ (λ _. (refl, refl)) (λ _. low_by s r found))

low_after : (s : Server) (r : CreateRequest) (found u : Option ℕ) → KeptIn u → Tells (after_names s r found u)
low_after s r found (Some status) e = low_refused r.durable status e
low_after s r found None e = either Tells (shares s r found) (Make r found (action_of r found))
    (refused_create r sharing_violation) (λ _. tt) (λ _. low_refused r.durable sharing_violation (refl, refl))

low_new : (s : Server) (m : Message) (r : CreateRequest) (found : Option ℕ) → Tells (new_check s m r found)
low_new s m r found =
    either Tells (deletes_on_close r.options && not (deletes (mapped r.access))) _ _ (λ _. refl)
    (λ _. either Tells (keeps_guid r && nat_le max_guids (s.guids m.session_id)) _ _ (λ _. refl)
    (λ _. either Tells (is_counted_out s r found) _ _ (λ _. low_refused r.durable insufficient_resources (refl, refl))
    (λ _. low_after s r found (names s r found) (low_names s r found))))

low_live : (s : Server) (m : Message) (r : CreateRequest) (o : ℕ) → Tells (live_check s m r o)
low_live s m r o =
    either Tells (not m.replay) _ _ (λ _. refl) (λ _. either Tells (is_at m.session_id (s.session_of_open o)) _ _ (λ _. tt)
    (λ _. either Tells (is_some (s.session_of_open o) || not (s.opened o).persistent) _ _ (λ _. refl)
    (λ _. either Tells (same_name (s.opened o).user (s.user m.session_id)) _ _ (λ _. tt) (λ _. refl))))

low_refusal : (s : Server) (m : Message) (r : CreateRequest) (u : Option ℕ) → KeptIn u → Tells (refusal_check s m r u)
low_refusal s m r (Some status) e = e.0
low_refusal s m r None e = low_new s m r (find s r.path)

low_guid : (s : Server) (m : Message) (r : CreateRequest) (d : Durable) (u : Option ℕ) → LowServer s → Tells (guid_check s m r d u)
low_guid s m r d (Some o) f = low_live s m r o
low_guid s m r d None f =
    either Tells (s.closed m.session_id d.guid) _ _ (λ _. refl)
    (λ _. either Tells (s.expired_guids m.client_guid d.guid) _ _ (λ _. refl)
    (λ _. low_refusal s m r (s.refused m.session_id d.guid) (f.creates m.session_id d.guid)))

low_durable : (s : Server) (m : Message) (r : CreateRequest) (u : Option Durable) → LowServer s → Tells (durable_check s m r u)
low_durable s m r None f = low_new s m r (find s r.path)
low_durable s m r (Some d) f = low_guid s m r d (s.by_guid m.client_guid d.guid) f

low_reconnect : (s : Server) (m : Message) (r : CreateRequest) (c : Reconnect) → Tells (reconnect_check s m r c)
low_reconnect s m r c =
    either Tells (not (s.standing c.file && has_guid c.guid (s.opened c.file).create_guid)) _ _ (λ _. refl)
    (λ _. either Tells (not (same_name (s.opened c.file).user (s.user m.session_id))) _ _ (λ _. refl)
    (λ _. either Tells (is_some (s.session_of_open c.file) && not (is_at m.session_id (s.session_of_open c.file))) _ _
    (λ _. refl) (λ _. tt)))

low_connect_or : (s : Server) (m : Message) (r : CreateRequest) (u : Option Reconnect) → LowServer s → Tells (reconnect_or_create s m r u)
low_connect_or s m r (Some c) f = low_reconnect s m r c
low_connect_or s m r None f = low_durable s m r r.durable f

low_create : (s : Server) (m : Message) (r : CreateRequest) (pipes : Bool) → LowServer s → Tells (create_check s m r pipes)
low_create s m r true f = refl
low_create s m r false f = low_connect_or s m r r.reconnect f

-- ---- LOCK

abbrev LowRange : RangeAnswer → Type 0
LowRange (Stands ranges) = Unit {0}
LowRange (Denied status) = is_low status ≡ true

low_or : (status : ℕ) (u : Option (List Range)) → is_low status ≡ true → LowRange (stands_or status u)
unfolding stands_or
low_or status None e = e
low_or status (Some rs) e = tt

low_locking : (rs : List Range) (o : ℕ) (ws : List Range) → LowRange (lock_ranges rs o ws)
unfolding lock_ranges
low_locking rs o ws =
    either LowRange (nat_lt max_ranges (count_owned o rs + length ws)) _ _ (λ _. refl)
    (λ _. either LowRange (any_wraps ws) _ _ (λ _. refl) (λ _. low_or lock_not_granted (add_ranges rs ws) refl))

low_unlocking : (rs ws : List Range) → LowRange (unlock_ranges rs ws)
unfolding unlock_ranges
low_unlocking rs ws = either LowRange (any_wraps ws) _ _ (λ _. refl) (λ _. low_or range_not_locked (take_ranges (Some rs) ws) refl)

low_ranges : (rs : List Range) (o : ℕ) (es : List Element) → LowRange (change_ranges rs o es)
unfolding change_ranges
low_ranges rs o es =
    either LowRange (all_lock es) _ _ (λ _. low_locking rs o (ranges_of o es)) (λ _. low_unlocking rs (ranges_of o es))

low_turned : (o index number : ℕ) (elements : List Element) (status : ℕ) → is_low status ≡ true
    → Tells (turn_down_lock o index number elements status)
low_turned o index number elements status e =
    either Tells (is_slot index) (KeepSlot o index number status elements) (TurnDown o status) (λ _. e) (λ _. e)

low_range : (o index number : ℕ) (elements : List Element) (A : RangeAnswer) → LowRange A → Tells (range_check o index number elements A)
low_range o index number elements (Denied status) e = low_turned o index number elements status e
low_range o index number elements (Stands ranges) e = tt

low_new_lock : (s : Server) (o index number : ℕ) (elements : List Element) → Tells (new_lock_check s o index number elements)
low_new_lock s o index number elements =
    either Tells (is_directory s (file_of s o)) _ _ (λ _. low_turned o index number elements invalid_device_request refl)
    (λ _. low_range o index number elements (change_ranges (s.ranges (file_of s o)) o elements)
    (low_ranges (s.ranges (file_of s o)) o elements))

low_slotted : (number : ℕ) (u : Option Kept) → LowKept u → LowIn (kept_status number u)
low_slotted number None e = tt
low_slotted number (Some kept) e = either LowIn (kept.number == number) (Some kept.status) None (λ _. e) (λ _. tt)

low_kept : (s : Server) (o index number : ℕ) → LowServer s → LowIn (kept_lock s o index number)
low_kept s o index number f =
    either LowIn (is_slot index) (kept_status number (s.lock_sequences o index)) None
    (λ _. low_slotted number (s.lock_sequences o index) (f.slots o index)) (λ _. tt)

low_slot : (s : Server) (o index number : ℕ) (elements : List Element) (u : Option ℕ) → LowIn u
    → Tells (slot_check s o index number elements u)
low_slot s o index number elements None e = low_new_lock s o index number elements
low_slot s o index number elements (Some status) e =
    either Tells (status == success) (Give Empty) (Refuse status) (λ _. tt) (λ _. e)

low_lock : (s : Server) (o index number : ℕ) (elements : List Element) → LowServer s → Tells (lock_check s o index number elements)
low_lock s o index number elements f =
    low_slot s o index number elements (kept_lock s o index number) (low_kept s o index number f)

-- ---- the others that name an open

low_flush : (s : Server) (o : ℕ) → Tells (flush_check s o)
low_flush s o = either Tells (has_access s o 0x2 || has_access s o 0x4) _ _ (λ _. tt) (λ _. refl)

low_read : (s : Server) (o at size minimum : ℕ) → Tells (read_check s o at size minimum)
low_read s o at size minimum =
    either Tells (not (has_access s o 0x1 || has_access s o 0x20)) _ _ (λ _. refl)
    (λ _. either Tells (is_directory s (file_of s o)) _ _ (λ _. refl)
    (λ _. either Tells (not (may_read (s.ranges (file_of s o)) o at size)) _ _ (λ _. refl)
    (λ _. either Tells (not (size == 0) && not (nat_lt at (length (s.content (file_of s o))))) _ _ (λ _. refl)
    (λ _. either Tells (nat_lt (there s (file_of s o) at size) minimum) _ _ (λ _. refl) (λ _. tt)))))

low_timely : (s : Server) (m : Message) (o at : ℕ) (bytes : List ℕ) → Tells (timely_write s m o at bytes)
low_timely s m o at bytes =
    either Tells (not (has_access s o 0x2)) _ _ (λ _. refl) (λ _. either Tells (is_directory s (file_of s o)) _ _ (λ _. refl)
    (λ _. either Tells (is_repeated s m o (bytes_change at bytes)) _ _ (λ _. tt)
    (λ _. either Tells (not (may_write (s.ranges (file_of s o)) o at (length bytes))) _ _ (λ _. refl)
    (λ _. either Tells (not (is_empty bytes) && passes_room s (file_of s o) (at + length bytes)) _ _ (λ _. refl) (λ _. tt)))))

low_write : (s : Server) (m : Message) (o at : ℕ) (bytes : List ℕ) → Tells (write_check s m o at bytes)
low_write s m o at bytes = either Tells (is_late s m o) _ _ (λ _. refl) (λ _. low_timely s m o at bytes)

low_ioctl_status : (code room : ℕ) → is_low (ioctl_status code room) ≡ true
low_ioctl_status code room =
    let P : ℕ → Type 0 = λ n. is_low n ≡ true in
    either P (code == query_interfaces) _ _ (λ _. either P (nat_lt room 152) _ _ (λ _. refl) (λ _. refl))
    (λ _. either P (code == get_object_id) _ _ (λ _. either P (nat_lt room 64) _ _ (λ _. refl) (λ _. refl))
    (λ _. either P (code == get_referrals) _ _ (λ _. refl) (λ _. refl)))

low_ioctl : (s : Server) (m : Message) (o code room : ℕ) → Tells (ioctl_check s m o code room)
low_ioctl s m o code room =
    either Tells (is_late s m o) _ _ (λ _. refl)
    (λ _. either Tells (ioctl_status code room == success) _ _ (λ _. tt) (λ _. low_ioctl_status code room))

low_free_ioctl : (s : Server) (code room : ℕ) → Tells (free_ioctl_check s code room)
low_free_ioctl s code room = either Tells (code == get_object_id) _ _ (λ _. refl)
    (λ _. either Tells (ioctl_status code room == success) _ _ (λ _. tt) (λ _. low_ioctl_status code room))

low_listing : (o class : ℕ) (last : Option (List ℕ)) (all fit : List Named) → Tells (listing_of o class last all fit)
unfolding listing_of
low_listing o class None [] fit = refl
low_listing o class (Some last) [] fit = refl
low_listing o class last (n ∷ ns) [] = refl
low_listing o class last (n ∷ ns) (k ∷ ks) = tt

low_list : (s : Server) (o class : ℕ) (restart single : Bool) (pattern : List ℕ) (room : ℕ)
    → Tells (list_check s o class restart single pattern room)
low_list s o class restart single pattern room =
    either Tells (not (has_access s o 0x1)) _ _ (λ _. refl) (λ _. either Tells (not (is_directory s (file_of s o))) _ _
    (λ _. refl) (λ _. low_listing o class _ _ _))

low_query : (s : Server) (o class room : ℕ) → Tells (file_query_check s o class room)
low_query s o class room =
    either Tells (needs_attributes class && not (has_access s o 0x80)) _ _ (λ _. refl)
    (λ _. either Tells (class == 21) _ _ (λ _. refl)
    (λ _. either Tells (nat_lt room (file_info_size class (is_directory s (file_of s o)) (path_of s (file_of s o)))) _ _ (λ _. refl)
    (λ _. tt)))

low_volume : (s : Server) (o class room : ℕ) → Tells (volume_query_check s o class room)
low_volume s o class room = either Tells (nat_lt room (volume_info_size class)) _ _ (λ _. refl) (λ _. tt)

low_rename : (s : Server) (f : ℕ) (replace : Bool) (path : List ℕ) → LowIn (rename_names s f replace path)
unfolding rename_names
low_rename s f replace path =
    either LowIn (f == root) _ _ (λ _. refl)
    (λ _. either LowIn (is_directory s f && is_below (path_of s f) path) _ _ (λ _. refl)
    (λ _. either LowIn (not (has_parent s path)) _ _ (λ _. refl)
    (λ _. either LowIn (has_pending_parent s path) _ _ (λ _. refl)
    (λ _. either LowIn (is_some (find s path) && not replace) _ _ (λ _. refl)
    (λ _. either LowIn (target_refused s (target_of f (find s path))) _ _ (λ _. refl)
    (λ _. either LowIn (is_directory s f && open_below s s.entries (path_of s f)) _ _ (λ _. refl) (λ _. tt)))))))

low_delete : (s : Server) (f : ℕ) (flag : Bool) → LowIn (delete_names s f flag)
unfolding delete_names
low_delete s f flag =
    either LowIn (not flag) _ _ (λ _. tt) (λ _. either LowIn (f == root) _ _ (λ _. refl)
    (λ _. either LowIn (is_full_directory s f) _ _ (λ _. refl) (λ _. either LowIn (is_read_only s f) _ _ (λ _. refl) (λ _. tt))))

low_basic : (s : Server) (f : ℕ) (b : Basic) → LowIn (basic_names s f b)
unfolding basic_names
low_basic s f b = either LowIn (may_set_attributes (is_directory s f) b.attributes && may_set_times b) _ _ (λ _. tt) (λ _. refl)

low_named : (o : ℕ) (change : Change) (u : Option ℕ) → LowIn u → Tells (named_change o change u)
low_named o change (Some status) e = e
low_named o change None e = tt

low_unless : (s : Server) (m : Message) (o : ℕ) (change : Change) (v : Verdict) → Tells v → Tells (unless_repeated s m o change v)
low_unless s m o change v e = either Tells (is_repeated s m o change) _ v (λ _. tt) (λ _. e)

low_size : (s : Server) (m : Message) (o size : ℕ) (change : Change) → Tells (size_change s m o size change)
low_size s m o size change =
    either Tells (not (has_access s o 0x2)) _ _ (λ _. refl) (λ _. either Tells (is_directory s (file_of s o)) _ _ (λ _. refl)
    (λ _. either Tells (is_repeated s m o change) _ _ (λ _. tt)
    (λ _. either Tells (passes_room s (file_of s o) size) _ _ (λ _. refl) (λ _. tt))))

low_setting : (s : Server) (m : Message) (o : ℕ) (setting : Setting) → Tells (setting_check s m o setting)
low_setting s m o (SetBasic basic) =
    let change : Change = PutBasic (set_basic (s.basic (file_of s o)) basic) in let u = basic_names s (file_of s o) basic in
    either Tells (has_access s o 0x100) (unless_repeated s m o change (named_change o change u)) (TurnDown o access_denied)
    (λ _. low_unless s m o change (named_change o change u) (low_named o change u (low_basic s (file_of s o) basic))) (λ _. refl)
low_setting s m o (Rename replace path) =
    let change = path_change s o path in let u = rename_names s (file_of s o) replace path in
    either Tells (has_access s o 0x1_0000) (unless_repeated s m o change (named_change o change u)) (TurnDown o access_denied)
    (λ _. low_unless s m o change (named_change o change u) (low_named o change u (low_rename s (file_of s o) replace path)))
    (λ _. refl)
low_setting s m o (SetDelete flag) =
    let u = delete_names s (file_of s o) flag in
    either Tells (has_access s o 0x1_0000) (unless_repeated s m o (PutDeletePending flag) (named_change o (PutDeletePending flag) u))
    (TurnDown o access_denied)
    (λ _. low_unless s m o (PutDeletePending flag) (named_change o (PutDeletePending flag) u)
    (low_named o (PutDeletePending flag) u (low_delete s (file_of s o) flag)))
    (λ _. refl)
low_setting s m o (SetAllocation size) =
    low_size s m o (allocated size (length (s.content (file_of s o)))) (allocation_change s (file_of s o) size)
low_setting s m o (SetEnd size) = low_size s m o size (PutEnd size)
low_setting s m o (SetPosition position) = tt
low_setting s m o SetMode = tt

low_set : (s : Server) (m : Message) (o : ℕ) (setting : Setting) → Tells (set_check s m o setting)
low_set s m o setting =
    either Tells (is_late s m o) (Refuse file_not_available) (setting_check s m o setting) (λ _. refl) (λ _. low_setting s m o setting)

-- ---- behind check 4

low_open : (s : Server) (m : Message) (o : ℕ) (v : Verdict) → Tells v → Tells (on_open s m o v)
low_open s m o v e = either Tells (is_of_tree s o m.session_id m.tree_id) v _ (λ _. e) (λ _. refl)

low_tree : (s : Server) (m : Message) (pipes : Bool) (c : Command) → LowServer s → Carries c → Tells (tree_command s m pipes c)
low_tree s m pipes (Unreadable status) f p = p
low_tree s m pipes (Aside status) f p = refl
low_tree s m pipes (Setup request) f p = refl
low_tree s m pipes Logoff f p = refl
low_tree s m pipes (TreeConnect share) f p = refl
low_tree s m pipes TreeDisconnect f p = tt
low_tree s m pipes (Create request) f p = low_create s m request pipes f
low_tree s m pipes (Close o query) f p = low_open s m o (close_check s o query) tt
low_tree s m pipes (Flush o) f p = low_open s m o (flush_check s o) (low_flush s o)
low_tree s m pipes (Read o at size minimum channel) f p = low_open s m o (read_check s o at size minimum) (low_read s o at size minimum)
low_tree s m pipes (Write o at bytes channel) f p = low_open s m o (write_check s m o at bytes) (low_write s m o at bytes)
low_tree s m pipes (Lock o index number elements) f p =
    low_open s m o (lock_check s o index number elements) (low_lock s o index number elements f)
low_tree s m pipes (Ioctl o code room) f p =
    either Tells (o == no_file) (free_ioctl_check s code room) (on_open s m o (ioctl_check s m o code room))
    (λ _. low_free_ioctl s code room)
    (λ _. low_open s m o (ioctl_check s m o code room) (low_ioctl s m o code room))
low_tree s m pipes (ListDirectory o class restart single pattern room) f p =
    low_open s m o (list_check s o class restart single pattern room) (low_list s o class restart single pattern room)
low_tree s m pipes (QueryFile o class room) f p = low_open s m o (file_query_check s o class room) (low_query s o class room)
low_tree s m pipes (QueryVolume o class room) f p = low_open s m o (volume_query_check s o class room) (low_volume s o class room)
low_tree s m pipes (SetInfo o setting) f p = low_open s m o (set_check s m o setting) (low_set s m o setting)

low_in_tree : (s : Server) (m : Message) (u : Option Bool) → LowServer s → Carries m.command → Tells (in_tree s m u)
low_in_tree s m None f p = refl
low_in_tree s m (Some pipes) f p = low_tree s m pipes m.command f p

low_with_tree : (s : Server) (m : Message) → LowServer s → Carries m.command → Tells (with_tree s m)
low_with_tree s m f p = low_in_tree s m (tree_in (s.trees m.session_id) m.tree_id) f p

-- ---- sessions and trees

low_connect : (s : Server) (m : Message) (share : List ℕ) → Tells (tree_check s m share)
low_connect s m share =
    either Tells (no_tree_left s m.session_id) _ _ (λ _. refl) (λ _. either Tells (same_name share pipes_name) _ _ (λ _. tt)
    (λ _. either Tells (same_name share s.share) _ _ (λ _. tt) (λ _. refl)))

low_granted : (s : Server) (m : Message) (r : SetupRequest) (user : List ℕ) → Tells (granted_session s m r user)
low_granted s m r user =
    either Tells (s.encrypts && (r.cipher == 0)) _ _ (λ _. refl)
    (λ _. either Tells (nat_le max_sessions s.sessions) _ _ (λ _. refl) (λ _. tt))

low_second : (s : Server) (m : Message) (r : SetupRequest) (shows : Shows) → Tells (second_token s m r shows)
low_second s m r Begins = refl
low_second s m r Bad = refl
low_second s m r Refused = refl
low_second s m r (Logon user) = low_granted s m r user

low_first : (s : Server) (shows : Shows) → Tells (first_token s shows)
low_first s Begins = either Tells (nat_le max_ids s.session_ids_given) (Refuse insufficient_resources) Challenge (λ _. refl) (λ _. tt)
low_first s Bad = refl
low_first s Refused = refl
low_first s (Logon user) = refl

low_session : (s : Server) (m : Message) (r : SetupRequest) → Tells (session_check s m r)
low_session s m r =
    either Tells (m.session_id == 0) _ _
    (λ _. either Tells (is_some (s.session_on m.connection)) _ _ (λ _. refl) (λ _. low_first s r.shows))
    (λ _. either Tells (s.present m.session_id) _ _ (λ _. refl)
    (λ _. either Tells (is_new m.session_id (s.making m.connection)) _ _ (λ _. low_second s m r r.shows) (λ _. refl)))

low_bound : (s : Server) (m : Message) (user : List ℕ) → Tells (granted_binding s m user)
low_bound s m user =
    either Tells (not (same_name user (s.user m.session_id))) _ _ (λ _. refl)
    (λ _. either Tells (nat_le max_channels (count_channels s.session_on s.connections m.session_id)) _ _ (λ _. refl)
    (λ _. either Tells (nat_le max_numbers (s.channel_numbers_drawn m.session_id)) _ _ (λ _. refl) (λ _. tt)))

low_second_bound : (s : Server) (m : Message) (shows : Shows) → Tells (second_binding s m shows)
low_second_bound s m Begins = tt
low_second_bound s m Bad = refl
low_second_bound s m Refused = refl
low_second_bound s m (Logon user) = low_bound s m user

low_first_bound : (m : Message) (shows : Shows) → Tells (first_binding m shows)
low_first_bound m Begins = tt
low_first_bound m Bad = refl
low_first_bound m Refused = refl
low_first_bound m (Logon user) = refl

low_binding_live : (s : Server) (m : Message) (r : SetupRequest) → Tells (live_binding s m r)
low_binding_live s m r =
    either Tells (not r.signed) _ _ (λ _. refl)
    (λ _. either Tells (not (m.client_guid == s.client m.session_id)) _ _ (λ _. refl)
    (λ _. either Tells (not ((r.cipher == s.cipher m.session_id) && (r.signing == s.signing m.session_id))) _ _ (λ _. refl)
    (λ _. either Tells (is_some (s.session_on m.connection)) _ _ (λ _. refl)
    (λ _. either Tells (not r.verified) _ _ (λ _. refl)
    (λ _. either Tells (is_binding m.session_id (s.making m.connection)) _ _ (λ _. low_second_bound s m r.shows)
    (λ _. low_first_bound m r.shows))))))

low_binding : (s : Server) (m : Message) (r : SetupRequest) → Tells (binding_check s m r)
low_binding s m r =
    either Tells (s.present m.session_id) _ _ (λ _. low_binding_live s m r)
    (λ _. either Tells (not (is_new m.session_id (s.making m.connection))) _ _ (λ _. refl)
    (λ _. either Tells (not r.signed) _ _ (λ _. refl) (λ _. refl)))

low_setup : (s : Server) (m : Message) (r : SetupRequest) → Tells (setup_check s m r)
low_setup s m r = either Tells r.binding (binding_check s m r) (session_check s m r) (λ _. low_binding s m r) (λ _. low_session s m r)

-- ---- the ordered checks

low_command : (s : Server) (m : Message) (c : Command) → LowServer s → Carries m.command → Carries c → Tells (command_check s m c)
low_command s m (Unreadable status) f q p = p
low_command s m (Aside status) f q p = p
low_command s m (Setup request) f q p = low_setup s m request
low_command s m Logoff f q p = tt
low_command s m (TreeConnect share) f q p = low_connect s m share
low_command s m TreeDisconnect f q p = low_with_tree s m f q
low_command s m (Create request) f q p = low_with_tree s m f q
low_command s m (Close o query) f q p = low_with_tree s m f q
low_command s m (Flush o) f q p = low_with_tree s m f q
low_command s m (Read o at size minimum channel) f q p = low_with_tree s m f q
low_command s m (Write o at bytes channel) f q p = low_with_tree s m f q
low_command s m (Lock o index number elements) f q p = low_with_tree s m f q
low_command s m (Ioctl o code room) f q p = low_with_tree s m f q
low_command s m (ListDirectory o class restart single pattern room) f q p = low_with_tree s m f q
low_command s m (QueryFile o class room) f q p = low_with_tree s m f q
low_command s m (QueryVolume o class room) f q p = low_with_tree s m f q
low_command s m (SetInfo o setting) f q p = low_with_tree s m f q

low_path : (path : List ℕ) → LowIn (path_form path)
unfolding path_form
low_path path =
    either LowIn (begins_with_backslash path) _ _ (λ _. refl) (λ _. either LowIn (is_path path) _ _ (λ _. tt) (λ _. refl))

low_made_form : (r : CreateRequest) → LowIn (made_form r)
low_made_form r =
    either LowIn (nat_lt 5 r.disposition) _ _ (λ _. refl)
    (λ _. either LowIn (asks_directory r && asks_file r) _ _ (λ _. refl)
    (λ _. either LowIn (asks_directory r && has_bit r.attributes 0x100) _ _ (λ _. refl) (λ _. low_path r.path)))

low_create_form : (r : CreateRequest) → LowIn (create_form r)
low_create_form r =
    either LowIn (is_some r.reconnect) _ _ (λ _. either LowIn (is_some r.durable) _ _ (λ _. refl) (λ _. tt)) (λ _. low_made_form r)

low_transfer : (at size channel : ℕ) → LowIn (transfer_form at size channel)
low_transfer at size channel =
    either LowIn (nat_lt 1048576 size) _ _ (λ _. refl) (λ _. either LowIn (not (channel == 0)) _ _ (λ _. refl)
    (λ _. either LowIn (nat_lt (at + size) 0x8000_0000_0000_0000) _ _ (λ _. tt) (λ _. refl)))

low_elements : (es : List Element) → LowIn (lock_form es)
low_elements [] = refl
low_elements (e ∷ es) = either LowIn (all_lock (e ∷ es) || all_unlock (e ∷ es)) _ _ (λ _. tt) (λ _. refl)

low_room : (room : ℕ) → LowIn (room_form room)
low_room room = either LowIn (nat_lt 1048576 room) _ _ (λ _. refl) (λ _. tt)

low_list_form : (pattern : List ℕ) (room : ℕ) → LowIn (list_form pattern room)
low_list_form pattern room =
    either LowIn (nat_lt 1048576 room) _ _ (λ _. refl) (λ _. either LowIn (is_short_pattern pattern) _ _ (λ _. tt) (λ _. refl))

low_form : (c : Command) → Carries c → LowIn (form c)
low_form (Unreadable status) p = p
low_form (Setup request) p = either LowIn request.readable _ _ (λ _. tt) (λ _. refl)
low_form (Create request) p = low_create_form request
low_form (Read o at size minimum channel) p = low_transfer at size channel
low_form (Write o at bytes channel) p = low_transfer at (length bytes) channel
low_form (Lock o index number elements) p = low_elements elements
low_form (Ioctl o code room) p = low_room room
low_form (ListDirectory o class restart single pattern room) p = low_list_form pattern room
low_form (QueryFile o class room) p = low_room room
low_form (QueryVolume o class room) p = low_room room
low_form (SetInfo o (Rename replace path)) p = low_path path
low_form (SetInfo o (SetBasic basic)) p = tt
low_form (SetInfo o (SetDelete flag)) p = tt
low_form (SetInfo o (SetAllocation size)) p = tt
low_form (SetInfo o (SetEnd size)) p = tt
low_form (SetInfo o (SetPosition position)) p =
    either LowIn (nat_lt position 0x8000_0000_0000_0000) _ _ (λ _. tt) (λ _. refl)
low_form (SetInfo o SetMode) p = tt
low_form (Aside status) p = tt
low_form Logoff p = tt
low_form (TreeConnect share) p = tt
low_form TreeDisconnect p = tt
low_form (Close o query) p = tt
low_form (Flush o) p = tt

low_formed : (s : Server) (m : Message) (u : Option ℕ) → LowServer s → Carries m.command → LowIn u → Tells (formed s m u)
low_formed s m (Some status) f p e = e
low_formed s m None f p e = low_command s m m.command f p p

low_owed : (s : Server) (m : Message) (u : Option ℕ) → LowServer s → Carries m.command → LowIn u → Tells (owed s m u)
low_owed s m (Some status) f p e = e
low_owed s m None f p e = low_formed s m (form m.command) f p (low_form m.command p)

low_check : (s : Server) (m : Message) → LowServer s → Carries m.command → LowIn m.fault → Tells (check s m)
low_check s m f p e =
    either Tells (is_setup m.command || has_session s m) (owed s m m.fault) (Refuse user_session_deleted)
    (λ _. low_owed s m m.fault f p e) (λ _. refl)

-- ---- what any message makes the server keep

-- as if the command carried none: no verdict on one that carries a status keeps it
keeps_command : (s : Server) (m : Message) (c : Command) → m.command ≡ c → LowServer s → Keeps (command_check s m c)
keeps_command s m (Unreadable status) e f = tt
keeps_command s m (Aside status) e f = tt
keeps_command s m (Setup request) e f = kept_of_told (setup_check s m request) (low_setup s m request)
keeps_command s m Logoff e f = tt
keeps_command s m (TreeConnect share) e f = kept_of_told (tree_check s m share) (low_connect s m share)
keeps_command s m TreeDisconnect e f = kept_of_told (with_tree s m) (low_with_tree s m f (subst Carries (sym e) tt))
keeps_command s m (Create request) e f = kept_of_told (with_tree s m) (low_with_tree s m f (subst Carries (sym e) tt))
keeps_command s m (Close o query) e f = kept_of_told (with_tree s m) (low_with_tree s m f (subst Carries (sym e) tt))
keeps_command s m (Flush o) e f = kept_of_told (with_tree s m) (low_with_tree s m f (subst Carries (sym e) tt))
keeps_command s m (Read o at size minimum channel) e f =
    kept_of_told (with_tree s m) (low_with_tree s m f (subst Carries (sym e) tt))
keeps_command s m (Write o at bytes channel) e f = kept_of_told (with_tree s m) (low_with_tree s m f (subst Carries (sym e) tt))
keeps_command s m (Lock o index number elements) e f =
    kept_of_told (with_tree s m) (low_with_tree s m f (subst Carries (sym e) tt))
keeps_command s m (Ioctl o code room) e f = kept_of_told (with_tree s m) (low_with_tree s m f (subst Carries (sym e) tt))
keeps_command s m (ListDirectory o class restart single pattern room) e f =
    kept_of_told (with_tree s m) (low_with_tree s m f (subst Carries (sym e) tt))
keeps_command s m (QueryFile o class room) e f = kept_of_told (with_tree s m) (low_with_tree s m f (subst Carries (sym e) tt))
keeps_command s m (QueryVolume o class room) e f = kept_of_told (with_tree s m) (low_with_tree s m f (subst Carries (sym e) tt))
keeps_command s m (SetInfo o setting) e f = kept_of_told (with_tree s m) (low_with_tree s m f (subst Carries (sym e) tt))

keeps_formed : (s : Server) (m : Message) (u : Option ℕ) → LowServer s → Keeps (formed s m u)
keeps_formed s m (Some status) f = tt
keeps_formed s m None f = keeps_command s m m.command refl f

keeps_owed : (s : Server) (m : Message) (u : Option ℕ) → LowServer s → Keeps (owed s m u)
keeps_owed s m (Some status) f = tt
keeps_owed s m None f = keeps_formed s m (form m.command) f

pub keeps_check : (s : Server) (m : Message) → LowServer s → Keeps (check s m)
keeps_check s m f =
    either Keeps (is_setup m.command || has_session s m) (owed s m m.fault) (Refuse user_session_deleted)
    (λ _. keeps_owed s m m.fault f) (λ _. tt)

-- ---- where the records don't fit

low_full : (v : Verdict) → Tells v → Tells (without_room v)
low_full (Refuse status) e = e
low_full (Give body) e = tt
low_full (KeepRefusal guid status) e = e
low_full (Repeat o r) e = tt
low_full (Attach o r) e = tt
low_full (Make r found action) e = low_refused r.durable disk_full (refl, refl)
low_full (TurnDown o status) e = e
low_full (Tell o body) e = tt
low_full (Show o last body) e = tt
low_full (KeepSlot o index number status elements) e = refl
low_full (PutRanges o index number ranges elements) e = refl
low_full (Alter o change body) e = refl
low_full (CloseOpen o body) e = refl
low_full Challenge e = tt
low_full (ChallengeBinding session) e = tt
low_full (Begin session user previous r is_quiet) e = tt
low_full (Join session) e = tt
low_full (EndSession session is_quiet) e = tt
low_full (AddTree pipes) e = tt
low_full DropTree e = refl

pub keeps_full : (v : Verdict) → Keeps v → Keeps (without_room v)
keeps_full (Refuse status) e = tt
keeps_full (Give body) e = tt
keeps_full (KeepRefusal guid status) e = e
keeps_full (Repeat o r) e = tt
keeps_full (Attach o r) e = tt
keeps_full (Make r found action) e = kept_of_told (refused_create r disk_full) (low_refused r.durable disk_full (refl, refl))
keeps_full (TurnDown o status) e = tt
keeps_full (Tell o body) e = tt
keeps_full (Show o last body) e = tt
keeps_full (KeepSlot o index number status elements) e = tt
keeps_full (PutRanges o index number ranges elements) e = tt
keeps_full (Alter o change body) e = tt
keeps_full (CloseOpen o body) e = tt
keeps_full Challenge e = tt
keeps_full (ChallengeBinding session) e = tt
keeps_full (Begin session user previous r is_quiet) e = tt
keeps_full (Join session) e = tt
keeps_full (EndSession session is_quiet) e = tt
keeps_full (AddTree pipes) e = tt
keeps_full DropTree e = tt

pub finds_low : (t : Server) (m : Message) (v : Verdict) → LowServer t → Carries m.command → LowIn m.fault → Finds t m v → Tells v
finds_low t m v f p e (inl is) = subst Tells (sym is) (low_check t m f p e)
finds_low t m v f p e (inr is) = subst Tells (sym is) (low_full (check t m) (low_check t m f p e))
