-- Behind check 1 no check answers USER_SESSION_DELETED, where nothing that the server keeps does.
use Rattle.std.proofs.Common.{◌≡◌, ℕ, ◌+◌, ◌==◌, nat_le, nat_lt, Bool, true, false, not, ◌&&◌, ◌||◌, List, [], ◌∷◌}
use Rattle.std.proofs.Common.{length, refl, arith, ap, Option, Some, None, is_some}
use Rattle.spec_exchange.specs.Status.{success, access_denied, user_session_deleted, sharing_violation}
use Rattle.spec_exchange.specs.Status.{insufficient_resources, invalid_device_request, lock_not_granted}
use Rattle.spec_exchange.specs.Status.{range_not_locked, disk_full, file_not_available}
use Rattle.spec_exchange.specs.Commands.{Command, Unreadable, Aside, Setup, Logoff, TreeConnect, TreeDisconnect, Create}
use Rattle.spec_exchange.specs.Commands.{Close, Flush, Read, Write, Lock, Ioctl, ListDirectory, QueryFile, QueryVolume}
use Rattle.spec_exchange.specs.Commands.{SetInfo, Setting, SetBasic, Rename, SetDelete, SetAllocation, SetEnd}
use Rattle.spec_exchange.specs.Commands.{SetPosition, SetMode}
use Rattle.spec_exchange.specs.Commands.{CreateRequest, Durable, Reconnect, SetupRequest, Shows, Begins, Bad, Refused}
use Rattle.spec_exchange.specs.Commands.{Logon, Element, deletes_on_close, form, path_form, is_setup, no_file, all_lock}
use Rattle.spec_exchange.specs.Commands.{Basic}
use Rattle.spec_exchange.specs.State.{Server, Message, Kept, Named, Range}
use Rattle.spec_exchange.specs.Files.{find, is_directory, set_basic, allocated}
use Rattle.spec_exchange.specs.Ranges.{RangeAnswer, Stands, Denied, change_ranges, lock_ranges, unlock_ranges}
use Rattle.spec_exchange.specs.Ranges.{stands_or, ranges_of, any_wraps, add_ranges, take_ranges, count_owned}
use Rattle.spec_exchange.specs.Ranges.{max_ranges}
use Rattle.spec_exchange.specs.Opens.{deletes, mapped, max_ids}
use Rattle.spec_exchange.specs.CheckCreate.{keeps_guid, max_guids, is_counted_out, action_of, names}
use Rattle.spec_exchange.specs.CheckCreate.{shares, refused_by, refused_create, after_names}
use Rattle.spec_exchange.specs.CheckCreate.{new_check, live_check, refusal_check, guid_check, reconnect_check}
use Rattle.spec_exchange.specs.CheckCreate.{durable_check, reconnect_or_create, create_check}
use Rattle.spec_exchange.specs.CheckOpen.{file_of, has_access, is_slot, kept_status, kept_lock, is_repeated}
use Rattle.spec_exchange.specs.CheckOpen.{path_change, allocation_change, rename_names, delete_names, write_check}
use Rattle.spec_exchange.specs.CheckOpen.{read_check, turn_down_lock, range_check, new_lock_check, slot_check}
use Rattle.spec_exchange.specs.CheckOpen.{lock_check, named_change, unless_repeated, size_change, setting_check}
use Rattle.spec_exchange.specs.CheckOpen.{set_check, flush_check, close_check, file_query_check, volume_query_check}
use Rattle.spec_exchange.specs.CheckOpen.{listing_of, list_check, ioctl_check, free_ioctl_check, is_late}
use Rattle.spec_exchange.specs.CheckOpen.{basic_names}
use Rattle.spec_exchange.specs.CheckSetup.{tree_in, setup_check, tree_check, binding_check, session_check}
use Rattle.spec_exchange.specs.CheckSetup.{granted_session, second_token, first_token, is_new}
use Rattle.spec_exchange.specs.Check.{check, owed, formed, command_check, with_tree, in_tree, tree_command, on_open, has_session}
use Rattle.spec_exchange.specs.Verdict.{Verdict, Refuse, Give, KeepRefusal, Repeat, Attach, Make, TurnDown, Tell, Show}
use Rattle.spec_exchange.specs.Verdict.{KeepSlot, PutRanges, Alter, CloseOpen, Challenge, ChallengeBinding, Begin, Join}
use Rattle.spec_exchange.specs.Verdict.{EndSession, AddTree, DropTree, Change, PutDeletePending, PutBasic, PutEnd}
use Rattle.spec_exchange.specs.Step.{without_room}
use Rattle.law_server.proofs.tables.Logic.{either}
use Rattle.law_server.proofs.tables.Refusals.{names_say}

-- it isn't USER_SESSION_DELETED
abbrev pub is_other : ℕ → Bool
is_other status = not (status == user_session_deleted)

-- ---- words on verdicts

-- what the verdict tells isn't that
abbrev pub is_fair : Verdict → Bool
is_fair (Refuse status) = is_other status
is_fair (KeepRefusal guid status) = is_other status
is_fair (TurnDown o status) = is_other status
is_fair (KeepSlot o index number status elements) = is_other status
is_fair _ = true

-- what it keeps isn't
abbrev pub keeps_fair : Verdict → Bool
keeps_fair (KeepRefusal guid status) = is_other status
keeps_fair (KeepSlot o index number status elements) = is_other status
keeps_fair _ = true

pub kept_of_fair : (v : Verdict) → is_fair v ≡ true → keeps_fair v ≡ true
kept_of_fair (Refuse status) e = refl
kept_of_fair (KeepRefusal guid status) e = e
kept_of_fair (TurnDown o status) e = refl
kept_of_fair (KeepSlot o index number status elements) e = e
kept_of_fair (Give body) e = refl
kept_of_fair (Repeat o r) e = refl
kept_of_fair (Attach o r) e = refl
kept_of_fair (Make r found action) e = refl
kept_of_fair (Tell o body) e = refl
kept_of_fair (Show o last body) e = refl
kept_of_fair (PutRanges o index number ranges elements) e = refl
kept_of_fair (Alter o change body) e = refl
kept_of_fair (CloseOpen o body) e = refl
kept_of_fair Challenge e = refl
kept_of_fair (ChallengeBinding session) e = refl
kept_of_fair (Begin session user previous r is_quiet) e = refl
kept_of_fair (Join session) e = refl
kept_of_fair (EndSession session is_quiet) e = refl
kept_of_fair (AddTree pipes) e = refl
kept_of_fair DropTree e = refl

-- the command carries no such status
unfoldable pub is_plain : Command → Bool
is_plain (Unreadable status) = is_other status
is_plain (Aside status) = is_other status
is_plain _ = true

-- ---- what the server keeps

pub record Fair (refusals : ℕ → ℕ → Option ℕ) (locks : ℕ → ℕ → Option Kept) : Type 0 where
  pub creates : (x g status : ℕ) → refusals x g ≡ Some status → is_other status ≡ true
  pub slots : (o i : ℕ) (k : Kept) → locks o i ≡ Some k → is_other k.status ≡ true

abbrev pub FairServer : Server → Type 0
FairServer s = Fair s.refused s.lock_sequences

-- ---- CREATE

fair_refused : (u : Option Durable) (status : ℕ) → is_other status ≡ true → is_fair (refused_by u status) ≡ true
fair_refused None status e = e
fair_refused (Some d) status e = e

fair_names : (s : Server) (r : CreateRequest) (found : Option ℕ) (status : ℕ) → names s r found ≡ Some status → is_other status ≡ true
fair_names = names_say (λ n. is_other n ≡ true) (record {
  pending = refl;
  collision = refl;
  no_directory = refl;
  directory = refl;
  parameter = refl;
  denied = refl;
  undeletable = refl;
  no_name = refl;
  no_path = refl;
})

fair_after : (s : Server) (r : CreateRequest) (found u : Option ℕ) → names s r found ≡ u → is_fair (after_names s r found u) ≡ true
fair_after s r found (Some status) e = fair_refused r.durable status (fair_names s r found status e)
fair_after s r found None e = either (λ v. is_fair v ≡ true) (shares s r found) (Make r found (action_of r found))
    (refused_create r sharing_violation) (λ _. refl) (λ _. fair_refused r.durable sharing_violation refl)

fair_new : (s : Server) (m : Message) (r : CreateRequest) (found : Option ℕ) → is_fair (new_check s m r found) ≡ true
fair_new s m r found =
    let P : Verdict → Type 0 = λ v. is_fair v ≡ true in
    either P (deletes_on_close r.options && not (deletes (mapped r.access))) _ _ (λ _. refl)
    (λ _. either P (keeps_guid r && nat_le max_guids (s.guids m.session_id)) _ _ (λ _. refl)
    (λ _. either P (is_counted_out s r found) _ _ (λ _. fair_refused r.durable insufficient_resources refl)
    (λ _. fair_after s r found (names s r found) refl)))

fair_live : (s : Server) (m : Message) (r : CreateRequest) (o : ℕ) → is_fair (live_check s m r o) ≡ true
fair_live s m r o = grind arith

fair_refusal : (s : Server) (m : Message) (r : CreateRequest) (g : ℕ) (u : Option ℕ) → FairServer s
    → s.refused m.session_id g ≡ u → is_fair (refusal_check s m r u) ≡ true
fair_refusal s m r g (Some status) f e = f.creates m.session_id g status e
fair_refusal s m r g None f e = fair_new s m r (find s r.path)

fair_guid : (s : Server) (m : Message) (r : CreateRequest) (d : Durable) (u : Option ℕ) → FairServer s
    → is_fair (guid_check s m r d u) ≡ true
fair_guid s m r d (Some o) f = fair_live s m r o
fair_guid s m r d None f =
    let P : Verdict → Type 0 = λ v. is_fair v ≡ true in
    either P (s.closed m.session_id d.guid) _ _ (λ _. refl) (λ _. either P (s.expired_guids m.client_guid d.guid) _ _
    (λ _. refl) (λ _. fair_refusal s m r d.guid (s.refused m.session_id d.guid) f refl))

fair_durable : (s : Server) (m : Message) (r : CreateRequest) (u : Option Durable) → FairServer s → is_fair (durable_check s m r u) ≡ true
fair_durable s m r None f = fair_new s m r (find s r.path)
fair_durable s m r (Some d) f = fair_guid s m r d (s.by_guid m.client_guid d.guid) f

fair_reconnect : (s : Server) (m : Message) (r : CreateRequest) (c : Reconnect) → is_fair (reconnect_check s m r c) ≡ true
fair_reconnect s m r c = grind arith

fair_connect_or : (s : Server) (m : Message) (r : CreateRequest) (u : Option Reconnect) → FairServer s
    → is_fair (reconnect_or_create s m r u) ≡ true
fair_connect_or s m r (Some c) f = fair_reconnect s m r c
fair_connect_or s m r None f = fair_durable s m r r.durable f

fair_create : (s : Server) (m : Message) (r : CreateRequest) (pipes : Bool) → FairServer s → is_fair (create_check s m r pipes) ≡ true
fair_create s m r true f = refl
fair_create s m r false f = fair_connect_or s m r r.reconnect f

-- ---- LOCK

fair_or : (status wanted : ℕ) (u : Option (List Range)) → is_other wanted ≡ true → stands_or wanted u ≡ Denied status
    → is_other status ≡ true
unfolding stands_or
fair_or status wanted None o e = grind arith
fair_or status wanted (Some rs) o e = absurd (cc)

fair_locking : (rs : List Range) (o : ℕ) (ws : List Range) (status : ℕ) → lock_ranges rs o ws ≡ Denied status → is_other status ≡ true
unfolding lock_ranges
fair_locking rs o ws status =
    let P : RangeAnswer → Type 0 = λ A. A ≡ Denied status → is_other status ≡ true in
    either P (nat_lt max_ranges (count_owned o rs + length ws)) _ _ (λ _ e. grind arith)
    (λ _. either P (any_wraps ws) _ _ (λ _ e. grind arith)
    (λ _ e. fair_or status lock_not_granted (add_ranges rs ws) refl e))

fair_unlocking : (rs ws : List Range) (status : ℕ) → unlock_ranges rs ws ≡ Denied status → is_other status ≡ true
unfolding unlock_ranges
fair_unlocking rs ws status =
    either (λ A. A ≡ Denied status → is_other status ≡ true) (any_wraps ws) _ _ (λ _ e. grind arith)
    (λ _ e. fair_or status range_not_locked (take_ranges (Some rs) ws) refl e)

fair_ranges : (rs : List Range) (o : ℕ) (es : List Element) (status : ℕ) → change_ranges rs o es ≡ Denied status → is_other status ≡ true
unfolding change_ranges
fair_ranges rs o es status =
    either (λ A. A ≡ Denied status → is_other status ≡ true) (all_lock es) _ _
    (λ _ e. fair_locking rs o (ranges_of o es) status e) (λ _ e. fair_unlocking rs (ranges_of o es) status e)

fair_turned : (o index number : ℕ) (elements : List Element) (status : ℕ) → is_other status ≡ true
    → is_fair (turn_down_lock o index number elements status) ≡ true
fair_turned o index number elements status e = either (λ v. is_fair v ≡ true) (is_slot index)
    (KeepSlot o index number status elements) (TurnDown o status) (λ _. e) (λ _. e)

fair_range : (s : Server) (o index number : ℕ) (elements : List Element) (A : RangeAnswer)
    → change_ranges (s.ranges (file_of s o)) o elements ≡ A → is_fair (range_check o index number elements A) ≡ true
fair_range s o index number elements (Denied status) e = fair_turned o index number elements status
    (fair_ranges (s.ranges (file_of s o)) o elements status e)
fair_range s o index number elements (Stands ranges) e = refl

fair_new_lock : (s : Server) (o index number : ℕ) (elements : List Element) → is_fair (new_lock_check s o index number elements) ≡ true
fair_new_lock s o index number elements =
    either (λ v. is_fair v ≡ true) (is_directory s (file_of s o)) _ _ (λ _. fair_turned o index number elements invalid_device_request refl)
    (λ _. fair_range s o index number elements (change_ranges (s.ranges (file_of s o)) o elements) refl)

fair_status : (number status : ℕ) (u : Option Kept) → kept_status number u ≡ Some status
    → ((k : Kept) → u ≡ Some k → is_other k.status ≡ true) → is_other status ≡ true
fair_status number status None e f = absurd (cc)
fair_status number status (Some k) e f = let h = f k refl in grind arith

fair_kept : (s : Server) (o index number status : ℕ) → FairServer s → kept_lock s o index number ≡ Some status → is_other status ≡ true
fair_kept s o index number status f =
    either (λ u. u ≡ Some status → is_other status ≡ true) (is_slot index)
    (kept_status number (s.lock_sequences o index)) None
    (λ _ e. fair_status number status (s.lock_sequences o index) e (λ k h. f.slots o index k h))
    (λ _ e. absurd (cc))

fair_slot : (s : Server) (o index number : ℕ) (elements : List Element) (u : Option ℕ) → FairServer s
    → kept_lock s o index number ≡ u → is_fair (slot_check s o index number elements u) ≡ true
fair_slot s o index number elements None f e = fair_new_lock s o index number elements
fair_slot s o index number elements (Some status) f e = either (λ v. is_fair v ≡ true) (status == success) _ _
    (λ _. refl) (λ _. fair_kept s o index number status f e)

fair_lock : (s : Server) (o index number : ℕ) (elements : List Element) → FairServer s
    → is_fair (lock_check s o index number elements) ≡ true
fair_lock s o index number elements f = fair_slot s o index number elements (kept_lock s o index number) f refl

-- ---- the others that name an open

fair_flush : (s : Server) (o : ℕ) → is_fair (flush_check s o) ≡ true
fair_flush s o = grind arith

fair_read : (s : Server) (o at size minimum : ℕ) → is_fair (read_check s o at size minimum) ≡ true
fair_read s o at size minimum = grind arith

fair_write : (s : Server) (m : Message) (o at : ℕ) (bytes : List ℕ) → is_fair (write_check s m o at bytes) ≡ true
fair_write s m o at bytes = grind arith

fair_ioctl : (s : Server) (m : Message) (o code room : ℕ) → is_fair (ioctl_check s m o code room) ≡ true
fair_ioctl s m o code room = grind arith

fair_free_ioctl : (s : Server) (code room : ℕ) → is_fair (free_ioctl_check s code room) ≡ true
fair_free_ioctl s code room = grind arith

fair_listing : (o class : ℕ) (last : Option (List ℕ)) (all fit : List Named) → is_fair (listing_of o class last all fit) ≡ true
unfolding listing_of
fair_listing o class None [] fit = refl
fair_listing o class (Some last) [] fit = refl
fair_listing o class last (n ∷ ns) [] = refl
fair_listing o class last (n ∷ ns) (k ∷ ks) = refl

fair_list : (s : Server) (o class : ℕ) (restart single : Bool) (pattern : List ℕ) (room : ℕ)
    → is_fair (list_check s o class restart single pattern room) ≡ true
fair_list s o class restart single pattern room =
    let P : Verdict → Type 0 = λ v. is_fair v ≡ true in
    either P (not (has_access s o 0x1)) _ _ (λ _. refl) (λ _. either P (not (is_directory s (file_of s o))) _ _
    (λ _. refl) (λ _. fair_listing o class _ _ _))

fair_query : (s : Server) (o class room : ℕ) → is_fair (file_query_check s o class room) ≡ true
fair_query s o class room = grind arith

fair_volume : (s : Server) (o class room : ℕ) → is_fair (volume_query_check s o class room) ≡ true
fair_volume s o class room = grind arith

fair_rename_names : (s : Server) (f : ℕ) (replace : Bool) (path : List ℕ) (status : ℕ) → rename_names s f replace path
    ≡ Some status → is_other status ≡ true
unfolding rename_names
fair_rename_names s f replace path status e = grind arith

fair_delete_names : (s : Server) (f : ℕ) (flag : Bool) (status : ℕ) → delete_names s f flag ≡ Some status → is_other status ≡ true
unfolding delete_names
fair_delete_names s f flag status e = grind arith

fair_basic_names : (s : Server) (f : ℕ) (b : Basic) (status : ℕ) → basic_names s f b ≡ Some status → is_other status ≡ true
unfolding basic_names
fair_basic_names s f b status e = grind arith

fair_named : (o : ℕ) (change : Change) (u : Option ℕ) → ((status : ℕ) → u ≡ Some status → is_other status ≡ true)
    → is_fair (named_change o change u) ≡ true
fair_named o change (Some status) f = f status refl
fair_named o change None f = refl

fair_unless : (s : Server) (m : Message) (o : ℕ) (change : Change) (v : Verdict) → is_fair v ≡ true
    → is_fair (unless_repeated s m o change v) ≡ true
fair_unless s m o change v e = either (λ u. is_fair u ≡ true) (is_repeated s m o change) _ v (λ _. refl) (λ _. e)

fair_size : (s : Server) (m : Message) (o size : ℕ) (change : Change) → is_fair (size_change s m o size change) ≡ true
fair_size s m o size change = grind arith

fair_setting : (s : Server) (m : Message) (o : ℕ) (setting : Setting) → is_fair (setting_check s m o setting) ≡ true
fair_setting s m o (SetBasic basic) =
    let change : Change = PutBasic (set_basic (s.basic (file_of s o)) basic) in
    let u = basic_names s (file_of s o) basic in
    either (λ v. is_fair v ≡ true) (has_access s o 0x100) (unless_repeated s m o change (named_change o change u))
    (TurnDown o access_denied)
    (λ _. fair_unless s m o change (named_change o change u)
    (fair_named o change u (fair_basic_names s (file_of s o) basic))) (λ _. refl)
fair_setting s m o (Rename replace path) =
    let change = path_change s o path in let u = rename_names s (file_of s o) replace path in
    either (λ v. is_fair v ≡ true) (has_access s o 0x1_0000) (unless_repeated s m o change (named_change o change u))
    (TurnDown o access_denied)
    (λ _. fair_unless s m o change (named_change o change u)
    (fair_named o change u (fair_rename_names s (file_of s o) replace path))) (λ _. refl)
fair_setting s m o (SetDelete flag) =
    let u = delete_names s (file_of s o) flag in
    either (λ v. is_fair v ≡ true) (has_access s o 0x1_0000) (unless_repeated s m o (PutDeletePending flag)
    (named_change o (PutDeletePending flag) u)) (TurnDown o access_denied)
    (λ _. fair_unless s m o (PutDeletePending flag) (named_change o (PutDeletePending flag) u)
    (fair_named o (PutDeletePending flag) u (fair_delete_names s (file_of s o) flag))) (λ _. refl)
fair_setting s m o (SetAllocation size) = fair_size s m o (allocated size (length (s.content (file_of s o))))
    (allocation_change s (file_of s o) size)
fair_setting s m o (SetEnd size) = fair_size s m o size (PutEnd size)
fair_setting s m o (SetPosition position) = refl
fair_setting s m o SetMode = refl

fair_set : (s : Server) (m : Message) (o : ℕ) (setting : Setting) → is_fair (set_check s m o setting) ≡ true
fair_set s m o setting = either (λ v. is_fair v ≡ true) (is_late s m o) (Refuse file_not_available)
    (setting_check s m o setting) (λ _. refl) (λ _. fair_setting s m o setting)

-- ---- every command behind check 1

fair_open : (s : Server) (m : Message) (o : ℕ) (v : Verdict) → is_fair v ≡ true → is_fair (on_open s m o v) ≡ true
fair_open s m o v e = grind arith

fair_tree : (s : Server) (m : Message) (pipes : Bool) (c : Command) → FairServer s → is_plain c ≡ true
    → is_fair (tree_command s m pipes c) ≡ true
unfolding is_plain
fair_tree s m pipes (Unreadable status) f p = p
fair_tree s m pipes (Aside status) f p = refl
fair_tree s m pipes (Setup request) f p = refl
fair_tree s m pipes Logoff f p = refl
fair_tree s m pipes (TreeConnect share) f p = refl
fair_tree s m pipes TreeDisconnect f p = refl
fair_tree s m pipes (Create request) f p = fair_create s m request pipes f
fair_tree s m pipes (Close o query) f p = fair_open s m o (close_check s o query) refl
fair_tree s m pipes (Flush o) f p = fair_open s m o (flush_check s o) (fair_flush s o)
fair_tree s m pipes (Read o at size minimum channel) f p = fair_open s m o (read_check s o at size minimum) (fair_read s o at size minimum)
fair_tree s m pipes (Write o at bytes channel) f p = fair_open s m o (write_check s m o at bytes) (fair_write s m o at bytes)
fair_tree s m pipes (Lock o index number elements) f p = fair_open s m o (lock_check s o index number elements)
    (fair_lock s o index number elements f)
fair_tree s m pipes (Ioctl o code room) f p =
    either (λ v. is_fair v ≡ true) (o == no_file) (free_ioctl_check s code room)
    (on_open s m o (ioctl_check s m o code room)) (λ _. fair_free_ioctl s code room)
    (λ _. fair_open s m o (ioctl_check s m o code room) (fair_ioctl s m o code room))
fair_tree s m pipes (ListDirectory o class restart single pattern room) f p =
    fair_open s m o (list_check s o class restart single pattern room) (fair_list s o class restart single pattern room)
fair_tree s m pipes (QueryFile o class room) f p = fair_open s m o (file_query_check s o class room) (fair_query s o class room)
fair_tree s m pipes (QueryVolume o class room) f p = fair_open s m o (volume_query_check s o class room) (fair_volume s o class room)
fair_tree s m pipes (SetInfo o setting) f p = fair_open s m o (set_check s m o setting) (fair_set s m o setting)

fair_in_tree : (s : Server) (m : Message) (u : Option Bool) → FairServer s → is_plain m.command ≡ true → is_fair (in_tree s m u) ≡ true
fair_in_tree s m None f p = refl
fair_in_tree s m (Some pipes) f p = fair_tree s m pipes m.command f p

fair_with_tree : (s : Server) (m : Message) → FairServer s → is_plain m.command ≡ true → is_fair (with_tree s m) ≡ true
fair_with_tree s m f p = fair_in_tree s m (tree_in (s.trees m.session_id) m.tree_id) f p

fair_connect : (s : Server) (m : Message) (share : List ℕ) → is_fair (tree_check s m share) ≡ true
fair_connect s m share = grind arith

fair_command : (s : Server) (m : Message) (c : Command) → FairServer s → is_plain m.command ≡ true → is_plain c ≡ true
    → is_setup c ≡ false → is_fair (command_check s m c) ≡ true
unfolding is_plain
fair_command s m (Unreadable status) f q p n = p
fair_command s m (Aside status) f q p n = p
fair_command s m (Setup request) f q p n = absurd (cc)
fair_command s m Logoff f q p n = refl
fair_command s m (TreeConnect share) f q p n = fair_connect s m share
fair_command s m TreeDisconnect f q p n = fair_with_tree s m f q
fair_command s m (Create request) f q p n = fair_with_tree s m f q
fair_command s m (Close o query) f q p n = fair_with_tree s m f q
fair_command s m (Flush o) f q p n = fair_with_tree s m f q
fair_command s m (Read o at size minimum channel) f q p n = fair_with_tree s m f q
fair_command s m (Write o at bytes channel) f q p n = fair_with_tree s m f q
fair_command s m (Lock o index number elements) f q p n = fair_with_tree s m f q
fair_command s m (Ioctl o code room) f q p n = fair_with_tree s m f q
fair_command s m (ListDirectory o class restart single pattern room) f q p n = fair_with_tree s m f q
fair_command s m (QueryFile o class room) f q p n = fair_with_tree s m f q
fair_command s m (QueryVolume o class room) f q p n = fair_with_tree s m f q
fair_command s m (SetInfo o setting) f q p n = fair_with_tree s m f q

fair_path : (path : List ℕ) (status : ℕ) → path_form path ≡ Some status → is_other status ≡ true
unfolding path_form
fair_path path status e = grind arith

fair_form : (c : Command) (status : ℕ) → is_plain c ≡ true → form c ≡ Some status → is_other status ≡ true
unfolding is_plain
fair_form (Unreadable wanted) status p e = grind arith
fair_form (Setup request) status p e = grind arith
fair_form (Create request) status p e = grind (arith, fair_path)
fair_form (Read o at size minimum channel) status p e = grind arith
fair_form (Write o at bytes channel) status p e = grind arith
fair_form (Lock o index number []) status p e = grind arith
fair_form (Lock o index number (x ∷ xs)) status p e = grind arith
fair_form (Ioctl o code room) status p e = grind arith
fair_form (ListDirectory o class restart single pattern room) status p e = grind arith
fair_form (QueryFile o class room) status p e = grind arith
fair_form (QueryVolume o class room) status p e = grind arith
fair_form (SetInfo o (Rename replace path)) status p e = fair_path path status e
fair_form (SetInfo o (SetBasic basic)) status p e = absurd (cc)
fair_form (SetInfo o (SetDelete flag)) status p e = absurd (cc)
fair_form (SetInfo o (SetAllocation size)) status p e = absurd (cc)
fair_form (SetInfo o (SetEnd size)) status p e = absurd (cc)
fair_form (SetInfo o (SetPosition position)) status p e = grind arith
fair_form (SetInfo o SetMode) status p e = absurd (cc)
fair_form (Aside wanted) status p e = absurd (cc)
fair_form Logoff status p e = absurd (cc)
fair_form (TreeConnect share) status p e = absurd (cc)
fair_form TreeDisconnect status p e = absurd (cc)
fair_form (Close o query) status p e = absurd (cc)
fair_form (Flush o) status p e = absurd (cc)

fair_formed : (s : Server) (m : Message) (u : Option ℕ) → FairServer s → is_plain m.command ≡ true → is_setup m.command
    ≡ false → form m.command ≡ u → is_fair (formed s m u) ≡ true
fair_formed s m (Some status) f p n e = fair_form m.command status p e
fair_formed s m None f p n e = fair_command s m m.command f p p n

fair_owed : (s : Server) (m : Message) (u : Option ℕ) → FairServer s → is_plain m.command ≡ true → is_setup m.command
    ≡ false → u ≡ None → is_fair (owed s m u) ≡ true
fair_owed s m (Some status) f p n e = absurd (cc)
fair_owed s m None f p n e = fair_formed s m (form m.command) f p n refl

-- where its session is there
pub fair_check : (s : Server) (m : Message) → FairServer s → is_plain m.command ≡ true → is_setup m.command ≡ false
    → m.fault ≡ None → has_session s m ≡ true → is_fair (check s m) ≡ true
fair_check s m f p n fault here =
    either (λ v. is_fair v ≡ true) (is_setup m.command || has_session s m) (owed s m m.fault)
    (Refuse user_session_deleted) (λ _. fair_owed s m m.fault f p n fault)
    (λ e. missing (is_setup m.command) (has_session s m) _ here e)
  where
    missing : (a b : Bool) (P : Type 0) → b ≡ true → (a || b) ≡ false → P
    missing a b P e h = absurd (grind arith)

-- ---- what any message makes the server keep

keeps_binding : (s : Server) (m : Message) (r : SetupRequest) → keeps_fair (binding_check s m r) ≡ true
keeps_binding s m r = grind arith

keeps_granted : (s : Server) (m : Message) (r : SetupRequest) (user : List ℕ) → keeps_fair (granted_session s m r user) ≡ true
keeps_granted s m r user = grind arith

keeps_second : (s : Server) (m : Message) (r : SetupRequest) (shows : Shows) → keeps_fair (second_token s m r shows) ≡ true
keeps_second s m r Begins = refl
keeps_second s m r Bad = refl
keeps_second s m r Refused = refl
keeps_second s m r (Logon user) = keeps_granted s m r user

keeps_first : (s : Server) (shows : Shows) → keeps_fair (first_token s shows) ≡ true
keeps_first s Begins = either (λ v. keeps_fair v ≡ true) (nat_le max_ids s.session_ids_given)
    (Refuse insufficient_resources) Challenge (λ _. refl) (λ _. refl)
keeps_first s Bad = refl
keeps_first s Refused = refl
keeps_first s (Logon user) = refl

keeps_session : (s : Server) (m : Message) (r : SetupRequest) → keeps_fair (session_check s m r) ≡ true
keeps_session s m r =
    let P : Verdict → Type 0 = λ v. keeps_fair v ≡ true in
    either P (m.session_id == 0) _ _ (λ _. either P (is_some (s.session_on m.connection)) _ _ (λ _. refl) (λ _. keeps_first s r.shows))
    (λ _. either P (s.present m.session_id) _ _ (λ _. refl) (λ _. either P (is_new m.session_id (s.making m.connection))
    _ _ (λ _. keeps_second s m r r.shows) (λ _. refl)))

keeps_setup : (s : Server) (m : Message) (r : SetupRequest) → keeps_fair (setup_check s m r) ≡ true
keeps_setup s m r = either (λ v. keeps_fair v ≡ true) r.binding (binding_check s m r) (session_check s m r)
    (λ _. keeps_binding s m r) (λ _. keeps_session s m r)

keeps_command : (s : Server) (m : Message) (c : Command) → FairServer s → m.command ≡ c → keeps_fair (command_check s m c) ≡ true
unfolding is_plain
keeps_command s m (Setup request) f e = keeps_setup s m request
keeps_command s m (Unreadable status) f e = refl
keeps_command s m (Aside status) f e = refl
keeps_command s m Logoff f e = refl
keeps_command s m (TreeConnect share) f e = kept_of_fair (tree_check s m share) (fair_connect s m share)
keeps_command s m TreeDisconnect f e = kept_of_fair (with_tree s m) (fair_with_tree s m f (ap is_plain e))
keeps_command s m (Create request) f e = kept_of_fair (with_tree s m) (fair_with_tree s m f (ap is_plain e))
keeps_command s m (Close o query) f e = kept_of_fair (with_tree s m) (fair_with_tree s m f (ap is_plain e))
keeps_command s m (Flush o) f e = kept_of_fair (with_tree s m) (fair_with_tree s m f (ap is_plain e))
keeps_command s m (Read o at size minimum channel) f e = kept_of_fair (with_tree s m) (fair_with_tree s m f (ap is_plain e))
keeps_command s m (Write o at bytes channel) f e = kept_of_fair (with_tree s m) (fair_with_tree s m f (ap is_plain e))
keeps_command s m (Lock o index number elements) f e = kept_of_fair (with_tree s m) (fair_with_tree s m f (ap is_plain e))
keeps_command s m (Ioctl o code room) f e = kept_of_fair (with_tree s m) (fair_with_tree s m f (ap is_plain e))
keeps_command s m (ListDirectory o class restart single pattern room) f e = kept_of_fair (with_tree s m)
    (fair_with_tree s m f (ap is_plain e))
keeps_command s m (QueryFile o class room) f e = kept_of_fair (with_tree s m) (fair_with_tree s m f (ap is_plain e))
keeps_command s m (QueryVolume o class room) f e = kept_of_fair (with_tree s m) (fair_with_tree s m f (ap is_plain e))
keeps_command s m (SetInfo o setting) f e = kept_of_fair (with_tree s m) (fair_with_tree s m f (ap is_plain e))

keeps_formed : (s : Server) (m : Message) (u : Option ℕ) → FairServer s → keeps_fair (formed s m u) ≡ true
keeps_formed s m (Some status) f = refl
keeps_formed s m None f = keeps_command s m m.command f refl

keeps_owed : (s : Server) (m : Message) (u : Option ℕ) → FairServer s → keeps_fair (owed s m u) ≡ true
keeps_owed s m (Some status) f = refl
keeps_owed s m None f = keeps_formed s m (form m.command) f

pub keeps_check : (s : Server) (m : Message) → FairServer s → keeps_fair (check s m) ≡ true
keeps_check s m f = either (λ v. keeps_fair v ≡ true) (is_setup m.command || has_session s m) (owed s m m.fault)
    (Refuse user_session_deleted) (λ _. keeps_owed s m m.fault f) (λ _. refl)

-- ---- where the records don't fit

pub fair_full : (v : Verdict) → is_fair v ≡ true → is_fair (without_room v) ≡ true
fair_full (Refuse status) e = e
fair_full (Give body) e = refl
fair_full (KeepRefusal guid status) e = e
fair_full (Repeat o r) e = refl
fair_full (Attach o r) e = refl
fair_full (Make r found action) e = fair_refused r.durable disk_full refl
fair_full (TurnDown o status) e = e
fair_full (Tell o body) e = refl
fair_full (Show o last body) e = refl
fair_full (KeepSlot o index number status elements) e = refl
fair_full (PutRanges o index number ranges elements) e = refl
fair_full (Alter o change body) e = refl
fair_full (CloseOpen o body) e = refl
fair_full Challenge e = refl
fair_full (ChallengeBinding session) e = refl
fair_full (Begin session user previous r is_quiet) e = refl
fair_full (Join session) e = refl
fair_full (EndSession session is_quiet) e = refl
fair_full (AddTree pipes) e = refl
fair_full DropTree e = refl

pub keeps_full : (v : Verdict) → keeps_fair v ≡ true → keeps_fair (without_room v) ≡ true
keeps_full (Refuse status) e = refl
keeps_full (Give body) e = refl
keeps_full (KeepRefusal guid status) e = e
keeps_full (Repeat o r) e = refl
keeps_full (Attach o r) e = refl
keeps_full (Make r found action) e = kept_of_fair (refused_create r disk_full) (fair_refused r.durable disk_full refl)
keeps_full (TurnDown o status) e = refl
keeps_full (Tell o body) e = refl
keeps_full (Show o last body) e = refl
keeps_full (KeepSlot o index number status elements) e = refl
keeps_full (PutRanges o index number ranges elements) e = refl
keeps_full (Alter o change body) e = refl
keeps_full (CloseOpen o body) e = refl
keeps_full Challenge e = refl
keeps_full (ChallengeBinding session) e = refl
keeps_full (Begin session user previous r is_quiet) e = refl
keeps_full (Join session) e = refl
keeps_full (EndSession session is_quiet) e = refl
keeps_full (AddTree pipes) e = refl
keeps_full DropTree e = refl
