-- A success of the server reads as what its operation is answered with.
use Rattle.std.proofs.Common.{◌≡◌, ℕ, ◌==◌, nat_le, nat_lt, Bool, true, false, not, ◌&&◌, ◌||◌, if◌then◌else◌, List, []}
use Rattle.std.proofs.Common.{◌∷◌, ◌+◌, length, refl, arith, sym, subst, ◌∙◌, ap, inl, inr, Option, Some, None, is_some}
use Rattle.spec_exchange.specs.Status.{success, access_denied, user_session_deleted, sharing_violation}
use Rattle.spec_exchange.specs.Status.{insufficient_resources, invalid_device_request, lock_not_granted}
use Rattle.spec_exchange.specs.Status.{range_not_locked, disk_full, file_not_available}
use Rattle.spec_exchange.specs.Commands.{Basic, Setting, SetBasic, Rename, SetDelete, SetEnd, CreateRequest, Durable}
use Rattle.spec_exchange.specs.Commands.{Reconnect, Element, deletes_on_close, form, path_form, is_setup, all_lock}
use Rattle.spec_exchange.specs.State.{Server, Message, Heard, Answer, Body, Empty, Created, CreateReply, Named, Range}
use Rattle.spec_exchange.specs.Files.{find, set_basic, is_directory}
use Rattle.spec_exchange.specs.Ranges.{RangeAnswer, Stands, Denied, change_ranges, lock_ranges, unlock_ranges}
use Rattle.spec_exchange.specs.Ranges.{stands_or, ranges_of, any_wraps, add_ranges, take_ranges, count_owned}
use Rattle.spec_exchange.specs.Ranges.{max_ranges}
use Rattle.spec_exchange.specs.Opens.{deletes, mapped}
use Rattle.spec_exchange.specs.CheckCreate.{keeps_guid, max_guids, is_counted_out, action_of, names}
use Rattle.spec_exchange.specs.CheckCreate.{shares, refused_by, refused_create, after_names}
use Rattle.spec_exchange.specs.CheckCreate.{new_check, live_check, refusal_check, guid_check, reconnect_check}
use Rattle.spec_exchange.specs.CheckCreate.{durable_check, reconnect_or_create, create_check}
use Rattle.spec_exchange.specs.CheckOpen.{file_of, has_access, is_slot, kept_lock, is_repeated, path_change}
use Rattle.spec_exchange.specs.CheckOpen.{rename_names, delete_names, write_check, read_check, turn_down_lock}
use Rattle.spec_exchange.specs.CheckOpen.{range_check, slot_check, named_change, unless_repeated, size_change}
use Rattle.spec_exchange.specs.CheckOpen.{setting_check, flush_check, file_query_check, listing_of, list_check, is_late}
use Rattle.spec_exchange.specs.CheckOpen.{basic_names}
use Rattle.spec_exchange.specs.CheckSetup.{tree_in}
use Rattle.spec_exchange.specs.Check.{check, owed, formed, command_check, with_tree, in_tree, tree_command, on_open, has_session}
use Rattle.spec_exchange.specs.Effects.{apply}
use Rattle.spec_exchange.specs.Verdict.{Verdict, Refuse, Give, KeepRefusal, Repeat, Attach, Make, TurnDown, Tell, Show}
use Rattle.spec_exchange.specs.Verdict.{KeepSlot, PutRanges, Alter, CloseOpen, Challenge, ChallengeBinding, Begin, Join}
use Rattle.spec_exchange.specs.Verdict.{EndSession, AddTree, DropTree, Change, PutDeletePending, PutBasic, PutEnd}
use Rattle.spec_exchange.specs.Step.{step, without_room, with_deadlines}
use Rattle.spec_exchange.specs.Operations.{Op, OpCreate, OpWrite, OpRead, OpEnd, OpTime, OpRename, OpRemove, OpLock}
use Rattle.spec_exchange.specs.Operations.{OpUnlock, OpFlush, OpStat, OpList, OpClose, value_in, request_of, is_create}
use Rattle.spec_exchange.specs.Operations.{create_request, durable_of}
use Rattle.spec_exchange.specs.Network.{answer_to}
use Rattle.law_server.proofs.tables.Doors.{by_verdict, Before, Finds}
use Rattle.law_server.proofs.tables.Logic.{either}
use Rattle.law_creates.specs.Creates.{Seen}
use Rattle.law_creates.proofs.Seeing.{expire_seen}
use Rattle.law_server.proofs.tables.Refusals.{names_say}

-- ---- words on verdicts

-- a status that tells of no success
abbrev pub refuses : ℕ → Bool
refuses status = not (status == success)

abbrev pub reads : Op → Body → Bool
reads op body = is_some (value_in op body)

-- a success of this verdict reads as the operation's
abbrev pub tells : Op → Verdict → Bool
tells op (Refuse status) = refuses status
tells op (Give body) = reads op body
tells op (KeepRefusal guid status) = refuses status
tells op (Repeat o r) = is_create op
tells op (Attach o r) = is_create op
tells op (Make r found action) = is_create op
tells op (TurnDown o status) = refuses status
tells op (Tell o body) = reads op body
tells op (Show o last body) = reads op body
tells op (KeepSlot o index number status elements) = refuses status
tells op (PutRanges o index number ranges elements) = reads op Empty
tells op (Alter o change body) = reads op body
tells op (CloseOpen o body) = reads op body
tells op _ = false

-- the refusals that the server keeps are such
abbrev pub KeepsRefusals : Server → Type 0
KeepsRefusals s = (x g status : ℕ) → s.refused x g ≡ Some status → refuses status ≡ true

-- ---- CREATE

abbrev Made : Op → Verdict → Type 0
Made op v = is_create op ≡ true → tells op v ≡ true

made_refused : (op : Op) (u : Option Durable) (status : ℕ) → refuses status ≡ true → tells op (refused_by u status) ≡ true
made_refused op None status e = e
made_refused op (Some d) status e = e

made_names : (s : Server) (r : CreateRequest) (found : Option ℕ) (status : ℕ) → names s r found ≡ Some status → refuses status ≡ true
made_names = names_say (λ n. refuses n ≡ true) (record {
  pending = refl;
  collision = refl;
  no_directory = refl;
  directory = refl;
  parameter = refl;
  denied = refl;
  undeletable = refl;
  no_name = refl;
  no_path = refl;
})

made_after : (op : Op) (s : Server) (r : CreateRequest) (found u : Option ℕ) → names s r found ≡ u → Made op (after_names s r found u)
made_after op s r found (Some status) e c = made_refused op r.durable status (made_names s r found status e)
made_after op s r found None e c =
    either (λ v. tells op v ≡ true) (shares s r found) (Make r found (action_of r found))
    (refused_create r sharing_violation) (λ _. c) (λ _. made_refused op r.durable sharing_violation refl)

made_new : (op : Op) (s : Server) (m : Message) (r : CreateRequest) (found : Option ℕ) → Made op (new_check s m r found)
made_new op s m r found c =
    let P : Verdict → Type 0 = λ v. tells op v ≡ true in
    either P (deletes_on_close r.options && not (deletes (mapped r.access))) _ _ (λ _. refl)
    (λ _. either P (keeps_guid r && nat_le max_guids (s.guids m.session_id)) _ _ (λ _. refl)
    (λ _. either P (is_counted_out s r found) _ _ (λ _. made_refused op r.durable insufficient_resources refl)
    (λ _. made_after op s r found (names s r found) refl c)))

made_live : (op : Op) (s : Server) (m : Message) (r : CreateRequest) (o : ℕ) → Made op (live_check s m r o)
made_live op s m r o c = grind arith

made_refusal : (op : Op) (s : Server) (m : Message) (r : CreateRequest) (g : ℕ) (u : Option ℕ) → KeepsRefusals s
    → s.refused m.session_id g ≡ u → Made op (refusal_check s m r u)
made_refusal op s m r g (Some status) f e c = f m.session_id g status e
made_refusal op s m r g None f e c = made_new op s m r (find s r.path) c

made_guid : (op : Op) (s : Server) (m : Message) (r : CreateRequest) (d : Durable) (u : Option ℕ) → KeepsRefusals s
    → Made op (guid_check s m r d u)
made_guid op s m r d (Some o) f c = made_live op s m r o c
made_guid op s m r d None f c =
    let P : Verdict → Type 0 = λ v. tells op v ≡ true in
    either P (s.closed m.session_id d.guid) _ _ (λ _. refl) (λ _. either P (s.expired_guids m.client_guid d.guid) _ _
    (λ _. refl) (λ _. made_refusal op s m r d.guid (s.refused m.session_id d.guid) f refl c))

made_durable : (op : Op) (s : Server) (m : Message) (r : CreateRequest) (u : Option Durable) → KeepsRefusals s
    → Made op (durable_check s m r u)
made_durable op s m r None f c = made_new op s m r (find s r.path) c
made_durable op s m r (Some d) f c = made_guid op s m r d (s.by_guid m.client_guid d.guid) f c

made_reconnect : (op : Op) (s : Server) (m : Message) (r : CreateRequest) (c : Reconnect) → Made op (reconnect_check s m r c)
made_reconnect op s m r c k = grind arith

made_or : (op : Op) (s : Server) (m : Message) (r : CreateRequest) (u : Option Reconnect) → KeepsRefusals s
    → Made op (reconnect_or_create s m r u)
made_or op s m r (Some c) f k = made_reconnect op s m r c k
made_or op s m r None f k = made_durable op s m r r.durable f k

made_create : (op : Op) (s : Server) (m : Message) (r : CreateRequest) (pipes : Bool) → KeepsRefusals s → Made op (create_check s m r pipes)
made_create op s m r true f c = refl
made_create op s m r false f c = made_or op s m r r.reconnect f c

-- ---- LOCK

lock_or : (status wanted : ℕ) (u : Option (List Range)) → refuses wanted ≡ true → stands_or wanted u ≡ Denied status → refuses status ≡ true
unfolding stands_or
lock_or status wanted None o e = grind arith
lock_or status wanted (Some rs) o e = absurd (cc)

locking : (rs : List Range) (o : ℕ) (ws : List Range) (status : ℕ) → lock_ranges rs o ws ≡ Denied status → refuses status ≡ true
unfolding lock_ranges
locking rs o ws status =
    let P : RangeAnswer → Type 0 = λ A. A ≡ Denied status → refuses status ≡ true in
    either P (nat_lt max_ranges (count_owned o rs + length ws)) _ _ (λ _ e. grind arith)
    (λ _. either P (any_wraps ws) _ _ (λ _ e. grind arith)
    (λ _ e. lock_or status lock_not_granted (add_ranges rs ws) refl e))

unlocking : (rs ws : List Range) (status : ℕ) → unlock_ranges rs ws ≡ Denied status → refuses status ≡ true
unfolding unlock_ranges
unlocking rs ws status =
    either (λ A. A ≡ Denied status → refuses status ≡ true) (any_wraps ws) _ _ (λ _ e. grind arith)
    (λ _ e. lock_or status range_not_locked (take_ranges (Some rs) ws) refl e)

changing : (rs : List Range) (o : ℕ) (es : List Element) (status : ℕ) → change_ranges rs o es ≡ Denied status → refuses status ≡ true
unfolding change_ranges
changing rs o es status = either (λ A. A ≡ Denied status → refuses status ≡ true) (all_lock es) _ _
    (λ _ e. locking rs o (ranges_of o es) status e) (λ _ e. unlocking rs (ranges_of o es) status e)

lock_turned : (op : Op) (o index number : ℕ) (elements : List Element) (status : ℕ) → refuses status ≡ true
    → tells op (turn_down_lock o index number elements status) ≡ true
lock_turned op o index number elements status e = either (λ v. tells op v ≡ true) (is_slot index)
    (KeepSlot o index number status elements) (TurnDown o status) (λ _. e) (λ _. e)

lock_range : (op : Op) (s : Server) (o index number : ℕ) (elements : List Element) (A : RangeAnswer) → reads op Empty
    ≡ true → change_ranges (s.ranges (file_of s o)) o elements ≡ A → tells op (range_check o index number elements A)
    ≡ true
lock_range op s o index number elements (Denied status) k e = lock_turned op o index number elements status
    (changing (s.ranges (file_of s o)) o elements status e)
lock_range op s o index number elements (Stands ranges) k e = k

lock_slot : (op : Op) (s : Server) (o index number : ℕ) (elements : List Element) (u : Option ℕ) → reads op Empty ≡ true
    → tells op (slot_check s o index number elements u) ≡ true
lock_slot op s o index number elements None k =
    either (λ v. tells op v ≡ true) (is_directory s (file_of s o)) _ _ (λ _. lock_turned op o index number elements
    invalid_device_request refl)
    (λ _. lock_range op s o index number elements (change_ranges (s.ranges (file_of s o)) o elements) k refl)
lock_slot op s o index number elements (Some status) k = either (λ v. tells op v ≡ true) (status == success)
    (Give Empty) (Refuse status) (λ _. k) (λ e. ap not e)

-- ---- the others that name an open

rename_refuses : (s : Server) (f : ℕ) (replace : Bool) (path : List ℕ) (status : ℕ) → rename_names s f replace path
    ≡ Some status → refuses status ≡ true
unfolding rename_names
rename_refuses s f replace path status e = grind arith

delete_refuses : (s : Server) (f : ℕ) (flag : Bool) (status : ℕ) → delete_names s f flag ≡ Some status → refuses status ≡ true
unfolding delete_names
delete_refuses s f flag status e = grind arith

basic_refuses : (s : Server) (f : ℕ) (b : Basic) (status : ℕ) → basic_names s f b ≡ Some status → refuses status ≡ true
unfolding basic_names
basic_refuses s f b status e = grind arith

named_tells : (op : Op) (o : ℕ) (change : Change) (u : Option ℕ) → reads op Empty ≡ true
    → ((status : ℕ) → u ≡ Some status → refuses status ≡ true) → tells op (named_change o change u) ≡ true
named_tells op o change (Some status) k f = f status refl
named_tells op o change None k f = k

unless_tells : (op : Op) (s : Server) (m : Message) (o : ℕ) (change : Change) (v : Verdict) → reads op Empty ≡ true
    → tells op v ≡ true → tells op (unless_repeated s m o change v) ≡ true
unless_tells op s m o change v k e = either (λ u. tells op u ≡ true) (is_repeated s m o change) (Tell o Empty) v (λ _. k) (λ _. e)

listing_tells : (o : ℕ) (create class : ℕ) (last : Option (List ℕ)) (all fit : List Named)
    → tells (OpList create) (listing_of o class last all fit) ≡ true
unfolding listing_of
listing_tells o create class None [] fit = refl
listing_tells o create class (Some last) [] fit = refl
listing_tells o create class last (n ∷ ns) [] = refl
listing_tells o create class last (n ∷ ns) (k ∷ ks) = refl

-- one of an open, where the open is attached in the session
open_tells : (op : Op) (s : Server) (m : Message) (o : ℕ) (v : Verdict) → tells op v ≡ true → tells op (on_open s m o v) ≡ true
open_tells op s m o v e = grind arith

write_tells : (create at : ℕ) (bytes : List ℕ) (s : Server) (m : Message) (o : ℕ) → tells (OpWrite create at bytes)
    (write_check s m o at bytes) ≡ true
write_tells create at bytes s m o = grind arith

read_tells : (create at size : ℕ) (s : Server) (o : ℕ) → tells (OpRead create at size) (read_check s o at size 0) ≡ true
read_tells create at size s o = grind arith

size_tells : (op : Op) (s : Server) (m : Message) (o size : ℕ) (change : Change) → reads op Empty ≡ true
    → tells op (size_change s m o size change) ≡ true
size_tells op s m o size change k = grind arith

setting_tells : (op : Op) (s : Server) (m : Message) (o : ℕ) (setting : Setting) → reads op Empty ≡ true → (v : Verdict)
    → tells op v ≡ true → tells op (if is_late s m o then Refuse file_not_available else v) ≡ true
setting_tells op s m o setting k v e = grind arith

-- ---- by operation, behind check 4

command_tells : (op : Op) (guid file slot number : ℕ) (s : Server) (m : Message) (pipes : Bool) → KeepsRefusals s
    → tells op (tree_command s m pipes (request_of op guid file slot number)) ≡ true
command_tells (OpCreate path access share disposition persist directory) guid file slot number s m pipes f =
    made_create (OpCreate path access share disposition persist directory) s m
    (create_request path access share disposition directory (Some (durable_of guid persist)) None) pipes f refl
command_tells (OpWrite create at bytes) guid file slot number s m pipes f = open_tells (OpWrite create at bytes) s m
    file _ (write_tells create at bytes s m file)
command_tells (OpRead create at size) guid file slot number s m pipes f = open_tells (OpRead create at size) s m file _
    (read_tells create at size s file)
command_tells (OpEnd create size) guid file slot number s m pipes f =
    open_tells (OpEnd create size) s m file _ (setting_tells (OpEnd create size) s m file (SetEnd size) refl _
    (size_tells (OpEnd create size) s m file size (PutEnd size) refl))
command_tells (OpTime create time) guid file slot number s m pipes f = open_tells (OpTime create time) s m file _
    (setting_tells (OpTime create time) s m file (SetEnd 0) refl _ (time_tells s m file _))
  where
    time_tells : (s : Server) (m : Message) (o : ℕ) (b : Basic) → tells (OpTime create time) (setting_check s m o (SetBasic b)) ≡ true
    time_tells s m o b =
        let change : Change = PutBasic (set_basic (s.basic (file_of s o)) b) in let u = basic_names s (file_of s o) b in
        either (λ v. tells (OpTime create time) v ≡ true) (has_access s o 0x100)
        (unless_repeated s m o change (named_change o change u)) (TurnDown o access_denied)
        (λ _. unless_tells (OpTime create time) s m o change (named_change o change u) refl
        (named_tells (OpTime create time) o change u refl (basic_refuses s (file_of s o) b)))
        (λ _. refl)
command_tells (OpRename create path) guid file slot number s m pipes f = open_tells (OpRename create path) s m file _
    (setting_tells (OpRename create path) s m file (SetEnd 0) refl _ (rename_tells s m file))
  where
    rename_tells : (s : Server) (m : Message) (o : ℕ) → tells (OpRename create path) (setting_check s m o (Rename false path)) ≡ true
    rename_tells s m o =
        let change = path_change s o path in let u = rename_names s (file_of s o) false path in
        either (λ v. tells (OpRename create path) v ≡ true) (has_access s o 0x1_0000)
        (unless_repeated s m o change (named_change o change u)) (TurnDown o access_denied)
        (λ _. unless_tells (OpRename create path) s m o change (named_change o change u) refl
        (named_tells (OpRename create path) o change u refl (rename_refuses s (file_of s o) false path)))
        (λ _. refl)
command_tells (OpRemove create) guid file slot number s m pipes f = open_tells (OpRemove create) s m file _
    (setting_tells (OpRemove create) s m file (SetEnd 0) refl _ (remove_tells s m file))
  where
    remove_tells : (s : Server) (m : Message) (o : ℕ) → tells (OpRemove create) (setting_check s m o (SetDelete true)) ≡ true
    remove_tells s m o =
        let u = delete_names s (file_of s o) true in
        either (λ v. tells (OpRemove create) v ≡ true) (has_access s o 0x1_0000)
        (unless_repeated s m o (PutDeletePending true) (named_change o (PutDeletePending true) u))
        (TurnDown o access_denied)
        (λ _. unless_tells (OpRemove create) s m o (PutDeletePending true) (named_change o (PutDeletePending true) u)
        refl (named_tells (OpRemove create) o (PutDeletePending true) u refl (delete_refuses s (file_of s o) true)))
        (λ _. refl)
command_tells (OpLock create at n exclusive) guid file slot number s m pipes f =
    open_tells (OpLock create at n exclusive) s m file _ (lock_slot (OpLock create at n exclusive) s file slot number _
    (kept_lock s file slot number) refl)
command_tells (OpUnlock create at n) guid file slot number s m pipes f = open_tells (OpUnlock create at n) s m file _
    (lock_slot (OpUnlock create at n) s file slot number _ (kept_lock s file slot number) refl)
command_tells (OpFlush create) guid file slot number s m pipes f = open_tells (OpFlush create) s m file _ (flush_tells s file)
  where
    flush_tells : (s : Server) (o : ℕ) → tells (OpFlush create) (flush_check s o) ≡ true
    flush_tells s o = grind arith
command_tells (OpStat create) guid file slot number s m pipes f = open_tells (OpStat create) s m file _ (stat_tells s file)
  where
    stat_tells : (s : Server) (o : ℕ) → tells (OpStat create) (file_query_check s o 5 24) ≡ true
    stat_tells s o = grind arith
command_tells (OpList create) guid file slot number s m pipes f = open_tells (OpList create) s m file _ (list_tells s file)
  where
    list_tells : (s : Server) (o : ℕ) → tells (OpList create) (list_check s o 12 true false (42 ∷ []) 1048576) ≡ true
    list_tells s o =
        let P : Verdict → Type 0 = λ v. tells (OpList create) v ≡ true in
        either P (not (has_access s o 0x1)) _ _ (λ _. refl) (λ _. either P (not (is_directory s (file_of s o))) _ _
        (λ _. refl) (λ _. listing_tells o create 12 _ _ _))
command_tells (OpClose create) guid file slot number s m pipes f = open_tells (OpClose create) s m file _ refl

-- ---- the whole of the checks

path_refuses : (path : List ℕ) (status : ℕ) → path_form path ≡ Some status → refuses status ≡ true
unfolding path_form
path_refuses path status e = grind arith

form_refuses : (op : Op) (guid file slot number status : ℕ) → form (request_of op guid file slot number) ≡ Some status
    → refuses status ≡ true
form_refuses (OpCreate path access share disposition persist directory) guid file slot number status e = grind (arith, path_refuses)
form_refuses (OpWrite create at bytes) guid file slot number status e = grind arith
form_refuses (OpRead create at size) guid file slot number status e = grind arith
form_refuses (OpRename create path) guid file slot number status e = path_refuses path status e
form_refuses (OpLock create at n exclusive) guid file slot number status e = grind arith
form_refuses (OpUnlock create at n) guid file slot number status e = grind arith
form_refuses (OpStat create) guid file slot number status e = grind arith
form_refuses (OpList create) guid file slot number status e = grind arith
form_refuses (OpEnd create size) guid file slot number status e = absurd (cc)
form_refuses (OpTime create time) guid file slot number status e = absurd (cc)
form_refuses (OpRemove create) guid file slot number status e = absurd (cc)
form_refuses (OpFlush create) guid file slot number status e = absurd (cc)
form_refuses (OpClose create) guid file slot number status e = absurd (cc)

tree_tells : (op : Op) (guid file slot number : ℕ) (s : Server) (m : Message) → KeepsRefusals s → m.command
    ≡ request_of op guid file slot number → (u : Option Bool) → tells op (in_tree s m u) ≡ true
tree_tells op guid file slot number s m f e None = refl
tree_tells op guid file slot number s m f e (Some pipes) = subst (λ c. tells op (tree_command s m pipes c) ≡ true)
    (sym e) (command_tells op guid file slot number s m pipes f)

-- an operation's request needs a tree
needs_tree : (op : Op) (guid file slot number : ℕ) (s : Server) (m : Message)
    → command_check s m (request_of op guid file slot number) ≡ with_tree s m
needs_tree (OpCreate path access share disposition persist directory) guid file slot number s m = refl
needs_tree (OpWrite create at bytes) guid file slot number s m = refl
needs_tree (OpRead create at size) guid file slot number s m = refl
needs_tree (OpEnd create size) guid file slot number s m = refl
needs_tree (OpTime create time) guid file slot number s m = refl
needs_tree (OpRename create path) guid file slot number s m = refl
needs_tree (OpRemove create) guid file slot number s m = refl
needs_tree (OpLock create at n exclusive) guid file slot number s m = refl
needs_tree (OpUnlock create at n) guid file slot number s m = refl
needs_tree (OpFlush create) guid file slot number s m = refl
needs_tree (OpStat create) guid file slot number s m = refl
needs_tree (OpList create) guid file slot number s m = refl
needs_tree (OpClose create) guid file slot number s m = refl

form_tells : (op : Op) (guid file slot number : ℕ) (s : Server) (m : Message) → KeepsRefusals s → m.command
    ≡ request_of op guid file slot number → (u : Option ℕ) → form m.command ≡ u → tells op (formed s m u) ≡ true
form_tells op guid file slot number s m f e (Some status) q = form_refuses op guid file slot number status (ap form (sym e) ∙ q)
form_tells op guid file slot number s m f e None q =
    subst (λ c. tells op (command_check s m c) ≡ true) (sym e)
    (subst (λ v. tells op v ≡ true) (sym (needs_tree op guid file slot number s m))
    (tree_tells op guid file slot number s m f e (tree_in (s.trees m.session_id) m.tree_id)))

check_tells : (op : Op) (guid file slot number : ℕ) (s : Server) (m : Message) → KeepsRefusals s → m.command
    ≡ request_of op guid file slot number → m.fault ≡ None → tells op (check s m) ≡ true
check_tells op guid file slot number s m f e fault =
    either (λ v. tells op v ≡ true) (is_setup m.command || has_session s m) (owed s m m.fault) (Refuse user_session_deleted)
    (λ _. subst (λ u. tells op (owed s m u) ≡ true) (sym fault) (form_tells op guid file slot number s m f e
    (form m.command) refl)) (λ _. refl)

full_tells : (op : Op) (v : Verdict) → tells op v ≡ true → tells op (without_room v) ≡ true
full_tells op (Refuse status) e = e
full_tells op (Give body) e = e
full_tells op (KeepRefusal guid status) e = e
full_tells op (Repeat o r) e = e
full_tells op (Attach o r) e = e
full_tells op (Make r found action) e = made_refused op r.durable disk_full refl
full_tells op (TurnDown o status) e = e
full_tells op (Tell o body) e = e
full_tells op (Show o last body) e = e
full_tells op (KeepSlot o index number status elements) e = refl
full_tells op (PutRanges o index number ranges elements) e = refl
full_tells op (Alter o change body) e = refl
full_tells op (CloseOpen o body) e = refl
full_tells op Challenge e = e
full_tells op (ChallengeBinding session) e = e
full_tells op (Begin session user previous r is_quiet) e = e
full_tells op (Join session) e = e
full_tells op (EndSession session is_quiet) e = e
full_tells op (AddTree pipes) e = e
full_tells op DropTree e = refl

-- ---- by answer

no_success : (status : ℕ) (P : Type 0) → refuses status ≡ true → status ≡ success → P
no_success status P e f = absurd (grind arith)

created_reads : (op : Op) (reply : CreateReply) → is_create op ≡ true → reads op (Created reply) ≡ true
created_reads op reply e = grind arith

abbrev ReadsAs : Op → Answer → Type 0
ReadsAs op A = A.reply.status ≡ success → reads op A.reply.body ≡ true

answer_reads : (op : Op) (s : Server) (m : Message) (now : ℕ) (v : Verdict) → tells op v ≡ true → ReadsAs op (apply s m now v)
answer_reads op s m now (Refuse status) e q = no_success status _ e q
answer_reads op s m now (Give body) e q = e
answer_reads op s m now (KeepRefusal guid status) e q = no_success status _ e q
answer_reads op s m now (Repeat o r) e q = created_reads op _ e
answer_reads op s m now (Attach o r) e q = created_reads op _ e
answer_reads op s m now (Make r found action) e q = created_reads op _ e
answer_reads op s m now (TurnDown o status) e q = no_success status _ e q
answer_reads op s m now (Tell o body) e q = e
answer_reads op s m now (Show o last body) e q = e
answer_reads op s m now (KeepSlot o index number status elements) e q = no_success status _ e q
answer_reads op s m now (PutRanges o index number ranges elements) e q = e
answer_reads op s m now (Alter o change body) e q = e
answer_reads op s m now (CloseOpen o body) e q = e
answer_reads op s m now Challenge e q = absurd (cc)
answer_reads op s m now (ChallengeBinding session) e q = absurd (cc)
answer_reads op s m now (Begin session user previous r is_quiet) e q = absurd (cc)
answer_reads op s m now (Join session) e q = absurd (cc)
answer_reads op s m now (EndSession session is_quiet) e q = absurd (cc)
answer_reads op s m now (AddTree pipes) e q = absurd (cc)
answer_reads op s m now DropTree e q = absurd (cc)

-- what is kept stands behind an expiry
kept_before : (s : Server) (now : ℕ) (t : Server) → Before s now t → KeepsRefusals s → KeepsRefusals t
kept_before s now t (inl e) f = subst KeepsRefusals (sym e) f
kept_before s now t (inr (o, d, e)) f = subst KeepsRefusals (sym e) (λ x g status q.
    f x g status (ap (λ (v : Seen). v.refused x g) (sym (expire_seen (with_deadlines s now) o)) ∙ q))

found_tells : (op : Op) (t : Server) (m : Message) (v : Verdict) → tells op (check t m) ≡ true → Finds t m v → tells op v ≡ true
found_tells op t m v h (inl e) = subst (λ u. tells op u ≡ true) (sym e) h
found_tells op t m v h (inr e) = subst (λ u. tells op u ≡ true) (sym e) (full_tells op (check t m) h)

step_reads : (op : Op) (guid file slot number : ℕ) (s : Server) (now : ℕ) (m : Message) → KeepsRefusals s → m.command
    ≡ request_of op guid file slot number → m.fault ≡ None → ReadsAs op (step s now (Heard m))
step_reads op guid file slot number s now m f e fault =
    by_verdict (ReadsAs op) s now m
    (λ t v records b h. answer_reads op t m now v
    (found_tells op t m v (check_tells op guid file slot number t m (kept_before s now t b f) e fault) h))

-- an operation's request is a step
own_step : (op : Op) (guid file slot number : ℕ) (s : Server) (now : ℕ) (m : Message)
    → answer_to s now m (request_of op guid file slot number) ≡ step s now (Heard m)
own_step (OpCreate path access share disposition persist directory) guid file slot number s now m = refl
own_step (OpWrite create at bytes) guid file slot number s now m = refl
own_step (OpRead create at size) guid file slot number s now m = refl
own_step (OpEnd create size) guid file slot number s now m = refl
own_step (OpTime create time) guid file slot number s now m = refl
own_step (OpRename create path) guid file slot number s now m = refl
own_step (OpRemove create) guid file slot number s now m = refl
own_step (OpLock create at n exclusive) guid file slot number s now m = refl
own_step (OpUnlock create at n) guid file slot number s now m = refl
own_step (OpFlush create) guid file slot number s now m = refl
own_step (OpStat create) guid file slot number s now m = refl
own_step (OpList create) guid file slot number s now m = refl
own_step (OpClose create) guid file slot number s now m = refl

pub own_reads : (op : Op) (guid file slot number : ℕ) (s : Server) (now : ℕ) (m : Message) → KeepsRefusals s → m.command
    ≡ request_of op guid file slot number → m.fault ≡ None → ReadsAs op (answer_to s now m m.command)
own_reads op guid file slot number s now m f e fault =
    subst (λ c. ReadsAs op (answer_to s now m c)) (sym e)
    (subst (ReadsAs op) (sym (own_step op guid file slot number s now m)) (step_reads op guid file slot number s now
    m f e fault))
