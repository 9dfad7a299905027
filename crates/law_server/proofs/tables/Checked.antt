-- Each layer of the checks gives its facts with its verdict.
use Rattle.std.proofs.Common.{◌≡◌, ◌⊎◌, inl, inr, ℕ, ◌+◌, ◌==◌, ◌≤◌, ◌<◌, nat_le, nat_lt, Bool, true, false, not, ◌&&◌}
use Rattle.std.proofs.Common.{◌||◌, if◌then◌else◌, List, [], ◌∷◌, length, refl, arith, sym, subst, ◌∙◌, ap, eqb-true}
use Rattle.std.proofs.Common.{Option, Some, None, is_some}
use Rattle.std.proofs.lemmas.Bool.Decides.{nat_tests}
use Rattle.spec_exchange.specs.Table.{is_at}
use Rattle.spec_exchange.specs.Status.{success, sharing_violation, insufficient_resources, invalid_device_request}
use Rattle.spec_exchange.specs.Status.{lock_not_granted, range_not_locked, disk_full}
use Rattle.spec_exchange.specs.Status.{object_name_not_found}
use Rattle.spec_exchange.specs.Texts.{is_path, is_below, same_name}
use Rattle.spec_exchange.specs.Content.{is_empty}
use Rattle.spec_exchange.specs.Commands.{Command, Unreadable, Aside, Setup, Logoff, TreeConnect, TreeDisconnect, Create}
use Rattle.spec_exchange.specs.Commands.{Close, Flush, Read, Write, Lock, Ioctl, ListDirectory, QueryFile, QueryVolume}
use Rattle.spec_exchange.specs.Commands.{SetInfo, Setting, SetBasic, Rename, SetDelete, SetAllocation, SetEnd}
use Rattle.spec_exchange.specs.Commands.{SetPosition, SetMode}
use Rattle.spec_exchange.specs.Commands.{CreateRequest, Durable, Reconnect, SetupRequest, Shows, Begins, Bad, Refused}
use Rattle.spec_exchange.specs.Commands.{Logon, Element, deletes_on_close, form, path_form, lock_form, all_lock}
use Rattle.spec_exchange.specs.Commands.{all_unlock, is_setup, no_file}
use Rattle.spec_exchange.specs.State.{Server, Message, Making, NewSession, Binding, Range, Body, Empty, Count, Named}
use Rattle.spec_exchange.specs.Files.{root, find, find_in, path_of, exists, exists_in, is_directory, has_parent, has_pending_parent, passes_room, allocated}
use Rattle.spec_exchange.specs.Ranges.{RangeAnswer, Stands, Denied, change_ranges, lock_ranges, unlock_ranges}
use Rattle.spec_exchange.specs.Ranges.{stands_or, may_write, ranges_of, any_wraps, add_ranges, take_ranges, count_owned}
use Rattle.spec_exchange.specs.Ranges.{max_ranges}
use Rattle.spec_exchange.specs.Opens.{deletes, mapped, max_ids, is_of_session, is_of_tree}
use Rattle.spec_exchange.specs.CheckCreate.{keeps_guid, max_guids, max_opens, max_files, last_file, is_counted_out}
use Rattle.spec_exchange.specs.CheckCreate.{action_of, names, names_of_found, found_names, missing_names, shares}
use Rattle.spec_exchange.specs.CheckCreate.{first_refusal, found_attributes, missing_attributes}
use Rattle.spec_exchange.specs.CheckCreate.{makes_missing, has_guid, refused_by, refused_create, after_names, new_check}
use Rattle.spec_exchange.specs.CheckCreate.{live_check, refusal_check, guid_check, reconnect_check, durable_check}
use Rattle.spec_exchange.specs.CheckCreate.{reconnect_or_create, create_check}
use Rattle.spec_exchange.specs.CheckOpen.{is_late, file_of, has_access, is_slot, kept_status, kept_lock, bytes_change}
use Rattle.spec_exchange.specs.CheckOpen.{allocation_change, target_of, target_refused, rename_names, delete_names}
use Rattle.spec_exchange.specs.CheckOpen.{open_below, write_check, read_check, there, turn_down_lock, range_check}
use Rattle.spec_exchange.specs.CheckOpen.{new_lock_check, slot_check, lock_check, named_change, size_change}
use Rattle.spec_exchange.specs.CheckOpen.{setting_check, set_check, flush_check, file_query_check, volume_query_check}
use Rattle.spec_exchange.specs.CheckOpen.{listing_of, list_check, get_object_id, ioctl_check, ioctl_status, free_ioctl_check}
use Rattle.spec_exchange.specs.CheckOpen.{needs_attributes, begins_at, is_repeated, unless_repeated, basic_names}
use Rattle.spec_exchange.specs.CheckSetup.{tree_in, is_new, is_binding, granted_session, second_token, first_token}
use Rattle.spec_exchange.specs.CheckSetup.{session_check, granted_binding, second_binding, first_binding, binding_check}
use Rattle.spec_exchange.specs.CheckSetup.{setup_check, tree_check, max_sessions, max_channels, max_numbers, pipes_name}
use Rattle.spec_exchange.specs.CheckSetup.{count_channels, no_tree_left}
use Rattle.spec_exchange.specs.Check.{check, owed, formed, command_check, with_tree, in_tree, tree_command, on_open, has_session}
use Rattle.spec_exchange.specs.Listing.{wanted, fitting, one_or_all, all_named, file_info_size, volume_info_size}
use Rattle.spec_exchange.specs.Verdict.{Verdict, Refuse, Give, KeepRefusal, Repeat, Attach, Make, TurnDown, Tell, Show}
use Rattle.spec_exchange.specs.Verdict.{KeepSlot, PutRanges, Alter, CloseOpen, Challenge, ChallengeBinding, Begin, Join}
use Rattle.spec_exchange.specs.Verdict.{EndSession, AddTree, DropTree, Change, PutEnd, PutDeletePending}
use Rattle.spec_exchange.specs.Step.{without_room}
use Rattle.law_server.proofs.tables.Logic.{either, front_of, back_of, front_off, back_off, other_on, not_false, none_of, at_of}
use Rattle.law_server.proofs.tables.Found.{SessionFacts, TreeFacts, OpenFacts, CreateFacts, NewFacts, KeepFacts, ThereFacts}
use Rattle.law_server.proofs.tables.Found.{MissingFacts, MakeFacts, RepeatFacts, AttachFacts, LockFacts, SlotFacts}
use Rattle.law_server.proofs.tables.Found.{RangesFacts, setting_change, WriteFacts, SizeFacts, PathFacts, SettingSays}
use Rattle.law_server.proofs.tables.Found.{SettingFacts, AlterFacts, ShutFacts, BindingFacts, BeginFacts, Facts}
use Rattle.law_server.proofs.tables.Refusals.{names_say, first_none}

-- ---- CREATE: the names

found_in : (es : List Rattle.spec_exchange.specs.State.Entry) (path : List ℕ) (f : ℕ) → find_in es path ≡ Some f → exists_in es f ≡ true
unfolding find_in exists_in
found_in [] path f e = absurd (cc)
found_in (x ∷ es) path f e = elim (same_name x.path path) as (λ b. same_name x.path path ≡ b → exists_in (x ∷ es) f ≡ true) [
  | true ↦ λ h. grind arith
  | false ↦ λ h. let old = found_in es path f in grind arith
] refl

pub found_exists : (s : Server) (path : List ℕ) (f : ℕ) → find s path ≡ Some f → exists s f ≡ true
unfolding find exists
found_exists s [] f e = grind arith
found_exists s (c ∷ cs) f e = let h = found_in s.entries (c ∷ cs) f e in grind arith

-- a broken rule of the names is no success
pub names_refuse : (s : Server) (r : CreateRequest) (found : Option ℕ) (status : ℕ) → names s r found ≡ Some status
    → (status == success) ≡ false
names_refuse = names_say (λ n. (n == success) ≡ false) (record {
  pending = refl;
  collision = refl;
  no_directory = refl;
  directory = refl;
  parameter = refl;
  denied = refl;
  undeletable = refl;
  no_name = refl;
  no_path = refl;
})

there_facts : (s : Server) (r : CreateRequest) (f : ℕ) → find s r.path ≡ Some f → found_names s r f ≡ None → ThereFacts s r f
unfolding found_names
there_facts s r f is e = record {
  there = found_exists s r.path f is;
  not_pending = grind arith;
  emptied = grind arith;
  no_root = grind arith;
}

-- where no rule of the names is broken, neither is one of what is there or missing, whose directory is there
names_pass : (s : Server) (r : CreateRequest) (found : Option ℕ) → names s r found ≡ None
    → (is_some found || has_parent s r.path) ≡ true × names_of_found s r found ≡ None
unfolding names
names_pass s r found =
    let R = λ (u : Option ℕ). u ≡ None → (is_some found || has_parent s r.path) ≡ true × names_of_found s r found ≡ None in
    either R (not (is_some found || has_parent s r.path)) _ _ (λ _ e. absurd (cc))
    (λ p. either R (has_pending_parent s r.path) _ _ (λ _ e. absurd (cc)) (λ _ e. (not_false _ p, e)))

names_of_there : (s : Server) (r : CreateRequest) (f : ℕ) → names s r (Some f) ≡ None → found_names s r f ≡ None
unfolding names_of_found
names_of_there s r f e = first_none (found_names s r f) (found_attributes s r f) (names_pass s r (Some f) e).1

names_of_missing : (s : Server) (r : CreateRequest) → names s r None ≡ None → makes_missing r.disposition ≡ true
    × has_parent s r.path ≡ true
unfolding names_of_found missing_names
names_of_missing s r e =
    let p = names_pass s r None e in
    (made (makes_missing r.disposition) (first_none (missing_names r) (missing_attributes r) p.1), p.0)
  where
    made : (b : Bool) → (if b then None else Some object_name_not_found) ≡ None → b ≡ true
    made true k = refl
    made false k = absurd (cc)

opens_left : (s : Server) (r : CreateRequest) (found : Option ℕ) → is_counted_out s r found ≡ false → length s.opens < max_opens
unfolding is_counted_out
opens_left s r found e = grind (arith, nat_tests)

ids_left : (s : Server) (r : CreateRequest) (found : Option ℕ) → is_counted_out s r found ≡ false → s.open_ids_given < max_ids
unfolding is_counted_out
ids_left s r found e = grind (arith, nat_tests)

files_left : (s : Server) (r : CreateRequest) → is_counted_out s r None ≡ false → makes_missing r.disposition ≡ true
    → length s.entries < max_files × s.next_file ≤ last_file
unfolding is_counted_out
files_left s r e h = (grind (arith, nat_tests), grind (arith, nat_tests))

path_formed : (path : List ℕ) → path_form path ≡ None → is_path path ≡ true
unfolding path_form
path_formed path e = grind arith

create_path : (m : Message) (r : CreateRequest) → m.command ≡ Create r → r.reconnect ≡ None → form m.command ≡ None
    → path_form r.path ≡ None
create_path m r is new e = let h : form (Create r) ≡ None = subst (λ c. form c ≡ None) is e in grind arith

create_disposition : (m : Message) (r : CreateRequest) → m.command ≡ Create r → r.reconnect ≡ None → form m.command ≡ None
    → r.disposition ≤ 5
create_disposition m r is new e = let h : form (Create r) ≡ None = subst (λ c. form c ≡ None) is e in grind (arith, nat_tests)

missing_facts : (s : Server) (r : CreateRequest) → is_counted_out s r None ≡ false → names s r None ≡ None → MissingFacts s r
missing_facts s r k e =
    let n = names_of_missing s r e in let f = files_left s r k n.0 in record { makes = n.0; parent = n.1; files = f.0; number = f.1 }

-- ---- CREATE: a new one

-- of a refusal what is kept by the request's guid
turned : (s : Server) (m : Message) (r : CreateRequest) (pipes : Bool) (status : ℕ) → NewFacts s m r pipes
    → (status == success) ≡ false → (u : Option Durable) → r.durable ≡ u → Facts s m (refused_by u status)
turned s m r pipes status n bad None e = tt
turned s m r pipes status n bad (Some d) e = record {
  request = r;
  durable = d;
  pipes = pipes;
  new = n;
  kept = e;
  guid_is = refl;
  refused = bad;
}

turned_down : (s : Server) (m : Message) (r : CreateRequest) (pipes : Bool) (status : ℕ) → NewFacts s m r pipes
    → (status == success) ≡ false → Facts s m (refused_create r status)
turned_down s m r pipes status n bad = turned s m r pipes status n bad r.durable refl

make_facts : (s : Server) (m : Message) (r : CreateRequest) (found : Option ℕ) → NewFacts s m r false → found
    ≡ find s r.path → is_counted_out s r found ≡ false → names s r found ≡ None → shares s r found ≡ true
    → MakeFacts s m r found (action_of r found)
make_facts s m r found n is k e h =
    record {
      new = n;
      found_is = is;
      action_is = refl;
      shared = h;
      path = path_formed r.path (create_path m r n.create.command n.new n.create.session.formed);
      disposition = create_disposition m r n.create.command n.new n.create.session.formed;
      opens = opens_left s r found k;
      given = ids_left s r found k;
      there = λ f t. there_facts s r f (sym is ∙ t) (names_of_there s r f (subst (λ u. names s r u ≡ None) t e));
      missing = λ t. missing_facts s r (subst (λ u. is_counted_out s r u ≡ false) t k) (subst (λ u. names s r u ≡ None) t e);
    }

names_facts : (s : Server) (m : Message) (r : CreateRequest) (found : Option ℕ) → NewFacts s m r false → found
    ≡ find s r.path → is_counted_out s r found ≡ false
    → (u : Option ℕ) → names s r found ≡ u → Facts s m (after_names s r found u)
names_facts s m r found n is k (Some status) e = turned_down s m r false status n (names_refuse s r found status e)
names_facts s m r found n is k None e =
    either (λ v. Facts s m v) (shares s r found) _ _
    (λ h. make_facts s m r found n is k e h)
    (λ h. turned_down s m r false sharing_violation n refl)

-- a guid that names nothing
pub record FreeGuid (s : Server) (m : Message) (r : CreateRequest) : Type 0 where
  pub no_open : (d : Durable) → r.durable ≡ Some d → s.by_guid m.client_guid d.guid ≡ None
  pub no_closed : (d : Durable) → r.durable ≡ Some d → s.closed m.session_id d.guid ≡ false
  pub not_expired : (d : Durable) → r.durable ≡ Some d → s.expired_guids m.client_guid d.guid ≡ false
  pub no_refusal : (d : Durable) → r.durable ≡ Some d → s.refused m.session_id d.guid ≡ None

new_facts : (s : Server) (m : Message) (r : CreateRequest) (found : Option ℕ) → CreateFacts s m r false → r.reconnect
    ≡ None → FreeGuid s m r → found ≡ find s r.path
    → Facts s m (new_check s m r found)
new_facts s m r found c new free is =
    either (λ v. Facts s m v) (deletes_on_close r.options && not (deletes (mapped r.access))) _ _ (λ _. tt)
    (λ d. either (λ v. Facts s m v) (keeps_guid r && nat_le max_guids (s.guids m.session_id)) _ _ (λ _. tt)
    (λ g. let n : NewFacts s m r false = record {
      create = c;
      new = new;
      no_open = free.no_open;
      no_closed = free.no_closed;
      not_expired = free.not_expired;
      no_refusal = free.no_refusal;
      may_delete = d;
      guids = g;
    } in
    either (λ v. Facts s m v) (is_counted_out s r found) _ _
    (λ _. turned_down s m r false insufficient_resources n refl)
    (λ k. names_facts s m r found n is k (names s r found) refl)))

-- ---- CREATE: what is kept of its guid

same_durable : (s : Server) (r : CreateRequest) (d e : Durable) → r.durable ≡ Some d → r.durable ≡ Some e → d ≡ e
same_durable s r d e h k = grind arith

repeat_facts : (s : Server) (m : Message) (r : CreateRequest) (d : Durable) (o : ℕ) → CreateFacts s m r false
    → r.reconnect ≡ None → r.durable ≡ Some d → s.by_guid m.client_guid d.guid ≡ Some o
    → m.replay ≡ true → (s.session_of_open o ≡ Some m.session_id)
    ⊎ (s.session_of_open o ≡ None × (s.opened o).persistent ≡ true × same_name (s.opened o).user
    (s.user m.session_id) ≡ true) → RepeatFacts s m o r
repeat_facts s m r d o c new kept named replay whose = record {
  durable = d;
  pipes = false;
  create = c;
  new = new;
  kept = kept;
  named = named;
  replay = replay;
  whose = whose;
}

live_facts : (s : Server) (m : Message) (r : CreateRequest) (d : Durable) (o : ℕ) → CreateFacts s m r false
    → r.reconnect ≡ None → r.durable ≡ Some d → s.by_guid m.client_guid d.guid ≡ Some o
    → Facts s m (live_check s m r o)
live_facts s m r d o c new kept named =
    either (λ v. Facts s m v) (not m.replay) _ _ (λ _. tt)
    (λ p. either (λ v. Facts s m v) (is_at m.session_id (s.session_of_open o)) _ _
    (λ a. repeat_facts s m r d o c new kept named (not_false m.replay p)
    (inl (at_of m.session_id (s.session_of_open o) a)))
    (λ _. either (λ v. Facts s m v) (is_some (s.session_of_open o) || not (s.opened o).persistent) _ _ (λ _. tt)
    (λ a. either (λ v. Facts s m v) (same_name (s.opened o).user (s.user m.session_id)) _ _
    (λ u. repeat_facts s m r d o c new kept named (not_false m.replay p)
    (inr (
      none_of (s.session_of_open o) (front_off (is_some (s.session_of_open o)) _ a),
      not_false (s.opened o).persistent (back_off (is_some (s.session_of_open o)) _ a),
      u,
    )))
    (λ _. tt))))

refusal_facts : (s : Server) (m : Message) (r : CreateRequest) (d : Durable) → CreateFacts s m r false → r.reconnect
    ≡ None → r.durable ≡ Some d
    → s.by_guid m.client_guid d.guid ≡ None → s.closed m.session_id d.guid ≡ false → s.expired_guids m.client_guid
    d.guid ≡ false → (u : Option ℕ) → s.refused m.session_id d.guid ≡ u → Facts s m (refusal_check s m r u)
refusal_facts s m r d c new kept none unclosed unexpired (Some status) e = tt
refusal_facts s m r d c new kept none unclosed unexpired None e =
    new_facts s m r (find s r.path) c new
    (record {
      no_open = λ x k. subst (λ y. s.by_guid m.client_guid y.guid ≡ None) (same_durable s r d x kept k) none;
      no_closed = λ x k. subst (λ y. s.closed m.session_id y.guid ≡ false) (same_durable s r d x kept k) unclosed;
      not_expired = λ x k. subst (λ y. s.expired_guids m.client_guid y.guid ≡ false) (same_durable s r d x kept k) unexpired;
      no_refusal = λ x k. subst (λ y. s.refused m.session_id y.guid ≡ None) (same_durable s r d x kept k) e;
    })
    refl

guid_facts : (s : Server) (m : Message) (r : CreateRequest) (d : Durable) → CreateFacts s m r false → r.reconnect ≡ None
    → r.durable ≡ Some d → (u : Option ℕ) → s.by_guid m.client_guid d.guid ≡ u
    → Facts s m (guid_check s m r d u)
guid_facts s m r d c new kept (Some o) e = live_facts s m r d o c new kept e
guid_facts s m r d c new kept None e =
    either (λ v. Facts s m v) (s.closed m.session_id d.guid) _ _ (λ _. tt)
    (λ x. either (λ v. Facts s m v) (s.expired_guids m.client_guid d.guid) _ _ (λ _. tt)
    (λ y. refusal_facts s m r d c new kept e x y (s.refused m.session_id d.guid) refl))

plain_guid : (s : Server) (m : Message) (r : CreateRequest) → r.durable ≡ None → FreeGuid s m r
plain_guid s m r e = record {
  no_open = λ d k. absurd (cc);
  no_closed = λ d k. absurd (cc);
  not_expired = λ d k. absurd (cc);
  no_refusal = λ d k. absurd (cc);
}

durable_facts : (s : Server) (m : Message) (r : CreateRequest) → CreateFacts s m r false → r.reconnect ≡ None
    → (u : Option Durable) → r.durable ≡ u → Facts s m (durable_check s m r u)
durable_facts s m r c new None e = new_facts s m r (find s r.path) c new (plain_guid s m r e) refl
durable_facts s m r c new (Some d) e = guid_facts s m r d c new e (s.by_guid m.client_guid d.guid) refl

-- ---- CREATE: an open that is attached

whose_of : (s : Server) (x : ℕ) (u : Option ℕ) → (is_some u && not (is_at x u)) ≡ false → (u ≡ None) ⊎ (u ≡ Some x)
whose_of s x None e = inl refl
whose_of s x (Some y) e = inr (at_of x (Some y) (not_false (y == x) e))

reconnect_facts : (s : Server) (m : Message) (r : CreateRequest) (c : Reconnect) → CreateFacts s m r false → r.reconnect
    ≡ Some c → Facts s m (reconnect_check s m r c)
reconnect_facts s m r c f asked =
    either (λ v. Facts s m v) (not (s.standing c.file && has_guid c.guid (s.opened c.file).create_guid)) _ _ (λ _. tt)
    (λ a. either (λ v. Facts s m v) (not (same_name (s.opened c.file).user (s.user m.session_id))) _ _ (λ _. tt)
    (λ u. either (λ v. Facts s m v) (is_some (s.session_of_open c.file)
    && not (is_at m.session_id (s.session_of_open c.file))) _ _ (λ _. tt)
    (λ w. let b = not_false (s.standing c.file && has_guid c.guid (s.opened c.file).create_guid) a in
    record {
      reconnect = c;
      create = f;
      asked = asked;
      file = refl;
      standing = front_of (s.standing c.file) _ b;
      guid = back_of (s.standing c.file) _ b;
      user = not_false _ u;
      whose = whose_of s m.session_id (s.session_of_open c.file) w;
    })))

create_facts : (s : Server) (m : Message) (r : CreateRequest) → CreateFacts s m r false → (u : Option Reconnect)
    → r.reconnect ≡ u → Facts s m (reconnect_or_create s m r u)
create_facts s m r c (Some x) e = reconnect_facts s m r x c e
create_facts s m r c None e = durable_facts s m r c e r.durable refl

share_facts : (s : Server) (m : Message) (r : CreateRequest) (pipes : Bool) → CreateFacts s m r pipes → Facts s m (create_check s m r pipes)
share_facts s m r true c = tt
share_facts s m r false c = create_facts s m r c r.reconnect refl

-- ---- LOCK

-- what is denied is no success
stands_or_refuses : (bad status : ℕ) (u : Option (List Range)) → (bad == success) ≡ false → stands_or bad u
    ≡ Denied status → (status == success) ≡ false
unfolding stands_or
stands_or_refuses bad status None h e = grind arith
stands_or_refuses bad status (Some rs) h e = absurd (cc)

lock_refuses : (rs : List Range) (o : ℕ) (ws : List Range) (status : ℕ) → lock_ranges rs o ws ≡ Denied status → (status == success) ≡ false
unfolding lock_ranges
lock_refuses rs o ws status =
    either (λ A. A ≡ Denied status → (status == success) ≡ false) (nat_lt max_ranges (count_owned o rs + length ws)) _ _
    (λ _ e. grind arith)
    (λ _. either (λ A. A ≡ Denied status → (status == success) ≡ false) (any_wraps ws) _ _ (λ _ e. grind arith)
    (λ _ e. stands_or_refuses lock_not_granted status (add_ranges rs ws) refl e))

unlock_refuses : (rs ws : List Range) (status : ℕ) → unlock_ranges rs ws ≡ Denied status → (status == success) ≡ false
unfolding unlock_ranges
unlock_refuses rs ws status =
    either (λ A. A ≡ Denied status → (status == success) ≡ false) (any_wraps ws) _ _ (λ _ e. grind arith)
    (λ _ e. stands_or_refuses range_not_locked status (take_ranges (Some rs) ws) refl e)

pub change_refuses : (rs : List Range) (o : ℕ) (es : List Element) (status : ℕ) → change_ranges rs o es ≡ Denied status
    → (status == success) ≡ false
unfolding change_ranges
change_refuses rs o es status =
    either (λ A. A ≡ Denied status → (status == success) ≡ false) (Rattle.spec_exchange.specs.Commands.all_lock es) _ _
    (λ _ e. lock_refuses rs o (ranges_of o es) status e) (λ _ e. unlock_refuses rs (ranges_of o es) status e)

slot_or_down : (s : Server) (m : Message) (o index number : ℕ) (elements : List Element) (status : ℕ)
    → LockFacts s m o index number elements → (status == success) ≡ false
    → Facts s m (turn_down_lock o index number elements status)
slot_or_down s m o index number elements status l bad = either (λ v. Facts s m v) (is_slot index) _ _ (λ i. record {
  lock = l;
  slot = i;
  refused = bad;
}) (λ _. l.opened)

range_facts : (s : Server) (m : Message) (o index number : ℕ) (elements : List Element) → LockFacts s m o index number
    elements → is_directory s (file_of s o) ≡ false
    → (A : RangeAnswer) → change_ranges (s.ranges (file_of s o)) o elements ≡ A → Facts s m (range_check o index number elements A)
range_facts s m o index number elements l file (Denied status) e = slot_or_down s m o index number elements status l
    (change_refuses (s.ranges (file_of s o)) o elements status e)
range_facts s m o index number elements l file (Stands ranges) e = record { lock = l; file = file; granted = e }

new_lock_facts : (s : Server) (m : Message) (o index number : ℕ) (elements : List Element)
    → LockFacts s m o index number elements → Facts s m (new_lock_check s o index number elements)
new_lock_facts s m o index number elements l =
    either (λ v. Facts s m v) (is_directory s (file_of s o)) _ _ (λ _. slot_or_down s m o index number elements
    invalid_device_request l refl)
    (λ d. range_facts s m o index number elements l d (change_ranges (s.ranges (file_of s o)) o elements) refl)

unkept : (s : Server) (o index number : ℕ) → kept_lock s o index number ≡ None → is_slot index ≡ true
    → kept_status number (s.lock_sequences o index) ≡ None
unkept s o index number e i = subst (λ b. (if b then kept_status number (s.lock_sequences o index) else None) ≡ None) i e

slot_facts : (s : Server) (m : Message) (o index number : ℕ) (elements : List Element) → OpenFacts s m o → m.command
    ≡ Lock o index number elements
    → (u : Option ℕ) → kept_lock s o index number ≡ u → Facts s m (slot_check s o index number elements u)
slot_facts s m o index number elements f c None e = new_lock_facts s m o index number elements (record {
  opened = f;
  command = c;
  unkept = unkept s o index number e;
})
slot_facts s m o index number elements f c (Some status) e = either (λ v. Facts s m v) (status == success) _ _
    (λ _. f.tree.session) (λ _. tt)

lock_facts : (s : Server) (m : Message) (o index number : ℕ) (elements : List Element) → OpenFacts s m o → m.command
    ≡ Lock o index number elements → Facts s m (lock_check s o index number elements)
lock_facts s m o index number elements f c = slot_facts s m o index number elements f c (kept_lock s o index number) refl

-- ---- WRITE and SET_INFO

alter_facts : (s : Server) (m : Message) (o : ℕ) (change : Change) (body : Body) → OpenFacts s m o → is_late s m o
    ≡ false → is_repeated s m o change ≡ false → WriteFacts s m o change body ⊎ SettingFacts s m o change body
    → Facts s m (Alter o change body)
alter_facts s m o change body f late fresh asked = record { opened = f; late = late; fresh = fresh; asked = asked }

write_facts : (s : Server) (m : Message) (o at : ℕ) (bytes : List ℕ) (channel : ℕ) → OpenFacts s m o → m.command
    ≡ Write o at bytes channel → Facts s m (write_check s m o at bytes)
write_facts s m o at bytes channel f c =
    either (λ v. Facts s m v) (is_late s m o) _ _ (λ _. tt)
    (λ late. either (λ v. Facts s m v) (not (has_access s o 0x2)) _ _ (λ _. f)
    (λ a. either (λ v. Facts s m v) (is_directory s (file_of s o)) _ _ (λ _. f)
    (λ d. either (λ v. Facts s m v) (is_repeated s m o (bytes_change at bytes)) _ _ (λ _. f)
    (λ fresh. either (λ v. Facts s m v) (not (may_write (s.ranges (file_of s o)) o at (length bytes))) _ _ (λ _. f)
    (λ u. either (λ v. Facts s m v) (not (is_empty bytes) && passes_room s (file_of s o) (at + length bytes)) _ _ (λ _. f)
    (λ r. alter_facts s m o (bytes_change at bytes) (Count (length bytes)) f late fresh
    (inl (record {
      at = at;
      bytes = bytes;
      channel = channel;
      command = c;
      change_is = refl;
      body_is = refl;
      access = not_false _ a;
      file = d;
      unlocked = not_false _ u;
      room = r;
    }))))))))

setting_of : (s : Server) (m : Message) (o : ℕ) (setting : Setting) → m.command ≡ SetInfo o setting
    → SettingSays s o setting → WriteFacts s m o (setting_change s o setting) Empty
    ⊎ SettingFacts s m o (setting_change s o setting) Empty
setting_of s m o setting c h = inr (record { setting = setting; command = c; change_is = refl; body_is = refl; says = h })

size_facts : (s : Server) (m : Message) (o size : ℕ) (change : Change) → OpenFacts s m o → is_late s m o ≡ false
    → (SizeFacts s o size → WriteFacts s m o change Empty ⊎ SettingFacts s m o change Empty)
    → Facts s m (size_change s m o size change)
size_facts s m o size change f late made =
    either (λ v. Facts s m v) (not (has_access s o 0x2)) _ _ (λ _. f)
    (λ a. either (λ v. Facts s m v) (is_directory s (file_of s o)) _ _ (λ _. f)
    (λ d. either (λ v. Facts s m v) (is_repeated s m o change) _ _ (λ _. f)
    (λ fresh. either (λ v. Facts s m v) (passes_room s (file_of s o) size) _ _ (λ _. f)
    (λ r. alter_facts s m o change Empty f late fresh (made (record { access = not_false _ a; file = d; room = r }))))))

named_facts : (s : Server) (m : Message) (o : ℕ) (change : Change) → OpenFacts s m o → is_late s m o ≡ false
    → is_repeated s m o change ≡ false → (u : Option ℕ) → (u ≡ None → WriteFacts s m o change Empty
    ⊎ SettingFacts s m o change Empty)
    → Facts s m (named_change o change u)
named_facts s m o change f late fresh (Some status) made = f
named_facts s m o change f late fresh None made = alter_facts s m o change Empty f late fresh (made refl)

-- check 8, in front of what names say
unrepeated : (s : Server) (m : Message) (o : ℕ) (change : Change) (v : Verdict) → OpenFacts s m o
    → (is_repeated s m o change ≡ false → Facts s m v) → Facts s m (unless_repeated s m o change v)
unrepeated s m o change v f g = either (λ u. Facts s m u) (is_repeated s m o change) (Tell o Empty) v (λ _. f) g

setting_path : (m : Message) (o : ℕ) (replace : Bool) (path : List ℕ) → m.command ≡ SetInfo o (Rename replace path)
    → form m.command ≡ None → is_path path ≡ true
setting_path m o replace path is e = path_formed path (subst (λ c. form c ≡ None) is e)

-- the rules of a rename, one after the other
pub record RenameRules (s : Server) (f : ℕ) (replace : Bool) (path : List ℕ) : Type 0 where
  pub no_root : (f == root) ≡ false
  pub not_below : (is_directory s f && is_below (path_of s f) path) ≡ false
  pub parent : has_parent s path ≡ true
  pub taken : (is_some (find s path) && not replace) ≡ false
  pub target : target_refused s (target_of f (find s path)) ≡ false
  pub none_below : (is_directory s f && open_below s s.entries (path_of s f)) ≡ false

broken : (P : Type 0) (status : ℕ) → Some status ≡ None → P
broken P status e = absurd (cc)

rename_rules : (s : Server) (f : ℕ) (replace : Bool) (path : List ℕ) → rename_names s f replace path ≡ None → RenameRules s f replace path
unfolding rename_names
rename_rules s f replace path =
    let R = λ (u : Option ℕ). u ≡ None → RenameRules s f replace path in
    either R (f == root) _ _ (λ _ e. absurd (cc))
    (λ a. either R (is_directory s f && is_below (path_of s f) path) _ _ (λ _ e. absurd (cc))
    (λ b. either R (not (has_parent s path)) _ _ (λ _ e. absurd (cc))
    (λ c. either R (has_pending_parent s path) _ _ (λ _ e. absurd (cc))
    (λ p. either R (is_some (find s path) && not replace) _ _ (λ _ e. absurd (cc))
    (λ d. either R (target_refused s (target_of f (find s path))) _ _ (λ _ e. absurd (cc))
    (λ t. either R (is_directory s f && open_below s s.entries (path_of s f)) _ _ (λ _ e. absurd (cc))
    (λ g e. record { no_root = a; not_below = b; parent = not_false _ c; taken = d; target = t; none_below = g })))))))

path_facts : (s : Server) (m : Message) (o : ℕ) (replace : Bool) (path : List ℕ) → has_access s o 0x1_0000 ≡ true
    → is_path path ≡ true → rename_names s (file_of s o) replace path ≡ None → PathFacts s o replace path
path_facts s m o replace path a p e =
    let r = rename_rules s (file_of s o) replace path e in
    record {
      access = a;
      is_text = p;
      no_root = r.no_root;
      not_below = r.not_below;
      parent = r.parent;
      taken = r.taken;
      target = r.target;
      none_below = r.none_below;
    }

setting_facts : (s : Server) (m : Message) (o : ℕ) (setting : Setting) → OpenFacts s m o → is_late s m o ≡ false
    → m.command ≡ SetInfo o setting → Facts s m (setting_check s m o setting)
setting_facts s m o (SetBasic basic) f late c =
    let change = setting_change s o (SetBasic basic) in
    either (λ v. Facts s m v) (has_access s o 0x100) _ _
    (λ a. unrepeated s m o change _ f
    (λ fresh. named_facts s m o change f late fresh (basic_names s (file_of s o) basic)
    (λ _. setting_of s m o (SetBasic basic) c a)))
    (λ _. f)
setting_facts s m o (Rename replace path) f late c =
    let change = setting_change s o (Rename replace path) in
    either (λ v. Facts s m v) (has_access s o 0x1_0000) _ _
    (λ a. unrepeated s m o change _ f
    (λ fresh. named_facts s m o change f late fresh (rename_names s (file_of s o) replace path)
    (λ e. setting_of s m o (Rename replace path) c
    (path_facts s m o replace path a (setting_path m o replace path c f.tree.session.formed) e))))
    (λ _. f)
setting_facts s m o (SetDelete flag) f late c =
    either (λ v. Facts s m v) (has_access s o 0x1_0000) _ _
    (λ a. unrepeated s m o (PutDeletePending flag) _ f
    (λ fresh. named_facts s m o (PutDeletePending flag) f late fresh (delete_names s (file_of s o) flag)
    (λ e. setting_of s m o (SetDelete flag) c (record { access = a; names = e }))))
    (λ _. f)
setting_facts s m o (SetAllocation size) f late c =
    size_facts s m o (allocated size (length (s.content (file_of s o)))) (allocation_change s (file_of s o) size) f late
    (λ h. setting_of s m o (SetAllocation size) c h)
setting_facts s m o (SetEnd size) f late c = size_facts s m o size (PutEnd size) f late (λ h. setting_of s m o (SetEnd size) c h)
setting_facts s m o (SetPosition position) f late c = f
setting_facts s m o SetMode f late c = f

set_facts : (s : Server) (m : Message) (o : ℕ) (setting : Setting) → OpenFacts s m o → m.command ≡ SetInfo o setting
    → Facts s m (set_check s m o setting)
set_facts s m o setting f c = either (λ v. Facts s m v) (is_late s m o) _ _ (λ _. tt) (λ late. setting_facts s m o setting f late c)

-- ---- the requests that change nothing but a sequence or a listing

read_facts : (s : Server) (m : Message) (o at size minimum : ℕ) → OpenFacts s m o → Facts s m (read_check s o at size minimum)
read_facts s m o at size minimum f =
    either (λ v. Facts s m v) (not (has_access s o 0x1 || has_access s o 0x20)) _ _ (λ _. f)
    (λ _. either (λ v. Facts s m v) (is_directory s (file_of s o)) _ _ (λ _. f)
    (λ _. either (λ v. Facts s m v) (not (Rattle.spec_exchange.specs.Ranges.may_read (s.ranges (file_of s o)) o at size)) _ _ (λ _. f)
    (λ _. either (λ v. Facts s m v) (not (size == 0) && not (nat_lt at (length (s.content (file_of s o))))) _ _ (λ _. f)
    (λ _. either (λ v. Facts s m v) (nat_lt (there s (file_of s o) at size) minimum) _ _ (λ _. f) (λ _. f)))))

flush_facts : (s : Server) (m : Message) (o : ℕ) → OpenFacts s m o → Facts s m (flush_check s o)
flush_facts s m o f = either (λ v. Facts s m v) (has_access s o 0x2 || has_access s o 0x4) _ _ (λ _. f) (λ _. f)

file_query_facts : (s : Server) (m : Message) (o class room : ℕ) → OpenFacts s m o → Facts s m (file_query_check s o class room)
file_query_facts s m o class room f =
    either (λ v. Facts s m v) (needs_attributes class && not (has_access s o 0x80)) _ _ (λ _. f)
    (λ _. either (λ v. Facts s m v) (class == 21) _ _ (λ _. f)
    (λ _. either (λ v. Facts s m v)
    (nat_lt room (file_info_size class (is_directory s (file_of s o)) (path_of s (file_of s o)))) _ _ (λ _. f) (λ _. f)))

volume_query_facts : (s : Server) (m : Message) (o class room : ℕ) → OpenFacts s m o → Facts s m (volume_query_check s o class room)
volume_query_facts s m o class room f = either (λ v. Facts s m v) (nat_lt room (volume_info_size class)) _ _ (λ _. f) (λ _. f)

listing_facts : (s : Server) (m : Message) (o class : ℕ) (last : Option (List ℕ)) (all fit : List Named)
    → OpenFacts s m o → Facts s m (listing_of o class last all fit)
unfolding listing_of
listing_facts s m o class last [] fit f = f
listing_facts s m o class last (n ∷ ns) [] f = f
listing_facts s m o class last (n ∷ ns) (k ∷ ks) f = f

list_facts : (s : Server) (m : Message) (o class : ℕ) (restart single : Bool) (pattern : List ℕ) (room : ℕ)
    → OpenFacts s m o → Facts s m (list_check s o class restart single pattern room)
list_facts s m o class restart single pattern room f =
    either (λ v. Facts s m v) (not (has_access s o 0x1)) _ _ (λ _. f)
    (λ _. either (λ v. Facts s m v) (not (is_directory s (file_of s o))) _ _ (λ _. f)
    (λ _. let all = wanted (begins_at restart (s.enumeration_location o)) pattern (all_named s (file_of s o)) in
    listing_facts s m o class (begins_at restart (s.enumeration_location o)) all (one_or_all single (fitting class room 0 all)) f))

ioctl_facts : (s : Server) (m : Message) (o code room : ℕ) → OpenFacts s m o → Facts s m (ioctl_check s m o code room)
ioctl_facts s m o code room f =
    either (λ v. Facts s m v) (is_late s m o) _ _ (λ _. tt)
    (λ _. either (λ v. Facts s m v) (ioctl_status code room == success) _ _ (λ _. f) (λ _. f))

free_ioctl_facts : (s : Server) (m : Message) (code room : ℕ) → SessionFacts s m → Facts s m (free_ioctl_check s code room)
free_ioctl_facts s m code room f = either (λ v. Facts s m v) (code == get_object_id) _ _ (λ _. tt)
    (λ _. either (λ v. Facts s m v) (ioctl_status code room == success) _ _ (λ _. f) (λ _. tt))

-- ---- SESSION_SETUP

granted_facts : (s : Server) (m : Message) (r : SetupRequest) (user : List ℕ) → m.command ≡ Setup r → r.shows
    ≡ Logon user → s.present m.session_id ≡ false → s.making m.connection ≡ Some (NewSession m.session_id)
    → Facts s m (granted_session s m r user)
granted_facts s m r user c shows absent making =
    either (λ v. Facts s m v) (s.encrypts && (r.cipher == 0)) _ _ (λ _. tt)
    (λ _. either (λ v. Facts s m v) (nat_le max_sessions s.sessions) _ _ (λ _. tt)
    (λ _. record { command = c; shows = shows; session_is = refl; absent = absent; making = making; previous_is = refl }))

second_facts : (s : Server) (m : Message) (r : SetupRequest) → m.command ≡ Setup r → s.present m.session_id ≡ false
    → s.making m.connection ≡ Some (NewSession m.session_id)
    → (h : Shows) → r.shows ≡ h → Facts s m (second_token s m r h)
second_facts s m r c absent making Begins e = tt
second_facts s m r c absent making Bad e = tt
second_facts s m r c absent making Refused e = tt
second_facts s m r c absent making (Logon user) e = granted_facts s m r user c e absent making

below_of : (a b : ℕ) → nat_le b a ≡ false → a < b
below_of a b e = grind (arith, nat_tests)

first_facts : (s : Server) (m : Message) (r : SetupRequest) → m.command ≡ Setup r → m.session_id ≡ 0
    → s.session_on m.connection ≡ None → (h : Shows) → Facts s m (first_token s h)
first_facts s m r c new off Begins =
    either (λ v. Facts s m v) (nat_le max_ids s.session_ids_given) _ _ (λ _. tt) (λ b. record {
      request = r;
      command = c;
      new = new;
      off = off;
      begun = below_of s.session_ids_given max_ids b;
    })
first_facts s m r c new off Bad = tt
first_facts s m r c new off Refused = tt
first_facts s m r c new off (Logon user) = tt

new_of : (x : ℕ) (u : Option Making) → is_new x u ≡ true → u ≡ Some (NewSession x)
new_of x None e = absurd (cc)
new_of x (Some (NewSession y)) e = ap (λ z. Some (NewSession z)) (eqb-true y x e)
new_of x (Some (Binding y)) e = absurd (cc)

session_facts : (s : Server) (m : Message) (r : SetupRequest) → m.command ≡ Setup r → Facts s m (session_check s m r)
session_facts s m r c =
    either (λ v. Facts s m v) (m.session_id == 0) _ _
    (λ z. either (λ v. Facts s m v) (is_some (s.session_on m.connection)) _ _ (λ _. tt)
    (λ o. first_facts s m r c (eqb-true m.session_id 0 z) (none_of _ o) r.shows))
    (λ _. either (λ v. Facts s m v) (s.present m.session_id) _ _ (λ _. tt)
    (λ a. either (λ v. Facts s m v) (is_new m.session_id (s.making m.connection)) _ _
    (λ n. second_facts s m r c a (new_of m.session_id (s.making m.connection) n) r.shows refl) (λ _. tt)))

join_facts : (s : Server) (m : Message) (user : List ℕ) → BindingFacts s m m.session_id → is_binding m.session_id
    (s.making m.connection) ≡ true → Facts s m (granted_binding s m user)
join_facts s m user b i =
    either (λ v. Facts s m v) (not (same_name user (s.user m.session_id))) _ _ (λ _. tt)
    (λ _. either (λ v. Facts s m v) (nat_le max_channels (count_channels s.session_on s.connections m.session_id)) _ _ (λ _. tt)
    (λ _. either (λ v. Facts s m v) (nat_le max_numbers (s.channel_numbers_drawn m.session_id)) _ _ (λ _. tt)
    (λ _. record { binding = b; making = i })))

second_binding_facts : (s : Server) (m : Message) → BindingFacts s m m.session_id → is_binding m.session_id
    (s.making m.connection) ≡ true → (h : Shows) → Facts s m (second_binding s m h)
second_binding_facts s m b i Begins = b
second_binding_facts s m b i Bad = tt
second_binding_facts s m b i Refused = tt
second_binding_facts s m b i (Logon user) = join_facts s m user b i

first_binding_facts : (s : Server) (m : Message) → BindingFacts s m m.session_id → (h : Shows) → Facts s m (first_binding m h)
first_binding_facts s m b Begins = b
first_binding_facts s m b Bad = tt
first_binding_facts s m b Refused = tt
first_binding_facts s m b (Logon user) = tt

binding_facts : (s : Server) (m : Message) (r : SetupRequest) → m.command ≡ Setup r → r.binding ≡ true → Facts s m (binding_check s m r)
binding_facts s m r c k =
    either (λ v. Facts s m v) (s.present m.session_id) _ _
    (λ p. either (λ v. Facts s m v) (not r.signed) _ _ (λ _. tt)
    (λ _. either (λ v. Facts s m v) (not (m.client_guid == s.client m.session_id)) _ _ (λ _. tt)
    (λ n. either (λ v. Facts s m v) (not ((r.cipher == s.cipher m.session_id) && (r.signing == s.signing m.session_id))) _ _ (λ _. tt)
    (λ _. either (λ v. Facts s m v) (is_some (s.session_on m.connection)) _ _ (λ _. tt)
    (λ o. either (λ v. Facts s m v) (not r.verified) _ _ (λ _. tt)
    (λ _. let b : BindingFacts s m m.session_id = record {
      request = r;
      command = c;
      session_is = refl;
      binding = k;
      client = not_false _ n;
      off = none_of _ o;
      present = p;
    } in
    either (λ v. Facts s m v) (is_binding m.session_id (s.making m.connection)) _ _
    (λ i. second_binding_facts s m b i r.shows) (λ _. first_binding_facts s m b r.shows)))))))
    (λ _. either (λ v. Facts s m v) (not (is_new m.session_id (s.making m.connection))) _ _ (λ _. tt)
    (λ _. either (λ v. Facts s m v) (not r.signed) _ _ (λ _. tt) (λ _. tt)))

setup_facts : (s : Server) (m : Message) (r : SetupRequest) → m.command ≡ Setup r → Facts s m (setup_check s m r)
setup_facts s m r c = either (λ v. Facts s m v) r.binding _ _ (λ k. binding_facts s m r c k) (λ _. session_facts s m r c)

tree_facts : (s : Server) (m : Message) (share : List ℕ) → SessionFacts s m → m.command ≡ TreeConnect share
    → Facts s m (tree_check s m share)
tree_facts s m share f c =
    either (λ v. Facts s m v) (no_tree_left s m.session_id) _ _ (λ _. tt)
    (λ _. either (λ v. Facts s m v) (same_name share pipes_name) _ _ (λ _. record { session = f; share = share; command = c })
    (λ _. either (λ v. Facts s m v) (same_name share s.share) _ _ (λ _. record { session = f; share = share; command = c }) (λ _. tt)))

-- ---- the layers above the commands

on_open_facts : (s : Server) (m : Message) (o : ℕ) (v : Verdict) → TreeFacts s m → (OpenFacts s m o → Facts s m v)
    → Facts s m (on_open s m o v)
on_open_facts s m o v t f =
    either (λ v. Facts s m v) (is_of_tree s o m.session_id m.tree_id) _ _
    (λ h. let own = front_of (is_of_session s o m.session_id) _ h in f (record {
      tree = t;
      standing = front_of (s.standing o) _ own;
      session_of_open = at_of m.session_id (s.session_of_open o) (back_of (s.standing o) _ own);
      tree_of_open = eqb-true (s.tree_of_open o) m.tree_id (back_of (is_of_session s o m.session_id) _ h);
    }))
    (λ _. tt)

some_of : {X : Type 0} (u : Option X) (x : X) → u ≡ Some x → is_some u ≡ true
some_of u x e = rw e refl

command_facts : (s : Server) (m : Message) (pipes : Bool) → SessionFacts s m → tree_in (s.trees m.session_id) m.tree_id
    ≡ Some pipes → (c : Command) → m.command ≡ c → Facts s m (tree_command s m pipes c)
command_facts s m pipes f t (Unreadable status) e = tt
command_facts s m pipes f t (Aside status) e = tt
command_facts s m pipes f t (Setup r) e = tt
command_facts s m pipes f t Logoff e = tt
command_facts s m pipes f t (TreeConnect share) e = tt
command_facts s m pipes f t TreeDisconnect e = record { tree = record { session = f; tree = some_of _ pipes t }; command = e }
command_facts s m pipes f t (Create r) e = share_facts s m r pipes (record { session = f; tree = t; command = e })
command_facts s m pipes f t (Close o query) e = on_open_facts s m o _ (record { session = f; tree = some_of _ pipes t })
    (λ x. record { opened = x; query = query; command = e })
command_facts s m pipes f t (Flush o) e = on_open_facts s m o _ (record { session = f; tree = some_of _ pipes t })
    (λ x. flush_facts s m o x)
command_facts s m pipes f t (Read o at size minimum channel) e = on_open_facts s m o _ (record {
  session = f;
  tree = some_of _ pipes t;
}) (λ x. read_facts s m o at size minimum x)
command_facts s m pipes f t (Write o at bytes channel) e = on_open_facts s m o _ (record {
  session = f;
  tree = some_of _ pipes t;
}) (λ x. write_facts s m o at bytes channel x e)
command_facts s m pipes f t (Lock o index number elements) e = on_open_facts s m o _ (record {
  session = f;
  tree = some_of _ pipes t;
}) (λ x. lock_facts s m o index number elements x e)
command_facts s m pipes f t (Ioctl o code room) e =
    either (λ v. Facts s m v) (o == no_file) _ _ (λ _. free_ioctl_facts s m code room f)
    (λ _. on_open_facts s m o _ (record { session = f; tree = some_of _ pipes t })
    (λ x. ioctl_facts s m o code room x))
command_facts s m pipes f t (ListDirectory o class restart single pattern room) e = on_open_facts s m o _ (record {
  session = f;
  tree = some_of _ pipes t;
}) (λ x. list_facts s m o class restart single pattern room x)
command_facts s m pipes f t (QueryFile o class room) e = on_open_facts s m o _ (record {
  session = f;
  tree = some_of _ pipes t;
}) (λ x. file_query_facts s m o class room x)
command_facts s m pipes f t (QueryVolume o class room) e = on_open_facts s m o _ (record {
  session = f;
  tree = some_of _ pipes t;
}) (λ x. volume_query_facts s m o class room x)
command_facts s m pipes f t (SetInfo o setting) e = on_open_facts s m o _ (record {
  session = f;
  tree = some_of _ pipes t;
}) (λ x. set_facts s m o setting x e)

in_tree_facts : (s : Server) (m : Message) → SessionFacts s m → (u : Option Bool) → tree_in (s.trees m.session_id)
    m.tree_id ≡ u → Facts s m (in_tree s m u)
in_tree_facts s m f None e = tt
in_tree_facts s m f (Some pipes) e = command_facts s m pipes f e m.command refl

with_tree_facts : (s : Server) (m : Message) → SessionFacts s m → Facts s m (with_tree s m)
with_tree_facts s m f = in_tree_facts s m f (tree_in (s.trees m.session_id) m.tree_id) refl

-- where the session is there but for a SESSION_SETUP
live : (s : Server) (m : Message) (c : Command) → (is_setup m.command || has_session s m) ≡ true → m.command ≡ c
    → is_setup c ≡ false → m.fault ≡ None → form m.command ≡ None → SessionFacts s m
live s m c h e k fault formed = record {
  session_on = at_of m.session_id (s.session_on m.connection) (other_on (is_setup m.command) _ h (ap is_setup e ∙ k));
  fault = fault;
  formed = formed;
}

commanded : (s : Server) (m : Message) → (is_setup m.command || has_session s m) ≡ true → m.fault ≡ None
    → form m.command ≡ None → (c : Command) → m.command ≡ c → Facts s m (command_check s m c)
commanded s m h f k (Unreadable status) e = tt
commanded s m h f k (Setup r) e = setup_facts s m r e
commanded s m h f k Logoff e = record { at = live s m Logoff h e refl f k; session_is = refl; command = e }
commanded s m h f k (TreeConnect share) e = tree_facts s m share (live s m (TreeConnect share) h e refl f k) e
commanded s m h f k (Aside status) e = tt
commanded s m h f k TreeDisconnect e = with_tree_facts s m (live s m TreeDisconnect h e refl f k)
commanded s m h f k (Create r) e = with_tree_facts s m (live s m (Create r) h e refl f k)
commanded s m h f k (Close o query) e = with_tree_facts s m (live s m (Close o query) h e refl f k)
commanded s m h f k (Flush o) e = with_tree_facts s m (live s m (Flush o) h e refl f k)
commanded s m h f k (Read o at size minimum channel) e = with_tree_facts s m (live s m (Read o at size minimum channel) h e refl f k)
commanded s m h f k (Write o at bytes channel) e = with_tree_facts s m (live s m (Write o at bytes channel) h e refl f k)
commanded s m h f k (Lock o index number elements) e = with_tree_facts s m (live s m (Lock o index number elements) h e refl f k)
commanded s m h f k (Ioctl o code room) e = with_tree_facts s m (live s m (Ioctl o code room) h e refl f k)
commanded s m h f k (ListDirectory o class restart single pattern room) e = with_tree_facts s m
    (live s m (ListDirectory o class restart single pattern room) h e refl f k)
commanded s m h f k (QueryFile o class room) e = with_tree_facts s m (live s m (QueryFile o class room) h e refl f k)
commanded s m h f k (QueryVolume o class room) e = with_tree_facts s m (live s m (QueryVolume o class room) h e refl f k)
commanded s m h f k (SetInfo o setting) e = with_tree_facts s m (live s m (SetInfo o setting) h e refl f k)

formed_facts : (s : Server) (m : Message) → (is_setup m.command || has_session s m) ≡ true → m.fault ≡ None
    → (u : Option ℕ) → form m.command ≡ u → Facts s m (formed s m u)
formed_facts s m h f (Some status) e = tt
formed_facts s m h f None e = commanded s m h f e m.command refl

owed_facts : (s : Server) (m : Message) → (is_setup m.command || has_session s m) ≡ true → (u : Option ℕ) → m.fault ≡ u
    → Facts s m (owed s m u)
owed_facts s m h (Some status) e = tt
owed_facts s m h None e = formed_facts s m h e (form m.command) refl

-- the checks' verdict comes with its facts
pub checked : (s : Server) (m : Message) → Facts s m (check s m)
checked s m = either (λ v. Facts s m v) (is_setup m.command || has_session s m) _ _ (λ h. owed_facts s m h m.fault refl) (λ _. tt)

-- where its records don't fit, what stands in its place has them too
pub lesser : (s : Server) (m : Message) (v : Verdict) → Facts s m v → Facts s m (without_room v)
lesser s m (Refuse status) f = f
lesser s m (Give body) f = f
lesser s m (KeepRefusal guid status) f = f
lesser s m (Repeat o r) f = f
lesser s m (Attach o r) f = f
lesser s m (Make r found action) f = turned_down s m r false disk_full f.new refl
lesser s m (TurnDown o status) f = f
lesser s m (Tell o body) f = f
lesser s m (Show o last body) f = f
lesser s m (KeepSlot o index number status elements) f = f.lock.opened
lesser s m (PutRanges o index number ranges elements) f = f.lock.opened
lesser s m (Alter o change body) f = f.opened
lesser s m (CloseOpen o body) f = f.opened
lesser s m Challenge f = f
lesser s m (ChallengeBinding session) f = f
lesser s m (Begin session user previous r is_quiet) f = f
lesser s m (Join session) f = f
lesser s m (EndSession session is_quiet) f = f
lesser s m (AddTree pipes) f = f
lesser s m DropTree f = tt

-- the verdict of the checks, or what stands in its place where the records don't fit
pub found : (s : Server) (m : Message) (v : Verdict) → (v ≡ check s m) ⊎ (v ≡ without_room (check s m)) → Facts s m v
found s m v (inl e) = subst (λ u. Facts s m u) (sym e) (checked s m)
found s m v (inr e) = subst (λ u. Facts s m u) (sym e) (lesser s m (check s m) (checked s m))

-- the elements of a LOCK are all locks or all unlocks
pub lock_elements : (s : Server) (m : Message) (o index number : ℕ) (elements : List Element)
    → LockFacts s m o index number elements → (all_lock elements || all_unlock elements) ≡ true
lock_elements s m o index number elements f = lock_formed elements (subst (λ c. form c ≡ None) f.command f.opened.tree.session.formed)
  where
    lock_formed : (es : List Element) → lock_form es ≡ None → (all_lock es || all_unlock es) ≡ true
    lock_formed [] e = refl
    lock_formed (x ∷ xs) e = grind arith

-- ---- the facts of one verdict

pub keep_facts : (s : Server) (m : Message) (guid status : ℕ) → check s m ≡ KeepRefusal guid status → KeepFacts s m guid status
keep_facts s m guid status e = subst (λ u. Facts s m u) e (checked s m)

pub repeat_facts_of : (s : Server) (m : Message) (o : ℕ) (r : CreateRequest) → check s m ≡ Repeat o r → RepeatFacts s m o r
repeat_facts_of s m o r e = subst (λ u. Facts s m u) e (checked s m)

pub attach_facts : (s : Server) (m : Message) (o : ℕ) (r : CreateRequest) → check s m ≡ Attach o r → AttachFacts s m o r
attach_facts s m o r e = subst (λ u. Facts s m u) e (checked s m)

pub made_facts : (s : Server) (m : Message) (r : CreateRequest) (found : Option ℕ) (action : ℕ) → check s m
    ≡ Make r found action → MakeFacts s m r found action
made_facts s m r found action e = subst (λ u. Facts s m u) e (checked s m)

pub slot_facts_of : (s : Server) (m : Message) (o index number status : ℕ) (elements : List Element) → check s m
    ≡ KeepSlot o index number status elements → SlotFacts s m o index number status elements
slot_facts_of s m o index number status elements e = subst (λ u. Facts s m u) e (checked s m)

pub ranges_facts : (s : Server) (m : Message) (o index number : ℕ) (ranges : List Range) (elements : List Element)
    → check s m ≡ PutRanges o index number ranges elements → RangesFacts s m o index number ranges elements
ranges_facts s m o index number ranges elements e = subst (λ u. Facts s m u) e (checked s m)

pub alter_facts_of : (s : Server) (m : Message) (o : ℕ) (change : Change) (body : Body) → check s m
    ≡ Alter o change body → AlterFacts s m o change body
alter_facts_of s m o change body e = subst (λ u. Facts s m u) e (checked s m)

pub shut_facts : (s : Server) (m : Message) (o : ℕ) (body : Body) → check s m ≡ CloseOpen o body → ShutFacts s m o
shut_facts s m o body e = subst (λ u. Facts s m u) e (checked s m)

pub begin_facts : (s : Server) (m : Message) (session : ℕ) (user : List ℕ) (previous : Option ℕ) (r : SetupRequest)
    (is_quiet : Bool) → check s m ≡ Begin session user previous r is_quiet → BeginFacts s m session user previous r
begin_facts s m session user previous r is_quiet e = subst (λ u. Facts s m u) e (checked s m)
