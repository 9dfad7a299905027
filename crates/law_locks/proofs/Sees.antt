-- What the checks find of a lock, a close, a create, and a create that asks for its open again.
use Rattle.std.proofs.Common.{eqb-true, ◌≡◌, ℕ, ◌==◌, nat_le, Bool, true, false, not, ◌&&◌, ◌||◌, List, Option, Some}
use Rattle.std.proofs.Common.{None, is_some, refl, arith, sym, ◌∙◌, ap, subst}
use Rattle.spec_exchange.specs.Table.{is_at}
use Rattle.spec_exchange.specs.Status.{success, user_session_deleted, network_name_deleted, file_closed}
use Rattle.spec_exchange.specs.Status.{object_name_not_found, access_denied, invalid_device_request, sharing_violation}
use Rattle.spec_exchange.specs.Status.{insufficient_resources}
use Rattle.spec_exchange.specs.Texts.{same_name}
use Rattle.spec_exchange.specs.Commands.{Create, Close, Lock, CreateRequest, Durable, Reconnect, Element, form}
use Rattle.spec_exchange.specs.Commands.{create_form, path_form, lock_form, is_setup, deletes_on_close}
use Rattle.spec_exchange.specs.State.{Server, Message, Empty, Range}
use Rattle.spec_exchange.specs.Files.{find, is_directory}
use Rattle.spec_exchange.specs.Ranges.{RangeAnswer, Stands, Denied, change_ranges}
use Rattle.spec_exchange.specs.Opens.{is_of_session, is_of_tree, deletes, mapped}
use Rattle.spec_exchange.specs.CheckCreate.{reconnect_check, reconnect_or_create, has_guid, guid_check, live_check}
use Rattle.spec_exchange.specs.CheckCreate.{refusal_check, new_check, durable_check, keeps_guid, max_guids}
use Rattle.spec_exchange.specs.CheckCreate.{is_counted_out, after_names, names, shares, refused_create, refused_by}
use Rattle.spec_exchange.specs.CheckOpen.{file_of, is_slot, kept_lock, turn_down_lock, range_check, new_lock_check, slot_check}
use Rattle.spec_exchange.specs.CheckSetup.{tree_in}
use Rattle.spec_exchange.specs.Check.{check, owed, formed, command_check, with_tree, in_tree, tree_command, has_session}
use Rattle.spec_exchange.specs.Verdict.{Verdict, Refuse, Give, KeepRefusal, Repeat, Attach, Make, KeepSlot, PutRanges, CloseOpen}
use Rattle.law_server.proofs.tables.Logic.{either, front_of, back_of, other_on, at_of, not_true, not_false}
use Rattle.law_server.proofs.tables.Checked.{change_refuses}
use Rattle.law_locks.specs.Locks.{kept_at}

-- ---- behind the session and the tree

pub through : (P : Verdict → Type 0) (s : Server) (m : Message) → m.fault ≡ None → is_setup m.command ≡ false
    → P (Refuse user_session_deleted) → ((status : ℕ) → form m.command ≡ Some status → P (Refuse status))
    → (s.session_on m.connection ≡ Some m.session_id → form m.command ≡ None → P (command_check s m m.command)) → P (check s m)
through P s m fault work gone bad go =
    either P (is_setup m.command || has_session s m) _ _
    (λ h. subst (λ u. P (owed s m u)) (sym fault)
    (by_form (form m.command) refl (at_of m.session_id (s.session_on m.connection)
    (other_on (is_setup m.command) (has_session s m) h work))))
    (λ _. gone)
  where
    by_form : (u : Option ℕ) → form m.command ≡ u → s.session_on m.connection ≡ Some m.session_id → P (formed s m u)
    by_form None e on = go on e
    by_form (Some status) e on = bad status e

in_trees : (P : Verdict → Type 0) (s : Server) (m : Message) → (tree_in (s.trees m.session_id) m.tree_id ≡ None
    → P (Refuse network_name_deleted)) → ((pipes : Bool) → tree_in (s.trees m.session_id) m.tree_id ≡ Some pipes
    → P (tree_command s m pipes m.command)) → P (with_tree s m)
in_trees P s m none some = by_tree (tree_in (s.trees m.session_id) m.tree_id) refl
  where
    by_tree : (u : Option Bool) → tree_in (s.trees m.session_id) m.tree_id ≡ u → P (in_tree s m u)
    by_tree None e = none e
    by_tree (Some pipes) e = some pipes e

of_session : (s : Server) (o x : ℕ) → is_of_session s o x ≡ true → s.standing o ≡ true × s.session_of_open o ≡ Some x
of_session s o x e = (
  front_of (s.standing o) (is_at x (s.session_of_open o)) e,
  at_of x (s.session_of_open o)
      (back_of (s.standing o) (is_at x (s.session_of_open o)) e),
)

-- ---- a lock

pub data LockSees (s : Server) (m : Message) (o i n : ℕ) (es : List Element) : Verdict → Type 0 where
  Deleted : LockSees s m o i n es (Refuse user_session_deleted)
  NoTree : s.session_on m.connection ≡ Some m.session_id → tree_in (s.trees m.session_id) m.tree_id ≡ None
      → LockSees s m o i n es (Refuse network_name_deleted)
  Away : s.session_on m.connection ≡ Some m.session_id → is_of_tree s o m.session_id m.tree_id ≡ false → LockSees s m o i n es (Refuse file_closed)
  Done : s.session_on m.connection ≡ Some m.session_id → s.standing o ≡ true → kept_at (s.lock_sequences o i) n
      ≡ Some success → LockSees s m o i n es (Give Empty)
  Again : (status : ℕ) → s.session_on m.connection ≡ Some m.session_id → s.standing o ≡ true
      → kept_at (s.lock_sequences o i) n ≡ Some status → (status == success) ≡ false
      → LockSees s m o i n es (Refuse status)
  Refused : (status : ℕ) → s.session_on m.connection ≡ Some m.session_id → s.standing o ≡ true
      → kept_at (s.lock_sequences o i) n ≡ None → (status == success) ≡ false
      → LockSees s m o i n es (KeepSlot o i n status es)
  Granted : (ranges : List Range) → s.session_on m.connection ≡ Some m.session_id → s.standing o ≡ true
      → kept_at (s.lock_sequences o i) n ≡ None → LockSees s m o i n es (PutRanges o i n ranges es)

kept_is : (s : Server) (o i n : ℕ) → is_slot i ≡ true → kept_lock s o i n ≡ kept_at (s.lock_sequences o i) n
unfolding kept_at
kept_is s o i n e = grind arith

turned_is : (o i n status : ℕ) (es : List Element) → is_slot i ≡ true → turn_down_lock o i n es status ≡ KeepSlot o i n status es
turned_is o i n status es e = grind arith

new_sees : (s : Server) (m : Message) (o i n : ℕ) (es : List Element) → is_slot i ≡ true → s.session_on m.connection
    ≡ Some m.session_id → s.standing o ≡ true → kept_at (s.lock_sequences o i) n ≡ None
    → LockSees s m o i n es (new_lock_check s o i n es)
new_sees s m o i n es slot on st kept =
    either (λ v. LockSees s m o i n es v) (is_directory s (file_of s o)) _ _
    (λ _. subst (λ v. LockSees s m o i n es v) (sym (turned_is o i n invalid_device_request es slot))
    (Refused invalid_device_request on st kept refl))
    (λ _. by_ranges (change_ranges (s.ranges (file_of s o)) o es) refl)
  where
    by_ranges : (r : RangeAnswer) → change_ranges (s.ranges (file_of s o)) o es ≡ r → LockSees s m o i n es (range_check o i n es r)
    by_ranges (Stands ranges) e = Granted ranges on st kept
    by_ranges (Denied status) e = subst (λ v. LockSees s m o i n es v) (sym (turned_is o i n status es slot))
        (Refused status on st kept (change_refuses (s.ranges (file_of s o)) o es status e))

slot_sees : (s : Server) (m : Message) (o i n : ℕ) (es : List Element) → is_slot i ≡ true → s.session_on m.connection
    ≡ Some m.session_id → s.standing o ≡ true → (u : Option ℕ) → kept_at (s.lock_sequences o i) n ≡ u
    → LockSees s m o i n es (slot_check s o i n es u)
slot_sees s m o i n es slot on st None e = new_sees s m o i n es slot on st e
slot_sees s m o i n es slot on st (Some status) e =
    either (λ v. LockSees s m o i n es v) (status == success) _ _
    (λ h. Done on st (e ∙ ap (λ z. Some z) (eqb-true status success h))) (λ h. Again status on st e h)

pub lock_sees : (s : Server) (m : Message) (o i n : ℕ) (es : List Element) → m.fault ≡ None → m.command ≡ Lock o i n es
    → lock_form es ≡ None → is_slot i ≡ true → LockSees s m o i n es (check s m)
lock_sees s m o i n es fault is formed1 slot =
    let P : Verdict → Type 0 = λ v. LockSees s m o i n es v in
    through P s m fault (ap is_setup is) Deleted (λ status e. let f : form m.command ≡ None = ap form is ∙ formed1 in absurd (grind arith))
    (λ on _. subst (λ c. P (command_check s m c)) (sym is)
    (in_trees P s m (NoTree on) (λ pipes t. subst (λ c. P (tree_command s m pipes c)) (sym is)
    (either P (is_of_tree s o m.session_id m.tree_id) _ _
    (λ h. let os = of_session s o m.session_id (front_of (is_of_session s o m.session_id) _ h) in slot_sees s m o i n es slot on os.0 (kept_lock s o i n) (sym (kept_is s o i n slot)))
    (λ h. Away on h)))))

-- ---- a close

pub data CloseSees (s : Server) (m : Message) (o : ℕ) : Verdict → Type 0 where
  Deleted2 : CloseSees s m o (Refuse user_session_deleted)
  NoTree2 : s.session_on m.connection ≡ Some m.session_id → tree_in (s.trees m.session_id) m.tree_id ≡ None
      → CloseSees s m o (Refuse network_name_deleted)
  Away2 : CloseSees s m o (Refuse file_closed)
  Shuts : s.session_on m.connection ≡ Some m.session_id → s.standing o ≡ true → CloseSees s m o (CloseOpen o Empty)

pub close_sees : (s : Server) (m : Message) (o : ℕ) → m.fault ≡ None → m.command ≡ Close o false → CloseSees s m o (check s m)
close_sees s m o fault is =
    let P : Verdict → Type 0 = λ v. CloseSees s m o v in
    through P s m fault (ap is_setup is) Deleted2 (λ status e. let f : form m.command ≡ None = ap form is in absurd (grind arith))
    (λ on _. subst (λ c. P (command_check s m c)) (sym is)
    (in_trees P s m (NoTree2 on) (λ pipes t. subst (λ c. P (tree_command s m pipes c)) (sym is)
    (either P (is_of_tree s o m.session_id m.tree_id) _ _
    (λ h. let os = of_session s o m.session_id (front_of (is_of_session s o m.session_id) _ h) in Shuts on os.0) (λ h. Away2)))))

-- ---- a create that asks for its open again

pub data AskSees (s : Server) (m : Message) (r : CreateRequest) (q : Reconnect) : Verdict → Type 0 where
  Deleted3 : AskSees s m r q (Refuse user_session_deleted)
  NoTree3 : s.session_on m.connection ≡ Some m.session_id → tree_in (s.trees m.session_id) m.tree_id ≡ None
      → AskSees s m r q (Refuse network_name_deleted)
  Gone : s.session_on m.connection ≡ Some m.session_id
      → (s.standing q.file && has_guid q.guid (s.opened q.file).create_guid) ≡ false
      → AskSees s m r q (Refuse object_name_not_found)
  Other : s.session_on m.connection ≡ Some m.session_id → s.standing q.file ≡ true → same_name (s.opened q.file).user
      (s.user m.session_id) ≡ false → AskSees s m r q (Refuse access_denied)
  Held : s.session_on m.connection ≡ Some m.session_id
      → (is_some (s.session_of_open q.file) && not (is_at m.session_id (s.session_of_open q.file))) ≡ true
      → AskSees s m r q (Refuse object_name_not_found)
  Attached : s.session_on m.connection ≡ Some m.session_id → s.standing q.file ≡ true
      → (is_some (s.session_of_open q.file) && not (is_at m.session_id (s.session_of_open q.file))) ≡ false
      → AskSees s m r q (Attach q.file r)

reconnect_sees : (s : Server) (m : Message) (r : CreateRequest) (q : Reconnect) → s.session_on m.connection
    ≡ Some m.session_id → AskSees s m r q (reconnect_check s m r q)
reconnect_sees s m r q on =
    let P : Verdict → Type 0 = λ v. AskSees s m r q v in
    either P (not (s.standing q.file && has_guid q.guid (s.opened q.file).create_guid)) _ _
    (λ h. Gone on (not_true (s.standing q.file && has_guid q.guid (s.opened q.file).create_guid) h))
    (λ h. let st = front_of (s.standing q.file) (has_guid q.guid (s.opened q.file).create_guid)
    (not_false (s.standing q.file && has_guid q.guid (s.opened q.file).create_guid) h) in
    either P (not (same_name (s.opened q.file).user (s.user m.session_id))) _ _
    (λ u. Other on st (not_true (same_name (s.opened q.file).user (s.user m.session_id)) u))
    (λ _. either P (is_some (s.session_of_open q.file) && not (is_at m.session_id (s.session_of_open q.file))) _ _
    (λ a. Held on a) (λ a. Attached on st a)))

pub ask_sees : (s : Server) (m : Message) (r : CreateRequest) (q : Reconnect) → m.fault ≡ None → m.command ≡ Create r
    → r.reconnect ≡ Some q → create_form r ≡ None → ((pipes : Bool) → tree_in (s.trees m.session_id) m.tree_id
    ≡ Some pipes → pipes ≡ false) → AskSees s m r q (check s m)
ask_sees s m r q fault is asks formed1 flat =
    let P : Verdict → Type 0 = λ v. AskSees s m r q v in
    through P s m fault (ap is_setup is) Deleted3 (λ status e. let f : form m.command ≡ None = ap form is ∙ formed1 in absurd (grind arith))
    (λ on _. subst (λ c. P (command_check s m c)) (sym is)
    (in_trees P s m (NoTree3 on) (λ pipes t. subst (λ c. P (tree_command s m pipes c)) (sym is) (by_pipes pipes (flat pipes t) on))))
  where
    by_pipes : (b : Bool) → b ≡ false → s.session_on m.connection ≡ Some m.session_id → AskSees s m r q (tree_command s m b (Create r))
    by_pipes true e on = absurd (cc)
    by_pipes false e on = subst (λ u. AskSees s m r q (reconnect_or_create s m r u)) (sym asks) (reconnect_sees s m r q on)

-- ---- a create: a success makes an open or gives one

abbrev pub create_says : Verdict → Bool
create_says (Refuse status) = not (status == success)
create_says (KeepRefusal guid status) = true
create_says (Repeat o r) = true
create_says (Attach o r) = true
create_says (Make r found action) = true
create_says _ = false

says_refuse : (status : ℕ) → (status == success) ≡ false → create_says (Refuse status) ≡ true
says_refuse status e = rw e refl

form_refuses : (r : CreateRequest) (status : ℕ) → create_form r ≡ Some status → (status == success) ≡ false
unfolding path_form
form_refuses r status e = grind arith

kept_says : (r : CreateRequest) (status : ℕ) → is_some r.durable ≡ true → create_says (refused_create r status) ≡ true
kept_says r status e = by_durable r.durable e
  where
    by_durable : (u : Option Durable) → is_some u ≡ true → create_says (refused_by u status) ≡ true
    by_durable None e = absurd (cc)
    by_durable (Some d) e = refl

new_says : (s : Server) (m : Message) (r : CreateRequest) (found : Option ℕ) → is_some r.durable ≡ true
    → create_says (new_check s m r found) ≡ true
new_says s m r found d =
    let P : Verdict → Type 0 = λ v. create_says v ≡ true in
    either P (deletes_on_close r.options && not (deletes (mapped r.access))) _ _ (λ _. refl)
    (λ _. either P (keeps_guid r && nat_le max_guids (s.guids m.session_id)) _ _ (λ _. refl)
    (λ _. either P (is_counted_out s r found) _ _ (λ _. kept_says r insufficient_resources d)
    (λ _. by_names (names s r found))))
  where
    by_names : (u : Option ℕ) → create_says (after_names s r found u) ≡ true
    by_names (Some status) = kept_says r status d
    by_names None = either (λ v. create_says v ≡ true) (shares s r found) _ _ (λ _. refl) (λ _. kept_says r sharing_violation d)

live_says : (s : Server) (m : Message) (r : CreateRequest) (o : ℕ) → create_says (live_check s m r o) ≡ true
live_says s m r o =
    let P : Verdict → Type 0 = λ v. create_says v ≡ true in
    either P (not m.replay) _ _ (λ _. refl) (λ _. either P (is_at m.session_id (s.session_of_open o)) _ _ (λ _. refl)
    (λ _. either P (is_some (s.session_of_open o) || not (s.opened o).persistent) _ _ (λ _. refl)
    (λ _. either P (same_name (s.opened o).user (s.user m.session_id)) _ _ (λ _. refl) (λ _. refl))))

guid_says : (s : Server) (m : Message) (r : CreateRequest) (d : Durable) → is_some r.durable ≡ true
    → ((x g status : ℕ) → s.refused x g ≡ Some status → (status == success) ≡ false) → (u : Option ℕ)
    → create_says (guid_check s m r d u) ≡ true
guid_says s m r d k bad (Some o) = live_says s m r o
guid_says s m r d k bad None =
    let P : Verdict → Type 0 = λ v. create_says v ≡ true in
    either P (s.closed m.session_id d.guid) _ _ (λ _. refl) (λ _. either P (s.expired_guids m.client_guid d.guid) _ _
    (λ _. refl) (λ _. by_refused (s.refused m.session_id d.guid) refl))
  where
    by_refused : (w : Option ℕ) → s.refused m.session_id d.guid ≡ w → create_says (refusal_check s m r w) ≡ true
    by_refused (Some status) e = says_refuse status (bad m.session_id d.guid status e)
    by_refused None e = new_says s m r (find s r.path) k

pub create_sees : (s : Server) (m : Message) (r : CreateRequest) (d : Durable) → m.fault ≡ None → m.command ≡ Create r
    → r.reconnect ≡ None → r.durable ≡ Some d → ((x g status : ℕ) → s.refused x g ≡ Some status → (status == success)
    ≡ false) → create_says (check s m) ≡ true
create_sees s m r d fault is new kept bad =
    let P : Verdict → Type 0 = λ v. create_says v ≡ true in
    through P s m fault (ap is_setup is) refl (λ status e. says_refuse status (form_refuses r status (sym (ap form is) ∙ e)))
    (λ on _. subst (λ c. P (command_check s m c)) (sym is)
    (in_trees P s m (λ _. refl) (λ pipes t. subst (λ c. P (tree_command s m pipes c)) (sym is) (by_new pipes))))
  where
    by_new : (pipes : Bool) → create_says (tree_command s m pipes (Create r)) ≡ true
    by_new true = refl
    by_new false =
        subst (λ u. create_says (reconnect_or_create s m r u) ≡ true) (sym new)
        (subst (λ u. create_says (durable_check s m r u) ≡ true) (sym kept)
        (guid_says s m r d (ap (λ u. is_some u) kept) bad (s.by_guid m.client_guid d.guid)))
