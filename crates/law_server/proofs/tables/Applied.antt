-- What each verdict does keeps what fits together.
use Rattle.std.proofs.Common.{◌≡◌, ◌≢◌, ◌⊎◌, inl, inr, ℕ, ◌+◌, ◌≤◌, ◌<◌, ◌==◌, nat_lt, Bool, true, false, List, []}
use Rattle.std.proofs.Common.{length, refl, arith, sym, subst, ◌∙◌, Option, Some, None, is_some, slice_get}
use Rattle.std.proofs.lemmas.Bool.{eqb-false}
use Rattle.spec_exchange.specs.Table.{put}
use Rattle.spec_exchange.specs.Status.{success}
use Rattle.spec_exchange.specs.Content.{written, ended, is_empty}
use Rattle.spec_exchange.specs.Commands.{CreateRequest, Durable, SetupRequest, Element, Setting, SetBasic, Rename}
use Rattle.spec_exchange.specs.Commands.{SetDelete, SetAllocation, SetEnd, SetPosition, SetMode, asks_directory, deletes_on_close}
use Rattle.spec_exchange.specs.State.{Server, Message, Range, Body, NewSession}
use Rattle.spec_exchange.specs.Files.{root, find, exists, make_file, empty_file, set_content, store_basic, file_attributes}
use Rattle.spec_exchange.specs.Files.{touched, emptied_basic, is_directory}
use Rattle.spec_exchange.specs.Ranges.{change_ranges, Stands}
use Rattle.spec_exchange.specs.Opens.{id_of, max_ids, add_open, leave_open, file_has_open}
use Rattle.spec_exchange.specs.CheckCreate.{empties}
use Rattle.spec_exchange.specs.CheckOpen.{is_late, is_slot, file_of, bytes_change, target_of, target_refused, delete_names}
use Rattle.spec_exchange.specs.Verdict.{Verdict, Refuse, Give, KeepRefusal, Repeat, Attach, Make, TurnDown, Tell, Show}
use Rattle.spec_exchange.specs.Verdict.{KeepSlot, PutRanges, Alter, CloseOpen, Challenge, ChallengeBinding, Begin, Join}
use Rattle.spec_exchange.specs.Verdict.{EndSession, AddTree, DropTree, Change, PutBytes, PutEnd, PutBasic}
use Rattle.spec_exchange.specs.Verdict.{PutDeletePending, PutPath, PutNothing}
use Rattle.spec_exchange.specs.Effects.{apply, reach, attached, guid_of, is_persistent, open_row, next_open, made_attributes}
use Rattle.spec_exchange.specs.Effects.{guids_after, make_open, keep_slot, set_ranges, change_file, keep_closed}
use Rattle.spec_exchange.specs.Effects.{end_session, end_if_named, add_session, listed_at, positioned_at}
use Rattle.spec_exchange.specs.Step.{due, expire, add_expired_guid}
use Rattle.law_server.specs.tables.Fits.{Fits, OpenIds, RangeOwners, Listed}
use Rattle.law_server.proofs.tables.Logic.{either, back_off}
use Rattle.law_server.proofs.tables.Lists.{exists-pushed, change_ranges-beside, due-has}
use Rattle.law_server.proofs.tables.Found.{SessionFacts, MakeFacts, RangesFacts, AlterFacts, WriteFacts, SettingFacts}
use Rattle.law_server.proofs.tables.Found.{SettingSays, setting_change, Facts}
use Rattle.law_server.proofs.tables.AddOpen.{add_open_keeps}
use Rattle.law_server.proofs.tables.FileEffects.{make_file_keeps, set_delete_pending_keeps, rename_file_keeps, set_ranges_keeps}
use Rattle.law_server.proofs.tables.SessionEffects.{attach_keeps, keep_refusal_keeps, close_guid_keeps, challenge_keeps}
use Rattle.law_server.proofs.tables.SessionEffects.{bind_keeps, add_session_keeps, join_session_keeps, add_tree_keeps}
use Rattle.law_server.proofs.tables.SessionEffects.{unread_keeps}
use Rattle.law_server.proofs.tables.Leaving.{leave_open_keeps, unopened_of}
use Rattle.law_server.proofs.tables.Closing.{drop_tree_keeps, left_present}
use Rattle.law_server.proofs.tables.EndSession.{end_session_keeps}

-- ---- columns that nothing here reads

pub sequence_keeps : (s : Server) (sequence : ℕ → ℕ) → Fits s → Fits (record s { sequence = sequence })
sequence_keeps s sequence i = unread_keeps s sequence s.lock_sequences s.enumeration_location s.current_byte_offset s.content s.basic
    s.connections s.expired_guids s.expired_count s.version s.journal i

pub places_keep : (s : Server) (listed : ℕ → Option (List ℕ)) (offset : ℕ → ℕ) → Fits s
    → Fits (record s { enumeration_location = listed; current_byte_offset = offset })
places_keep s listed offset i = unread_keeps s s.sequence s.lock_sequences listed offset s.content s.basic s.connections
    s.expired_guids s.expired_count s.version s.journal i

pub connections_keeps : (s : Server) (connections : List ℕ) → Fits s → Fits (record s { connections = connections })
connections_keeps s connections i = unread_keeps s s.sequence s.lock_sequences s.enumeration_location s.current_byte_offset s.content s.basic
    connections s.expired_guids s.expired_count s.version s.journal i

pub version_keeps : (s : Server) (version : ℕ) → Fits s → Fits (record s { version = version })
version_keeps s version i = unread_keeps s s.sequence s.lock_sequences s.enumeration_location s.current_byte_offset s.content s.basic
    s.connections s.expired_guids s.expired_count version s.journal i

pub journal_keeps : (s : Server) (journal : ℕ) → Fits s → Fits (record s { journal = journal })
journal_keeps s journal i = unread_keeps s s.sequence s.lock_sequences s.enumeration_location s.current_byte_offset s.content s.basic
    s.connections s.expired_guids s.expired_count s.version journal i

pub set_content_keeps : (s : Server) (f : ℕ) (bytes : List ℕ) (now : ℕ) → Fits s → Fits (set_content s f bytes now)
set_content_keeps s f bytes now i = unread_keeps s s.sequence s.lock_sequences s.enumeration_location s.current_byte_offset
    (put s.content f bytes) (put s.basic f (touched (s.basic f) now)) s.connections s.expired_guids s.expired_count
    s.version s.journal i

pub empty_file_keeps : (s : Server) (f attributes now : ℕ) → Fits s → Fits (empty_file s f attributes now)
empty_file_keeps s f attributes now i =
    unread_keeps s s.sequence s.lock_sequences s.enumeration_location s.current_byte_offset (put s.content f [])
    (put s.basic f (emptied_basic (s.basic f) attributes now)) s.connections s.expired_guids s.expired_count
    s.version s.journal i

pub store_basic_keeps : (s : Server) (f : ℕ) (basic : Rattle.spec_exchange.specs.Commands.Basic) → Fits s → Fits (store_basic s f basic)
store_basic_keeps s f basic i = unread_keeps s s.sequence s.lock_sequences s.enumeration_location s.current_byte_offset s.content
    (put s.basic f basic) s.connections s.expired_guids s.expired_count s.version s.journal i

pub keep_slot_keeps : (s : Server) (o index number status : ℕ) → Fits s → Fits (keep_slot s o index number status)
keep_slot_keeps s o index number status i =
    either (λ t. Fits t) (is_slot index) _ _
    (λ _. unread_keeps s s.sequence (Rattle.spec_exchange.specs.Table.put2 s.lock_sequences o index
    (Some (record { number = number; status = status }))) s.enumeration_location s.current_byte_offset s.content s.basic s.connections
    s.expired_guids s.expired_count s.version s.journal i) (λ _. i)

pub add_expired_guid_keeps : (s : Server) (client : ℕ) (guid : Option ℕ) → Fits s → Fits (add_expired_guid s client guid)
add_expired_guid_keeps s client None i = i
add_expired_guid_keeps s client (Some g) i =
    unread_keeps s s.sequence s.lock_sequences s.enumeration_location s.current_byte_offset s.content s.basic s.connections
    (Rattle.spec_exchange.specs.Table.put2 s.expired_guids client g true) (s.expired_count + 1) s.version s.journal
    i

pub reach_keeps : (s : Server) (m : Message) (o : ℕ) → Fits s → Fits (reach s m o)
reach_keeps s m o i = either (λ t. Fits t) (is_late s m o) _ _ (λ _. i) (λ _. sequence_keeps s (put s.sequence o m.channel_sequence) i)

-- ---- CREATE

-- the session of a request is there
pub there : (s : Server) (m : Message) → Fits s → SessionFacts s m → s.present m.session_id ≡ true
there s m i f = i.on_present m.connection m.session_id f.session_on

attached_keeps : (s : Server) (m : Message) (o : ℕ) → s.standing o ≡ true → s.present m.session_id ≡ true → Fits s → Fits (attached s m o)
attached_keeps s m o stands present i = either (λ t. Fits t) (is_some (s.session_of_open o)) _ _ (λ _. i)
    (λ _. attach_keeps s m o stands present i)

fresh_open : (s : Server) (b : Bool) → s.standing (next_open s) ≡ b → OpenIds s → b ≡ false
fresh_open s true e ids = let h = ids (next_open s) e in absurd (omega arith)
fresh_open s false e ids = refl

-- what a new open needs, beside its file
record Ready (s : Server) (m : Message) (r : CreateRequest) : Type 0 where
  pub free : s.standing (next_open s) ≡ false
  pub above : 0 < next_open s
  pub id : next_open s ≤ id_of s.epoch (s.open_ids_given + 1)
  pub more : s.open_ids_given ≤ s.open_ids_given + 1
  pub most : s.open_ids_given + 1 ≤ max_ids
  pub session : (x : ℕ) → Some m.session_id ≡ Some x → s.present x ≡ true
  pub plain : is_persistent r.durable ≡ false → is_some (Some m.session_id) ≡ true
  pub guid : (g : ℕ) → guid_of r.durable ≡ Some g → s.by_guid m.client_guid g ≡ None
  pub named : is_persistent r.durable ≡ true → is_some (guid_of r.durable) ≡ true
  pub kept : (x : ℕ) → s.present x ≡ false → guids_after s m.session_id r.durable x ≡ 0

guid_free : (s : Server) (m : Message) (r : CreateRequest)
    → ((d : Durable) → r.durable ≡ Some d → s.by_guid m.client_guid d.guid ≡ None) → (u : Option Durable) → r.durable
    ≡ u → (g : ℕ) → guid_of u ≡ Some g → s.by_guid m.client_guid g ≡ None
guid_free s m r f None e g h = absurd (cc)
guid_free s m r f (Some d) e g h = let free = f d e in grind arith

persistent_named : (u : Option Durable) → is_persistent u ≡ true → is_some (guid_of u) ≡ true
persistent_named None e = absurd (cc)
persistent_named (Some d) e = refl

guids_kept : (s : Server) (session : ℕ) (u : Option Durable) → s.present session ≡ true
    → ((x : ℕ) → s.present x ≡ false → s.guids x ≡ 0) → (x : ℕ) → s.present x ≡ false → guids_after s session u x ≡ 0
guids_kept s session None p old x h = old x h
guids_kept s session (Some d) p old x h = let was = old x h in grind arith

ready : (s : Server) (m : Message) (r : CreateRequest) (found : Option ℕ) (action : ℕ) → Fits s → MakeFacts s m r found action → Ready s m r
ready s m r found action i f =
    let present = there s m i f.new.create.session in
    record {
      free = fresh_open s (s.standing (next_open s)) refl i.open_ids;
      above = omega arith;
      id = omega arith;
      more = omega arith;
      most = let g = f.given in omega (arith, g);
      session = λ x e. grind arith;
      plain = λ _. refl;
      guid = guid_free s m r f.new.no_open r.durable refl;
      named = persistent_named r.durable;
      kept = guids_kept s m.session_id r.durable present i.no_guids;
    }

made_there : (s : Server) (r : CreateRequest) (now : ℕ) → exists (make_file s r.path (asks_directory r) (made_attributes r) now) s.next_file ≡ true
unfolding exists
made_there s r now = let more = exists-pushed s.entries (record { file = s.next_file; path = r.path }) s.next_file in grind arith

not_root_number : (n : ℕ) → 0 < n → n ≢ root
not_root_number n l = omega (arith, l)

make_found : (s : Server) (m : Message) (r : CreateRequest) (f action now : ℕ) → Fits s → Ready s m r → exists s f
    ≡ true → (deletes_on_close r.options ≡ true → f ≢ root) → Fits (make_open s m r (Some f) action now)
unfolding exists
make_found s m r f action now i a file off =
    either (λ u. Fits (record (add_open u (next_open s) (open_row s m r f action) (Some m.session_id)
    m.channel_sequence) {
      open_ids_given = s.open_ids_given + 1;
      tree_of_open = put s.tree_of_open (next_open s) m.tree_id;
      guids = guids_after s m.session_id r.durable;
    }))
    (empties r.disposition) _ _
    (λ _. add_open_keeps (empty_file s f (file_attributes r.attributes) now) (next_open s) (open_row s m r f action) (Some m.session_id)
    m.channel_sequence (s.open_ids_given + 1) (guids_after s m.session_id r.durable) (put s.tree_of_open (next_open s) m.tree_id) a.free a.above a.id a.more
    a.most a.session a.plain a.guid a.named file off a.kept
    (empty_file_keeps s f (file_attributes r.attributes) now i))
    (λ _. add_open_keeps s (next_open s) (open_row s m r f action) (Some m.session_id) m.channel_sequence
    (s.open_ids_given + 1) (guids_after s m.session_id r.durable) (put s.tree_of_open (next_open s) m.tree_id) a.free a.above a.id a.more a.most a.session
    a.plain a.guid a.named file off a.kept i)

make_missing : (s : Server) (m : Message) (r : CreateRequest) (action now : ℕ) → Fits s → Ready s m r
    → Fits (make_open s m r None action now)
make_missing s m r action now i a =
    add_open_keeps (make_file s r.path (asks_directory r) (made_attributes r) now) (next_open s)
    (open_row s m r s.next_file action) (Some m.session_id) m.channel_sequence (s.open_ids_given + 1)
    (guids_after s m.session_id r.durable) (put s.tree_of_open (next_open s) m.tree_id)
    a.free a.above a.id a.more a.most a.session a.plain a.guid a.named (made_there s r now)
    (λ _. not_root_number s.next_file i.next_file) a.kept
    (make_file_keeps s r.path (asks_directory r) (made_attributes r) now i)

make_keeps : (s : Server) (m : Message) (r : CreateRequest) (found : Option ℕ) (action now : ℕ) → Fits s
    → MakeFacts s m r found action → Fits (make_open s m r found action now)
make_keeps s m r None action now i f = make_missing s m r action now i (ready s m r None action i f)
make_keeps s m r (Some x) action now i f =
    let t = f.there x refl in make_found s m r x action now i (ready s m r (Some x) action i f) t.there
    (λ d. eqb-false x root (t.no_root d))

-- ---- LOCK

ranges_own : (s : Server) (o : ℕ) (elements : List Element) (ranges : List Range) → s.standing o ≡ true → RangeOwners s
    → change_ranges (s.ranges (file_of s o)) o elements ≡ Stands ranges
    → (n : ℕ) (r : Range) → slice_get ranges n ≡ Some r → s.standing r.owner ≡ true × (s.opened r.owner).file ≡ file_of s o
ranges_own s o elements ranges stands old e n r h = elim (change_ranges-beside (s.ranges (file_of s o)) o elements ranges e n r h) [
  | inl q ↦ grind arith
  | inr a ↦ old (file_of s o) a.0 r a.1
]

pub ranges_keeps : (s : Server) (o index number : ℕ) (elements : List Element) (ranges : List Range) → s.standing o
    ≡ true → change_ranges (s.ranges (file_of s o)) o elements ≡ Stands ranges
    → Fits s → Fits (keep_slot (set_ranges s (file_of s o) ranges) o index number success)
ranges_keeps s o index number elements ranges stands e i =
    keep_slot_keeps (set_ranges s (file_of s o) ranges) o index number success
    (set_ranges_keeps s (file_of s o) ranges (ranges_own s o elements ranges stands i.range_owners e) i)

put_ranges_keeps : (s : Server) (m : Message) (o index number : ℕ) (ranges : List Range) (elements : List Element)
    → Fits s → RangesFacts s m o index number ranges elements
    → Fits (keep_slot (set_ranges (reach s m o) (file_of s o) ranges) o index number success)
put_ranges_keeps s m o index number ranges elements i f =
    either (λ t. Fits (keep_slot (set_ranges t (file_of s o) ranges) o index number success)) (is_late s m o) _ _
    (λ _. ranges_keeps s o index number elements ranges f.lock.opened.standing f.granted i)
    (λ _. ranges_keeps (record s { sequence = put s.sequence o m.channel_sequence }) o index number elements ranges
    f.lock.opened.standing f.granted (sequence_keeps s (put s.sequence o m.channel_sequence) i))

-- ---- WRITE and SET_INFO

-- the root isn't delete pending, and a rename goes over no open file
abbrev pub IsFine : Server → ℕ → Change → Type 0
IsFine s f (PutDeletePending flag) = flag ≡ true → f ≢ root
IsFine s f (PutPath replaced path) = (t p : ℕ) → replaced ≡ Some t → s.standing p ≡ true → ((s.opened p).file == t) ≡ false
IsFine s f (PutBytes at bytes) = Unit {0}
IsFine s f (PutEnd size) = Unit {0}
IsFine s f (PutBasic basic) = Unit {0}
IsFine s f PutNothing = Unit {0}

pub change_keeps : (s : Server) (f now : ℕ) (change : Change) → IsFine s f change → Fits s → Fits (change_file s f now change)
change_keeps s f now (PutBytes at bytes) fine i = set_content_keeps s f (written at bytes (s.content f)) now i
change_keeps s f now (PutEnd size) fine i = set_content_keeps s f (ended size (s.content f)) now i
change_keeps s f now (PutBasic basic) fine i = store_basic_keeps s f basic i
change_keeps s f now (PutDeletePending flag) fine i = set_delete_pending_keeps s f flag fine i
change_keeps s f now (PutPath replaced path) fine i = rename_file_keeps s f replaced path fine i
change_keeps s f now PutNothing fine i = i

pending_fine : (s : Server) (f : ℕ) (flag : Bool) → delete_names s f flag ≡ None → flag ≡ true → f ≢ root
unfolding delete_names
pending_fine s f flag e h = grind arith

pub target_unopened : (s : Server) (target : Option ℕ) → target_refused s target ≡ false → Listed s → (t p : ℕ) → target
    ≡ Some t → s.standing p ≡ true → ((s.opened p).file == t) ≡ false
unfolding target_refused
target_unopened s None e l t p is stands = absurd (cc)
target_unopened s (Some x) e l t p is stands = let off =
    unopened_of s x (back_off (is_directory s x) (file_has_open s x) e) l p stands in grind arith

bytes_fine : (s : Server) (f at : ℕ) (bytes : List ℕ) → IsFine s f (bytes_change at bytes)
bytes_fine s f at bytes = either (λ c. IsFine s f c) (is_empty bytes) _ _ (λ _. tt) (λ _. tt)

setting_fine : (s : Server) (o : ℕ) (setting : Setting) → Listed s → SettingSays s o setting → IsFine s (file_of s o)
    (setting_change s o setting)
setting_fine s o (SetBasic basic) l f = tt
setting_fine s o (Rename replace path) l f = target_unopened s (target_of (file_of s o) (find s path)) f.target l
setting_fine s o (SetDelete flag) l f = pending_fine s (file_of s o) flag f.names
setting_fine s o (SetAllocation size) l f = either (λ c. IsFine s (file_of s o) c)
    (nat_lt size (length (s.content (file_of s o)))) _ _ (λ _. tt) (λ _. tt)
setting_fine s o (SetEnd size) l f = tt
setting_fine s o (SetPosition position) l f = tt
setting_fine s o SetMode l f = tt

fine_of : (s : Server) (m : Message) (o : ℕ) (change : Change) (body : Body) → Listed s → WriteFacts s m o change body
    ⊎ SettingFacts s m o change body → IsFine s (file_of s o) change
fine_of s m o change body l (inl f) = subst (λ c. IsFine s (file_of s o) c) (sym f.change_is) (bytes_fine s (file_of s o) f.at f.bytes)
fine_of s m o change body l (inr f) = subst (λ c. IsFine s (file_of s o) c) (sym f.change_is) (setting_fine s o f.setting l f.says)

same_fine : (s : Server) (sequence : ℕ → ℕ) (f : ℕ) (change : Change) → IsFine s f change → IsFine (record s {
  sequence = sequence;
}) f change
same_fine s sequence f (PutBytes at bytes) h = h
same_fine s sequence f (PutEnd size) h = h
same_fine s sequence f (PutBasic basic) h = h
same_fine s sequence f (PutDeletePending flag) h = h
same_fine s sequence f (PutPath replaced path) h = h
same_fine s sequence f PutNothing h = h

alter_keeps : (s : Server) (m : Message) (o now : ℕ) (change : Change) (body : Body) → Fits s → AlterFacts s m o change
    body → Fits (change_file (reach s m o) (file_of s o) now change)
alter_keeps s m o now change body i f =
    let fine = fine_of s m o change body i.listed f.asked in
    either (λ t. Fits (change_file t (file_of s o) now change)) (is_late s m o) _ _
    (λ _. change_keeps s (file_of s o) now change fine i)
    (λ _. change_keeps (record s { sequence = put s.sequence o m.channel_sequence }) (file_of s o) now change
    (same_fine s (put s.sequence o m.channel_sequence) (file_of s o) change fine)
    (sequence_keeps s (put s.sequence o m.channel_sequence) i))

-- ---- CLOSE and expiry

shut_keeps : (s : Server) (session o : ℕ) (guid : Option ℕ) → s.standing o ≡ true → s.present session ≡ true → Fits s
    → Fits (keep_closed (leave_open s o) session guid)
shut_keeps s session o None stands present i = leave_open_keeps s o stands i
shut_keeps s session o (Some g) stands present i = close_guid_keeps (leave_open s o) session g
    (subst (λ p. p session ≡ true) (sym (left_present s o)) present) (leave_open_keeps s o stands i)

pub expire_keeps : (s : Server) (o : ℕ) → s.standing o ≡ true → Fits s → Fits (expire s o)
expire_keeps s o stands i = add_expired_guid_keeps (leave_open s o) (s.opened o).client_guid (s.opened o).create_guid
    (leave_open_keeps s o stands i)

pub due_stands : (s : Server) (now o : ℕ) → due s now ≡ Some o → Listed s → s.standing o ≡ true
due_stands s now o e l = sym (l o) ∙ due-has s.deadline s.opens now o e

pub expired_keeps : (s : Server) (now o : ℕ) → due s now ≡ Some o → Fits s → Fits (expire s o)
expired_keeps s now o e i = expire_keeps s o (due_stands s now o e i.listed) i

-- ---- SESSION_SETUP

pub end_if_named_keeps : (s : Server) (now : ℕ) (named : Option ℕ) (is_quiet : Bool) → Fits s → Fits (end_if_named s now named is_quiet)
end_if_named_keeps s now None is_quiet i = i
end_if_named_keeps s now (Some session) is_quiet i = end_session_keeps s session now is_quiet i

still_absent : (s : Server) (x y : ℕ) → s.present y ≡ false → put s.present x false y ≡ false
still_absent s x y e = grind arith

begin_keeps : (s : Server) (m : Message) (now : ℕ) (user : List ℕ) (previous : Option ℕ) (r : SetupRequest)
    (is_quiet : Bool) → s.present m.session_id ≡ false → s.making m.connection ≡ Some (NewSession m.session_id) → Fits s
    → Fits (add_session (end_if_named s now previous is_quiet) m user r)
begin_keeps s m now user None r is_quiet absent making i = add_session_keeps s m user r absent making i
begin_keeps s m now user (Some x) r is_quiet absent making i = add_session_keeps (end_session s x now is_quiet) m user r
    (still_absent s x m.session_id absent) making (end_session_keeps s x now is_quiet i)

-- ---- by verdict

pub applied_keeps : (s : Server) (m : Message) (now : ℕ) (v : Verdict) → Fits s → Facts s m v → Fits (apply s m now v).server
applied_keeps s m now (Refuse status) i f = i
applied_keeps s m now (Give body) i f = i
applied_keeps s m now (KeepRefusal guid status) i f = keep_refusal_keeps s m.session_id guid status (there s m i f.new.create.session) i
applied_keeps s m now (Repeat o r) i f = attached_keeps s m o (i.guid_open m.client_guid f.durable.guid o f.named).0
    (there s m i f.create.session) i
applied_keeps s m now (Attach o r) i f = attached_keeps s m o f.standing (there s m i f.create.session) i
applied_keeps s m now (Make r found action) i f = make_keeps s m r found action now i f
applied_keeps s m now (TurnDown o status) i f = reach_keeps s m o i
applied_keeps s m now (Tell o body) i f = reach_keeps s m o i
applied_keeps s m now (Show o place body) i f = places_keep (reach s m o) (listed_at s.enumeration_location o place)
    (positioned_at s.current_byte_offset o place) (reach_keeps s m o i)
applied_keeps s m now (KeepSlot o index number status elements) i f = keep_slot_keeps (reach s m o) o index number
    status (reach_keeps s m o i)
applied_keeps s m now (PutRanges o index number ranges elements) i f = put_ranges_keeps s m o index number ranges elements i f
applied_keeps s m now (Alter o change body) i f = alter_keeps s m o now change body i f
applied_keeps s m now (CloseOpen o body) i f = shut_keeps s m.session_id o (s.opened o).create_guid f.opened.standing
    (there s m i f.opened.tree.session) i
applied_keeps s m now Challenge i f = challenge_keeps s m.connection f.off f.begun i
applied_keeps s m now (ChallengeBinding session) i f = bind_keeps s m.connection session f.off i
applied_keeps s m now (Begin session user previous r is_quiet) i f = begin_keeps s m now user previous r is_quiet f.absent f.making i
applied_keeps s m now (Join session) i f = join_session_keeps s m session
    (subst (λ x. s.present x ≡ true) (sym f.binding.session_is) f.binding.present) i
applied_keeps s m now (EndSession session is_quiet) i f = end_session_keeps s session now is_quiet i
applied_keeps s m now (AddTree pipes) i f = add_tree_keeps s m.session_id pipes (there s m i f.session) i
applied_keeps s m now DropTree i f = drop_tree_keeps s m.session_id m.tree_id (there s m i f.tree.session) i
