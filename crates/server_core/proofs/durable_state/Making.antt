-- Creates: what is made of a file, and the open that is restored.
use Rattle.std.proofs.Common.{◌≡◌, ℕ, ◌/◌, ◌%◌, ◌==◌, nat_le, nat_lt, Bool, true, false, not, ◌&&◌, ◌||◌, if◌then◌else◌, List, []}
use Rattle.std.proofs.Common.{Option, Some, None, is_some, length, refl, sym, ap, subst, ◌∙◌, arith}
use Rattle.std.proofs.lemmas.Bool.Decides.{nat_tests}
use Rattle.std.specs.Prelude.{Result, Ok, Err, IfOk, OnOk}
use Rattle.spec_wire.specs.messages.Places.{number_of}
use Rattle.spec_exchange.specs.Status.{object_name_collision, insufficient_resources, object_path_not_found, duplicate_objectid}
use Rattle.spec_exchange.specs.Commands.{path_form}
use Rattle.spec_exchange.specs.CheckCreate.{max_opens, max_files, last_file}
use Rattle.spec_exchange.specs.Opens.{max_ids}
use Rattle.spec_exchange.specs.State as model
use Rattle.spec_exchange.specs.State.{Server, Origin}
use Rattle.spec_exchange.specs.Table.{put}
use Rattle.spec_exchange.specs.Texts.{is_path}
use Rattle.spec_exchange.specs.Files.{exists, find, has_parent, is_directory, make_file, empty_file, emptied_basic}
use Rattle.spec_exchange.specs.Fold.{is_file, may_make, may_create, may_restore, may_have_open, created_file, restore, with_record}
use Rattle.store_files.specs.file_tree.Shown.{ShowsFiles}
use Rattle.store_files.specs.file_tree.Refusals.{make_refusal, place_refusal, form_first, StoreTells}
use Rattle.store_files.specs.declared.file_tree.error.StoreError.{StoreError}
use Rattle.store_files.specs.declared.file_tree.error.StoreError.TheVariants.{Memory, Status}
use Rattle.store_files.specs.declared.file_tree.tree.Tree.{Tree}
use Rattle.journal_bytes.specs.record_bytes.Meaning.{new_open, opened}
use Rattle.journal_bytes.specs.declared.record_bytes.value.NewOpen.{NewOpen}
use Rattle.store_opens.specs.open_table.Changes.{restore_refusal, restored}
use Rattle.store_opens.specs.open_table.Changes as opens
use Rattle.store_opens.specs.open_table.Shown.{ShowsOpens}
use Rattle.store_opens.specs.declared.open_table.error.OpenError.{OpenError}
use Rattle.store_opens.specs.declared.open_table.error.OpenError.TheVariants as errors
use Rattle.store_opens.specs.declared.open_table.row.OpenParts.{OpenParts}
use Rattle.store_opens.specs.declared.open_table.table.Opens.{Opens}
use Rattle.law_server.specs.tables.Fits.{Fits}
use Rattle.law_server.proofs.tables.Logic.{front_of, back_of, both, not_true}
use Rattle.law_records.proofs.fold.Created.{path_of_form, form_of_path, created_free}
use Rattle.server_core.specs.durable_state.Durable.{DurableShown, create_record, may_be_made, file_behind}
use Rattle.server_core.specs.declared.durable_state.creates.Made.{Made}
use Rattle.server_core.specs.declared.durable_state.durable.Durable.{Durable}
use Rattle.server_core.proofs.durable_state.Choice.{on, off, first_off, second_off, not_on, not_off, eq_on, lt_le, le_lt, neither}
use Rattle.server_core.proofs.durable_state.Shown.{content_behind, same_files, made_behind}

-- ---- a new file

abbrev full : Server → Bool
full s = nat_le 65536 (length s.entries) || nat_lt 0xffff_ffff_ffff_fffe s.next_file

room_is : (n k : ℕ) → (nat_lt n max_files && nat_le k last_file) ≡ not (nat_le 65536 n || nat_lt 0xffff_ffff_ffff_fffe k)
room_is n k =
    ap (λ (b : Bool). b && nat_le k last_file) (lt_le n max_files)
    ∙ (ap (λ (b : Bool). not (nat_le max_files n) && b) (le_lt k last_file)
    ∙ neither (nat_le max_files n) (nat_lt last_file k))

formed : (form rest : Option ℕ) → form_first form rest ≡ None → (form ≡ None) × (rest ≡ None)
formed None rest e = (refl, e)
formed (Some status) rest e = absurd (cc)

placed : (i u h : Bool) → (if i then Some object_name_collision else if u then Some insufficient_resources else if h then
    None else Some object_path_not_found) ≡ None → (i ≡ false) × (u ≡ false) × (h ≡ true)
placed true u h e = absurd (cc)
placed false true h e = absurd (cc)
placed false false true e = (refl, refl, refl)
placed false false false e = absurd (cc)

refused_place : (p i u h : Bool) (status : ℕ) → (p ≡ true → (if i then Some object_name_collision else if u then
    Some insufficient_resources else if h then None else Some object_path_not_found) ≡ Some status)
    → (p && (not i && (h && not u))) ≡ false
refused_place false i u h status k = refl
refused_place true true u h status k = refl
refused_place true false true h status k = second_off h false refl
refused_place true false false false status k = refl
refused_place true false false true status k = absurd (let e = k refl in cc)

made_on : (s : Server) (f : ℕ) (path : List ℕ) → f ≡ s.next_file → make_refusal s path ≡ None → may_make s f path ≡ true
unfolding may_make
made_on s f path e r =
    let k = formed (path_form path) (place_refusal s path) r in
    let p = placed (is_some (find s path)) (full s) (has_parent s path) k.1 in
    let own = eq_on f s.next_file e in
    both (f == s.next_file) _ own
    (both (is_path path) _ (path_of_form path k.0)
    (both (not (is_some (find s path))) _ (not_on (is_some (find s path)) p.0)
    (both (has_parent s path) _ p.2 (room_is (length s.entries) s.next_file ∙ not_on (full s) p.1))))

made_off : (s : Server) (f status : ℕ) (path : List ℕ) → make_refusal s path ≡ Some status → may_make s f path ≡ false
unfolding may_make
made_off s f status path r =
    second_off (f == s.next_file) _
    (subst (λ (m : Bool). (is_path path && (not (is_some (find s path)) && (has_parent s path && m))) ≡ false)
    (sym (room_is (length s.entries) s.next_file))
    (refused_place (is_path path) (is_some (find s path)) (full s) (has_parent s path) status
    (λ p. ap (λ (o : Option ℕ). form_first o (place_refusal s path)) (sym (form_of_path path p)) ∙ r)))

pub other_file : (s : Server) (f : ℕ) (path : List ℕ) → (f == s.next_file) ≡ false → may_make s f path ≡ false
unfolding may_make
other_file s f path e = first_off (f == s.next_file) _ e

pub made_shown : (d : Durable) (t : Tree) (s : Server) (f : ℕ) (path : List ℕ) (is_dir : Bool) (attributes time : ℕ) → Fits s
    → DurableShown d s → f ≡ s.next_file → (make_refusal s path ≡ None) → ShowsFiles t (make_file s path is_dir attributes time)
    → (true ≡ may_make s f path) × DurableShown (record d { tree = t }) (make_file s path is_dir attributes time)
made_shown d t s f path is_dir attributes time i h e r files =
    (sym (made_on s f path e r), made_behind d t s path is_dir attributes time i h files)

pub unmade_shown : {E : Type 0} (out : Result Bool E) (error : StoreError) (d : Durable) (t : Tree) (f : ℕ) (path : List ℕ)
    (is_dir : Bool) (attributes time : ℕ) → IfOk out (λ b. (b ≡ false) × (error ≡ Memory → ⊥))
    → ((s : Server) → ShowsFiles d.tree s → StoreTells error (make_refusal s path) × ShowsFiles t s)
    → IfOk out (λ b. (s : Server) → Fits s → DurableShown d s → (b ≡ may_make s f path)
    × DurableShown (record d { tree = t }) (if b then make_file s path is_dir attributes time else s))
unmade_shown (Err x) error d t f path is_dir attributes time told done = tt
unmade_shown (Ok b) Memory d t f path is_dir attributes time told done = absurd (told.1 refl)
unmade_shown (Ok b) (Status status) d t f path is_dir attributes time told done = λ s i h.
    let k = done s h.files in (
      told.0 ∙ sym (made_off s f status path k.0),
      off (λ (u : Server). DurableShown (record d { tree = t }) u) b (make_file s path is_dir attributes time) s told.0
          (same_files d t s h k.1),
    )

-- ---- each action

pub ok_by : {X E : Type 0} (r : Result X E) (P Q : X → Type 0) → ((x : X) → P x → Q x) → IfOk r P → IfOk r Q
ok_by (Ok x) P Q f p = f x p
ok_by (Err e) P Q f p = p

create_2 : (s : Server) (action f : ℕ) (path : List ℕ) → (action == 2) ≡ true → may_create s action f path ≡ may_make s f path
unfolding may_create
create_2 s action f path e = on (λ (b : Bool). b ≡ may_make s f path) (action == 2) _ _ e refl

created_2 : (s : Server) (action f : ℕ) (path : List ℕ) (attributes : ℕ) (is_dir : Bool) (time : ℕ) → (action == 2) ≡ true
    → created_file s action f path attributes is_dir time ≡ make_file s path is_dir attributes time
created_2 s action f path attributes is_dir time e =
    on (λ (u : Server). u ≡ make_file s path is_dir attributes time) (action == 2) (make_file s path is_dir attributes time)
    (if action == 1 then s else empty_file s f attributes time) e refl

create_1 : (s : Server) (action f : ℕ) (path : List ℕ) → (action == 2) ≡ false → (action == 1) ≡ true
    → may_create s action f path ≡ exists s f
unfolding may_create
create_1 s action f path n e =
    off (λ (b : Bool). b ≡ exists s f) (action == 2) _ _ n (on (λ (b : Bool). b ≡ exists s f) (action == 1) _ _ e refl)

created_1 : (s : Server) (action f : ℕ) (path : List ℕ) (attributes : ℕ) (is_dir : Bool) (time : ℕ) → (action == 2) ≡ false
    → (action == 1) ≡ true → created_file s action f path attributes is_dir time ≡ s
created_1 s action f path attributes is_dir time n e =
    off (λ (u : Server). u ≡ s) (action == 2) (make_file s path is_dir attributes time)
    (if action == 1 then s else empty_file s f attributes time) n
    (on (λ (u : Server). u ≡ s) (action == 1) s (empty_file s f attributes time) e refl)

create_4 : (s : Server) (action f : ℕ) (path : List ℕ) → (action == 2) ≡ false → (action == 1) ≡ false → nat_lt action 4 ≡ false
    → may_create s action f path ≡ false
unfolding may_create
create_4 s action f path n m e =
    off (λ (b : Bool). b ≡ false) (action == 2) _ _ n
    (off (λ (b : Bool). b ≡ false) (action == 1) _ _ m (off (λ (b : Bool). b ≡ false) (nat_lt action 4) _ _ e refl))

create_0 : (s : Server) (action f : ℕ) (path : List ℕ) → (action == 2) ≡ false → (action == 1) ≡ false → nat_lt action 4 ≡ true
    → may_create s action f path ≡ is_file s f
unfolding may_create is_file
create_0 s action f path n m e =
    off (λ (b : Bool). b ≡ (exists s f && not (is_directory s f))) (action == 2) _ _ n
    (off (λ (b : Bool). b ≡ (exists s f && not (is_directory s f))) (action == 1) _ _ m
    (on (λ (b : Bool). b ≡ (exists s f && not (is_directory s f))) (nat_lt action 4) _ _ e refl))

created_0 : (s : Server) (action f : ℕ) (path : List ℕ) (attributes : ℕ) (is_dir : Bool) (time : ℕ) → (action == 2) ≡ false
    → (action == 1) ≡ false → created_file s action f path attributes is_dir time ≡ empty_file s f attributes time
created_0 s action f path attributes is_dir time n m =
    off (λ (u : Server). u ≡ empty_file s f attributes time) (action == 2) (make_file s path is_dir attributes time)
    (if action == 1 then s else empty_file s f attributes time) n
    (off (λ (u : Server). u ≡ empty_file s f attributes time) (action == 1) s (empty_file s f attributes time) m refl)

-- what stands behind a create that may be or not
abbrev pub Behind : Durable → Server → Made → Bool → Type 0
Behind e s m b = (b ≡ may_be_made s m) × DurableShown e (file_behind s m b)

pub by_make : (e : Durable) (s : Server) (m : Made) (b : Bool) → (m.action == 2) ≡ true → (b ≡ may_make s m.file m.path.now)
    → DurableShown e (if b then make_file s m.path.now m.directory m.attributes m.time else s) → Behind e s m b
by_make e s m b a k h = (
  k ∙ sym (create_2 s m.action m.file m.path.now a),
  subst (λ (u : Server). DurableShown e (if b then u else s))
      (sym (created_2 s m.action m.file m.path.now m.attributes m.directory m.time a)) h,
)

same_either : (e : Durable) (s : Server) (b : Bool) → DurableShown e s → DurableShown e (if b then s else s)
same_either e s true h = h
same_either e s false h = h

pub by_look : (e : Durable) (s : Server) (m : Made) (b : Bool) → (m.action == 2) ≡ false → (m.action == 1) ≡ true
    → b ≡ exists s m.file → DurableShown e s → Behind e s m b
by_look e s m b n a k h = (
  k ∙ sym (create_1 s m.action m.file m.path.now n a),
  subst (λ (u : Server). DurableShown e (if b then u else s))
      (sym (created_1 s m.action m.file m.path.now m.attributes m.directory m.time n a)) (same_either e s b h),
)

pub by_none : (e : Durable) (s : Server) (m : Made) → (m.action == 2) ≡ false → (m.action == 1) ≡ false
    → nat_lt m.action 4 ≡ false → DurableShown e s → Behind e s m false
by_none e s m n a k h = (sym (create_4 s m.action m.file m.path.now n a k), h)

pub by_empty : (e : Durable) (s : Server) (m : Made) (b : Bool) → (m.action == 2) ≡ false → (m.action == 1) ≡ false
    → nat_lt m.action 4 ≡ true → b ≡ is_file s m.file
    → DurableShown e (if b then empty_file s m.file m.attributes m.time else s) → Behind e s m b
by_empty e s m b n a k i h = (
  i ∙ sym (create_0 s m.action m.file m.path.now n a k),
  subst (λ (u : Server). DurableShown e (if b then u else s))
      (sym (created_0 s m.action m.file m.path.now m.attributes m.directory m.time n a)) h,
)

pub emptied_shown : (d : Durable) (t : Tree) (s : Server) (f attributes time : ℕ) → DurableShown d s
    → ShowsFiles t (empty_file s f attributes time) → DurableShown (record d { tree = t }) (empty_file s f attributes time)
emptied_shown d t s f attributes time h files =
    content_behind d t s (put s.content f []) (put s.basic f (emptied_basic (s.basic f) attributes time)) h files

-- ---- an open that is restored

below_is : (n k : ℕ) → nat_lt n k ≡ true → nat_le k n ≡ false
below_is n k h = grind (arith, nat_tests)

refusal_none : (a b c d : Bool) → a ≡ false → b ≡ false → c ≡ false → d ≡ true → (if a || b then Some insufficient_resources
    else if c || not d then Some duplicate_objectid else None) ≡ None
refusal_none a b c d i j k l = rw (i, j, k, l) refl

pub free : (s : Server) (n : model.NewOpen) → may_restore s n ≡ true → restore_refusal s n.id ≡ None
unfolding may_restore
free s n h =
    let a = back_of (n.id / 0x1_0000_0000 == s.epoch) _ h in
    let b = back_of (nat_lt 0 (n.id % 0x1_0000_0000)) _ a in
    let c = back_of (nat_lt s.open_ids_given max_ids) _ b in
    let d = back_of (not (s.standing n.id)) _ c in
    let e = back_of (not (is_some (s.by_guid n.client_guid n.create_guid))) _ d in
    refusal_none (nat_le max_opens (length s.opens)) (nat_le max_ids s.open_ids_given) (s.standing n.id)
    ((n.id / 0x1_0000_0000 == s.epoch) && nat_lt 0 (n.id % 0x1_0000_0000))
    (below_is (length s.opens) max_opens e)
    (below_is s.open_ids_given max_ids (front_of (nat_lt s.open_ids_given max_ids) _ b))
    (not_true (s.standing n.id) (front_of (not (s.standing n.id)) _ c))
    (both (n.id / 0x1_0000_0000 == s.epoch) (nat_lt 0 (n.id % 0x1_0000_0000)) (front_of (n.id / 0x1_0000_0000 == s.epoch) _ h)
    (front_of (nat_lt 0 (n.id % 0x1_0000_0000)) _ a))

abbrev pub parts : ℕ → ℕ → NewOpen → ℕ → ℕ → OpenParts
parts f action n client guid =
    record {
      file = f;
      access = n.access;
      share = n.share;
      options = n.options;
      action = action;
      persistent = true;
      client = client;
      guid = Some guid;
      session = None;
      tree = 0;
      sequence = 0;
      timeout = n.timeout;
    }

pub restored_shown : (d : Durable) (o : Opens) (s : Server) (f action : ℕ) (n : NewOpen) (client guid : ℕ) (user : List ℕ)
    → client ≡ number_of n.client → guid ≡ number_of n.guid → user ≡ n.user → DurableShown d s
    → ShowsOpens o (restored s n.id (parts f action n client guid) user)
    → DurableShown (record d { opens = o }) (restore s f action (Some (new_open n)))
restored_shown d o s f action n client guid user c g u h shown =
    let a = subst (λ (x : ℕ). ShowsOpens o (restored s n.id (parts f action n x guid) user)) c shown in
    let b = subst (λ (x : ℕ). ShowsOpens o (restored s n.id (parts f action n (number_of n.client) x) user)) g a in
    let e = subst (λ (x : List ℕ). ShowsOpens o (restored s n.id (parts f action n (number_of n.client) (number_of n.guid)) x)) u b in
    record {
      files = h.files;
      opens = e;
      version_is = h.version_is;
      epoch_is = h.epoch_is;
      pending = h.pending;
      ascend = h.ascend;
    }

pub turned_away_shown : {E : Type 0} (out : Result Unit E) (error : OpenError) (d : Durable) (o : Opens) (f action : ℕ) (n : NewOpen)
    → OnOk out (error ≡ errors.Memory → ⊥)
    → ((s : Server) → Fits s → ShowsOpens d.opens s → opens.OpenTells error (restore_refusal s n.id) × ShowsOpens o s)
    → (s : Server) → Fits s → DurableShown d s → restore_refusal s n.id ≡ None
    → OnOk out (DurableShown (record d { opens = o }) (restore s f action (Some (new_open n))))
turned_away_shown (Err x) error d o f action n told done s i h free = tt
turned_away_shown (Ok x) errors.Memory d o f action n told done s i h free = absurd (told refl)
turned_away_shown (Ok x) (errors.Status status) d o f action n told done s i h free =
    absurd (let k = (done s i h.opens).0 in let e = sym free ∙ k in cc)

-- ---- the whole record

pub may_stays : (s : Server) (action f : ℕ) (path : List ℕ) (attributes : ℕ) (is_dir : Bool) (time : ℕ) (n : Option NewOpen)
    → may_have_open s (opened n) ≡ true → may_have_open (created_file s action f path attributes is_dir time) (opened n) ≡ true
unfolding may_have_open
may_stays s action f path attributes is_dir time None h = refl
may_stays s action f path attributes is_dir time (Some n) h = created_free s action f path attributes is_dir time (new_open n) ∙ h

pub create_none : (d : Durable) (s : Server) (origin : Origin) (m : Made) (n : Option NewOpen) → may_have_open s (opened n) ≡ false
    → DurableShown d s → DurableShown d (with_record s (create_record origin m (opened n)))
create_none d s origin m n e h =
    off (λ (u : Server). DurableShown d u) (may_create s m.action m.file m.path.now && may_have_open s (opened n))
    (restore (created_file s m.action m.file m.path.now m.attributes m.directory m.time) m.file m.action (opened n)) s
    (second_off (may_create s m.action m.file m.path.now) (may_have_open s (opened n)) e) h

pub create_off : (d : Durable) (s : Server) (origin : Origin) (m : Made) (n : Option NewOpen) → false ≡ may_be_made s m
    → DurableShown d s → DurableShown d (with_record s (create_record origin m (opened n)))
create_off d s origin m n e h =
    off (λ (u : Server). DurableShown d u) (may_create s m.action m.file m.path.now && may_have_open s (opened n))
    (restore (created_file s m.action m.file m.path.now m.attributes m.directory m.time) m.file m.action (opened n)) s
    (first_off (may_create s m.action m.file m.path.now) (may_have_open s (opened n)) (sym e)) h

pub create_done : (d : Durable) (s : Server) (origin : Origin) (m : Made) (n : Option NewOpen) → true ≡ may_be_made s m
    → may_have_open s (opened n) ≡ true
    → DurableShown d (restore (created_file s m.action m.file m.path.now m.attributes m.directory m.time) m.file m.action (opened n))
    → DurableShown d (with_record s (create_record origin m (opened n)))
create_done d s origin m n e k h =
    on (λ (u : Server). DurableShown d u) (may_create s m.action m.file m.path.now && may_have_open s (opened n))
    (restore (created_file s m.action m.file m.path.now m.attributes m.directory m.time) m.file m.action (opened n)) s
    (both (may_create s m.action m.file m.path.now) (may_have_open s (opened n)) (sym e) k) h

pub free_some : (s : Server) (n : NewOpen) → may_have_open s (opened (Some n)) ≡ true → restore_refusal s n.id ≡ None
unfolding may_have_open
free_some s n h = free s (new_open n) h

-- ---- whether an open may be restored

restore_0 : (a b c d e f : Bool) → a ≡ false → false ≡ (a && (b && (c && (d && (e && f)))))
restore_0 a b c d e f h = sym (first_off a (b && (c && (d && (e && f)))) h)

restore_1 : (a b c d e f : Bool) → b ≡ false → false ≡ (a && (b && (c && (d && (e && f)))))
restore_1 a b c d e f h = sym (second_off a (b && (c && (d && (e && f)))) (first_off b (c && (d && (e && f))) h))

restore_2 : (a b c d e f : Bool) → c ≡ false → false ≡ (a && (b && (c && (d && (e && f)))))
restore_2 a b c d e f h = sym (second_off a (b && (c && (d && (e && f)))) (second_off b (c && (d && (e && f)))
    (first_off c (d && (e && f)) h)))

restore_3 : (a b c d e f : Bool) → d ≡ false → false ≡ (a && (b && (c && (d && (e && f)))))
restore_3 a b c d e f h = sym (second_off a (b && (c && (d && (e && f)))) (second_off b (c && (d && (e && f)))
    (second_off c (d && (e && f)) (first_off d (e && f) h))))

restore_4 : (a b c d e f : Bool) → e ≡ false → false ≡ (a && (b && (c && (d && (e && f)))))
restore_4 a b c d e f h = sym (second_off a (b && (c && (d && (e && f)))) (second_off b (c && (d && (e && f)))
    (second_off c (d && (e && f)) (second_off d (e && f) (first_off e f h)))))

restore_5 : (a b c d e f x : Bool) → a ≡ true → b ≡ true → c ≡ true → d ≡ true → e ≡ true → x ≡ f
    → x ≡ (a && (b && (c && (d && (e && f)))))
restore_5 true true true true true f x ha hb hc hd he h = h
restore_5 false b c d e f x ha hb hc hd he h = absurd (cc)
restore_5 true false c d e f x ha hb hc hd he h = absurd (cc)
restore_5 true true false d e f x ha hb hc hd he h = absurd (cc)
restore_5 true true true false e f x ha hb hc hd he h = absurd (cc)
restore_5 true true true true false f x ha hb hc hd he h = absurd (cc)

pub not_epoch : (s : Server) (n : model.NewOpen) → (n.id / 0x1_0000_0000 == s.epoch) ≡ false → false ≡ may_restore s n
unfolding may_restore
not_epoch s n h = restore_0 (n.id / 0x1_0000_0000 == s.epoch) (nat_lt 0 (n.id % 0x1_0000_0000)) (nat_lt s.open_ids_given max_ids)
    (not (s.standing n.id)) (not (is_some (s.by_guid n.client_guid n.create_guid))) (nat_lt (length s.opens) max_opens) h

pub not_counter : (s : Server) (n : model.NewOpen) → nat_lt 0 (n.id % 0x1_0000_0000) ≡ false → false ≡ may_restore s n
unfolding may_restore
not_counter s n h = restore_1 (n.id / 0x1_0000_0000 == s.epoch) (nat_lt 0 (n.id % 0x1_0000_0000)) (nat_lt s.open_ids_given max_ids)
    (not (s.standing n.id)) (not (is_some (s.by_guid n.client_guid n.create_guid))) (nat_lt (length s.opens) max_opens) h

pub not_left : (s : Server) (n : model.NewOpen) → nat_lt s.open_ids_given max_ids ≡ false → false ≡ may_restore s n
unfolding may_restore
not_left s n h = restore_2 (n.id / 0x1_0000_0000 == s.epoch) (nat_lt 0 (n.id % 0x1_0000_0000)) (nat_lt s.open_ids_given max_ids)
    (not (s.standing n.id)) (not (is_some (s.by_guid n.client_guid n.create_guid))) (nat_lt (length s.opens) max_opens) h

pub not_free : (s : Server) (n : model.NewOpen) → s.standing n.id ≡ true → false ≡ may_restore s n
unfolding may_restore
not_free s n h = restore_3 (n.id / 0x1_0000_0000 == s.epoch) (nat_lt 0 (n.id % 0x1_0000_0000)) (nat_lt s.open_ids_given max_ids)
    (not (s.standing n.id)) (not (is_some (s.by_guid n.client_guid n.create_guid))) (nat_lt (length s.opens) max_opens)
    (not_off (s.standing n.id) h)

pub not_own : (s : Server) (n : model.NewOpen) → is_some (s.by_guid n.client_guid n.create_guid) ≡ true → false ≡ may_restore s n
unfolding may_restore
not_own s n h = restore_4 (n.id / 0x1_0000_0000 == s.epoch) (nat_lt 0 (n.id % 0x1_0000_0000)) (nat_lt s.open_ids_given max_ids)
    (not (s.standing n.id)) (not (is_some (s.by_guid n.client_guid n.create_guid))) (nat_lt (length s.opens) max_opens)
    (not_off (is_some (s.by_guid n.client_guid n.create_guid)) h)

pub may_be : (s : Server) (n : model.NewOpen) (x : Bool) → (n.id / 0x1_0000_0000 == s.epoch) ≡ true → nat_lt 0 (n.id % 0x1_0000_0000) ≡ true
    → nat_lt s.open_ids_given max_ids ≡ true → s.standing n.id ≡ false → is_some (s.by_guid n.client_guid n.create_guid) ≡ false
    → x ≡ nat_lt (length s.opens) max_opens → x ≡ may_restore s n
unfolding may_restore
may_be s n x a b c d e h = restore_5 (n.id / 0x1_0000_0000 == s.epoch) (nat_lt 0 (n.id % 0x1_0000_0000)) (nat_lt s.open_ids_given max_ids)
    (not (s.standing n.id)) (not (is_some (s.by_guid n.client_guid n.create_guid))) (nat_lt (length s.opens) max_opens) x a b c
    (not_on (s.standing n.id) d) (not_on (is_some (s.by_guid n.client_guid n.create_guid)) e) h

pub ids_left : (given : ℕ) (id : ℕ) → is_some (if nat_le max_ids given then None else Some id) ≡ nat_lt given max_ids
ids_left given id = by (nat_le max_ids given) (nat_lt given max_ids) (grind (arith, nat_tests))
  where
    by : (b v : Bool) → v ≡ not b → is_some (if b then None else Some id) ≡ v
    by true v e = sym e
    by false v e = sym e
