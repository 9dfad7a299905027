-- An event that touches nothing by which a LOCK waits leaves it as it is.
use Rattle.std.proofs.Common.{◌≡◌, ℕ, suc, ◌<◌, ◌≤◌, ◌+◌, ◌==◌, ◌&&◌, ◌||◌, not, nat_lt, nat_le, Bool, true, false, if◌then◌else◌, List, [], ◌∷◌, ◌++◌, length, take, drop}
use Rattle.std.proofs.Common.{Option, Some, None, is_some, refl, sym, ap, subst, ◌∙◌, arith}
use Rattle.std.proofs.lemmas.Bool.Decides.{nat_tests}
use Rattle.std.specs.Prelude.{⊤}
use Rattle.spec_exchange.specs.Status.{success, access_denied, disk_full, end_of_file, file_closed, file_lock_conflict, file_not_available, info_length_mismatch, invalid_device_request}
use Rattle.spec_exchange.specs.Status.{invalid_parameter, object_name_not_found, user_session_deleted}
use Rattle.spec_exchange.specs.Table.{is_at, without}
use Rattle.spec_exchange.specs.Commands.{Command, Unreadable, Aside, Flush, Read, Write, Lock}
use Rattle.spec_exchange.specs.Commands.{deletes_on_close, Ioctl, ListDirectory, QueryFile, QueryVolume, SetInfo, Element, form, is_setup, no_file}
use Rattle.spec_exchange.specs.Commands.{Setting, SetBasic, Rename, SetDelete, SetAllocation, SetEnd, SetPosition, SetMode}
use Rattle.spec_exchange.specs.State.{Server, Message, ServerEvent, Heard, Range, Kept, Open, Tree, Empty, Answer, Content, Count, FileInfo, VolumeInfo, Interfaces, Named, Record}
use Rattle.spec_exchange.specs.Content.{is_empty}
use Rattle.spec_exchange.specs.Files.{allocated, info_of, is_directory, path_of, root, passes_room, set_basic, used, set_delete_pending, remove_file}
use Rattle.spec_exchange.specs.Opens.{drop_open, goes, is_kept_back, is_of_tree, leave_open, left_file, pending_behind}
use Rattle.spec_exchange.specs.Ranges.{RangeAnswer, Stands, Denied, change_ranges, count_owned, may_read, may_write, wraps}
use Rattle.spec_exchange.specs.Verdict.{Verdict, Refuse, Give, TurnDown, Tell, Show, KeepSlot, PutRanges, Alter}
use Rattle.spec_exchange.specs.Verdict.{Change, PutBytes, PutEnd}
use Rattle.spec_exchange.specs.Verdict.{PutBasic, PutDeletePending, PutPath, PutNothing}
use Rattle.spec_exchange.specs.CheckOpen.{bytes_change, file_of, flush_check, has_access, is_late, is_repeated, is_slot, kept_lock, kept_status, lock_check}
use Rattle.spec_exchange.specs.Listing.{all_named, file_info_size, fitting, one_or_all, volume_info_size, wanted}
use Rattle.spec_exchange.specs.CheckOpen.{allocation_change, basic_names, begins_at, delete_names, file_query_check, free_ioctl_check, get_object_id}
use Rattle.spec_exchange.specs.CheckOpen.{ioctl_body, ioctl_check, ioctl_status, list_check, list_from, listing_of, named_change, needs_attributes}
use Rattle.spec_exchange.specs.CheckOpen.{path_change, rename_names, set_check, setting_check, size_change, unless_repeated, volume_query_check}
use Rattle.spec_exchange.specs.CheckOpen.{range_check, read_check, slot_check, there, timely_write, turn_down_lock, write_check}
use Rattle.spec_exchange.specs.CheckSetup.{tree_in}
use Rattle.spec_exchange.specs.Check.{check, command_check, formed, has_session, in_tree, on_open, owed, tree_command}
use Rattle.spec_exchange.specs.Effects.{apply, change_file, keep_slot, reach, set_ranges}
use Rattle.spec_exchange.specs.Records.{fits, origin_at}
use Rattle.spec_exchange.specs.Step.{add_expired_guid, due, due_in, event_answer, expire, expire_records, expiring, is_past, max_expired_guids, step, with_deadlines, without_room, written_down}
use Rattle.law_waiting.specs.held.Exactly.{comes_to_ranges, is_countable, is_owed}
use Rattle.law_waiting.specs.held.Held.{awaited, first_in_the_way, held_by, is_not_granted, may_wait, wanted_range, would_wait}
use Rattle.law_waiting.specs.held.Untouched.{FilesStay, UntouchedStays, WaiterStands, is_mild, leaves_file, leaves_waiters}
use Rattle.law_waiting.proofs.held.Equally.{waits_exactly}

-- ---- what a LOCK by this open waits by

record Same (s t : Server) (o : ℕ) : Type 0 where
  session_on : t.session_on ≡ s.session_on
  trees : t.trees ≡ s.trees
  standing : t.standing o ≡ s.standing o
  session : t.session_of_open o ≡ s.session_of_open o
  tree : t.tree_of_open o ≡ s.tree_of_open o
  opened : t.opened ≡ s.opened
  slots : (i : ℕ) → t.lock_sequences o i ≡ s.lock_sequences o i
  directory : t.directory ≡ s.directory
  ranges : t.ranges (s.opened o).file ≡ s.ranges (s.opened o).file

abbrev kept_by : ℕ → ℕ → Option Kept → Option ℕ
kept_by index number k = if is_slot index then kept_status number k else None

abbrev waits_by : Message → ℕ → ℕ → ℕ → Element → (ℕ → Option ℕ) → (ℕ → List Tree) → Bool → Option ℕ → ℕ → Option Kept → Bool → List Range
    → Option Range
waits_by m o index number e session_on trees standing session tree slot directory rs =
    if (is_at m.session_id (session_on m.connection) && (not (is_some m.fault) && is_some (tree_in (trees m.session_id) m.tree_id)))
    && ((((standing && is_at m.session_id session) && (tree == m.tree_id)) && (not (is_some (kept_by index number slot)) && not directory))
    && (not (nat_lt 1024 (count_owned o rs + 1)) && not (wraps (wanted_range o e))))
    then first_in_the_way rs (wanted_range o e) else None

same_directory : (s t : Server) (f : ℕ) → t.directory ≡ s.directory → is_directory t f ≡ is_directory s f
unfolding is_directory
same_directory s t f h = ap (λ (d : ℕ → Bool). (f == root) || d f) h

by_columns : (s t : Server) (m : Message) (o index number : ℕ) (e : Element) → Same s t o
    → (if comes_to_ranges t m o index number e then first_in_the_way (t.ranges (file_of t o)) (wanted_range o e) else None)
    ≡ (if comes_to_ranges s m o index number e then first_in_the_way (s.ranges (file_of s o)) (wanted_range o e) else None)
by_columns s t m o index number e h =
    let W = waits_by m o index number e in let f : ℕ = (s.opened o).file in
    ap (λ (x : ℕ → Open). W t.session_on t.trees (t.standing o) (t.session_of_open o) (t.tree_of_open o) (t.lock_sequences o index)
    (is_directory t (x o).file) (t.ranges (x o).file)) h.opened
    ∙ ap (λ x. W x t.trees (t.standing o) (t.session_of_open o) (t.tree_of_open o) (t.lock_sequences o index) (is_directory t f) (t.ranges f)) h.session_on
    ∙ ap (λ x. W s.session_on x (t.standing o) (t.session_of_open o) (t.tree_of_open o) (t.lock_sequences o index) (is_directory t f) (t.ranges f)) h.trees
    ∙ ap (λ x. W s.session_on s.trees x (t.session_of_open o) (t.tree_of_open o) (t.lock_sequences o index) (is_directory t f) (t.ranges f)) h.standing
    ∙ ap (λ x. W s.session_on s.trees (s.standing o) x (t.tree_of_open o) (t.lock_sequences o index) (is_directory t f) (t.ranges f)) h.session
    ∙ ap (λ x. W s.session_on s.trees (s.standing o) (s.session_of_open o) x (t.lock_sequences o index) (is_directory t f) (t.ranges f)) h.tree
    ∙ ap (λ x. W s.session_on s.trees (s.standing o) (s.session_of_open o) (s.tree_of_open o) x (is_directory t f) (t.ranges f)) (h.slots index)
    ∙ ap (λ x. W s.session_on s.trees (s.standing o) (s.session_of_open o) (s.tree_of_open o) (s.lock_sequences o index) x (t.ranges f))
    (same_directory s t f h.directory)
    ∙ ap (λ x. W s.session_on s.trees (s.standing o) (s.session_of_open o) (s.tree_of_open o) (s.lock_sequences o index) (is_directory s f) x) h.ranges

both : (b : Bool) (x : Option Range) → (if b then x else x) ≡ x
both true x = refl
both false x = refl

nobody : (s : Server) (m : Message) → awaited m.command ≡ None → would_wait s m ≡ None
unfolding would_wait
nobody s m e = ap (λ a. if is_not_granted (check s m) then held_by s a else None) e ∙ both (is_not_granted (check s m)) None

flagged : (o : ℕ) (e : Element) (b : Bool) → b ≡ false → (if b then Some (wanted_range o e) else None) ≡ None
flagged o e true h = absurd (cc)
flagged o e false h = refl

by_flag : (s t : Server) (m : Message) (o index number : ℕ) (e : Element) → m.command ≡ Lock o index number (e ∷ []) → Same s t o
    → (b : Bool) → may_wait e.flags ≡ b → would_wait t m ≡ would_wait s m
by_flag s t m o index number e q h true f =
    waits_exactly t m o index number e q f ∙ by_columns s t m o index number e h ∙ sym (waits_exactly s m o index number e q f)
by_flag s t m o index number e q h false f =
    nobody t m (ap awaited q ∙ flagged o e (may_wait e.flags) f) ∙ sym (nobody s m (ap awaited q ∙ flagged o e (may_wait e.flags) f))

waits_so : (s t : Server) (m : Message) (o index number : ℕ) (es : List Element) → m.command ≡ Lock o index number es → Same s t o
    → would_wait t m ≡ would_wait s m
waits_so s t m o index number [] q h = nobody t m (ap awaited q) ∙ sym (nobody s m (ap awaited q))
waits_so s t m o index number (e ∷ []) q h = by_flag s t m o index number e q h (may_wait e.flags) refl
waits_so s t m o index number (e ∷ d ∷ es) q h = nobody t m (ap awaited q) ∙ sym (nobody s m (ap awaited q))

-- ---- effects

unmoved : (s : Server) (o : ℕ) → Same s s o
unmoved s o = record {
  session_on = refl;
  trees = refl;
  standing = refl;
  session = refl;
  tree = refl;
  opened = refl;
  slots = λ i. refl;
  directory = refl;
  ranges = refl;
}

same_if : (b : Bool) (s x y : Server) (o : ℕ) → Same s x o → Same s y o → Same s (if b then x else y) o
same_if true s x y o h g = h
same_if false s x y o h g = g

reached : (s : Server) (k : Message) (p o : ℕ) → Same s (reach s k p) o
reached s k p o =
    same_if (is_late s k p) s s (record s { sequence = λ q. if q == p then k.channel_sequence else s.sequence q }) o (unmoved s o)
    (record {
      session_on = refl;
      trees = refl;
      standing = refl;
      session = refl;
      tree = refl;
      opened = refl;
      slots = λ i. refl;
      directory = refl;
      ranges = refl;
    })

changed : (s u : Server) (f now : ℕ) (c : Change) (o : ℕ) → Same s u o → Same s (change_file u f now c) o
changed s u f now (PutBytes at bytes) o h = record {
  session_on = h.session_on;
  trees = h.trees;
  standing = h.standing;
  session = h.session;
  tree = h.tree;
  opened = h.opened;
  slots = h.slots;
  directory = h.directory;
  ranges = h.ranges;
}
changed s u f now (PutEnd size) o h = record {
  session_on = h.session_on;
  trees = h.trees;
  standing = h.standing;
  session = h.session;
  tree = h.tree;
  opened = h.opened;
  slots = h.slots;
  directory = h.directory;
  ranges = h.ranges;
}
changed s u f now (PutBasic basic) o h = record {
  session_on = h.session_on;
  trees = h.trees;
  standing = h.standing;
  session = h.session;
  tree = h.tree;
  opened = h.opened;
  slots = h.slots;
  directory = h.directory;
  ranges = h.ranges;
}
changed s u f now (PutDeletePending flag) o h = record {
  session_on = h.session_on;
  trees = h.trees;
  standing = h.standing;
  session = h.session;
  tree = h.tree;
  opened = h.opened;
  slots = h.slots;
  directory = h.directory;
  ranges = h.ranges;
}
changed s u f now (PutPath replaced path) o h = record {
  session_on = h.session_on;
  trees = h.trees;
  standing = h.standing;
  session = h.session;
  tree = h.tree;
  opened = h.opened;
  slots = h.slots;
  directory = h.directory;
  ranges = h.ranges;
}
changed s u f now PutNothing o h = h

-- another open
none_at : {X : Type 0} (a b : ℕ) (x y : X) → (a == b) ≡ false → (if a == b then x else y) ≡ y
none_at a b x y e = ap (λ (t : Bool). if t then x else y) e

slotted : (s u : Server) (p index number status o : ℕ) → (o == p) ≡ false → Same s u o → Same s (keep_slot u p index number status) o
slotted s u p index number status o e h =
    same_if (is_slot index) s (record u {
      lock_sequences = λ q r. if q == p then (if r == index then Some (record { number = number; status = status }) else u.lock_sequences q r)
          else u.lock_sequences q r;
    }) u o
    (record {
      session_on = h.session_on;
      trees = h.trees;
      standing = h.standing;
      session = h.session;
      tree = h.tree;
      opened = h.opened;
      slots = λ i.
          none_at o p (if i == index then Some (record { number = number; status = status }) else u.lock_sequences o i) (u.lock_sequences o i) e
          ∙ h.slots i;
      directory = h.directory;
      ranges = h.ranges;
    }) h

ranged : (s u : Server) (f : ℕ) (rs : List Range) (o : ℕ) → ((s.opened o).file == f) ≡ false → Same s u o → Same s (set_ranges u f rs) o
ranged s u f rs o e h = record {
  session_on = h.session_on;
  trees = h.trees;
  standing = h.standing;
  session = h.session;
  tree = h.tree;
  opened = h.opened;
  slots = h.slots;
  directory = h.directory;
  ranges = none_at (s.opened o).file f rs (u.ranges (s.opened o).file) e ∙ h.ranges;
}

-- ---- verdicts

-- it takes no open away, and ranges only by an open of which this holds
abbrev Harmless : (ℕ → Type 0) → Verdict → Type 0
Harmless locks (Refuse status) = ⊤
Harmless locks (Give body) = ⊤
Harmless locks (TurnDown p status) = ⊤
Harmless locks (Tell p body) = ⊤
Harmless locks (Show p place body) = ⊤
Harmless locks (Alter p change body) = ⊤
Harmless locks (KeepSlot p index number status elements) = locks p
Harmless locks (PutRanges p index number ranges elements) = locks p
Harmless locks _ = ⊥

-- an open of another file than this one's
abbrev Elsewhere : Server → ℕ → ℕ → Type 0
Elsewhere s o p = ((s.opened o).file == (s.opened p).file) ≡ false

same_number : (n : ℕ) → (n == n) ≡ true
same_number n = search (arith, nat_tests)

other_open : (s : Server) (o p : ℕ) → Elsewhere s o p → (o == p) ≡ false
other_open s o p e = by (o == p) refl
  where
    by : (b : Bool) → (o == p) ≡ b → (o == p) ≡ false
    by true q =
        let r : o ≡ p = grind (arith, nat_tests) in
        let P : ℕ → Type 0 = λ x. ((s.opened o).file == (s.opened x).file) ≡ false in
        let f : ((s.opened o).file == (s.opened o).file) ≡ false = subst P (sym r) e in
        absurd (let g : true ≡ false = sym (same_number (s.opened o).file) ∙ f in cc)
    by false q = q

applied : (s : Server) (k : Message) (now o : ℕ) (v : Verdict) → Harmless (Elsewhere s o) v → Same s (apply s k now v).server o
applied s k now o (Refuse status) h = unmoved s o
applied s k now o (Give body) h = unmoved s o
applied s k now o (TurnDown p status) h = reached s k p o
applied s k now o (Tell p body) h = reached s k p o
applied s k now o (Show p place body) h = let g = reached s k p o in record {
  session_on = g.session_on;
  trees = g.trees;
  standing = g.standing;
  session = g.session;
  tree = g.tree;
  opened = g.opened;
  slots = g.slots;
  directory = g.directory;
  ranges = g.ranges;
}
applied s k now o (Alter p change body) h = changed s (reach s k p) (file_of s p) now change o (reached s k p o)
applied s k now o (KeepSlot p index number status elements) h = slotted s (reach s k p) p index number status o (other_open s o p h) (reached s k p o)
applied s k now o (PutRanges p index number ranges elements) h =
    slotted s (set_ranges (reach s k p) (file_of s p) ranges) p index number success o (other_open s o p h)
    (ranged s (reach s k p) (file_of s p) ranges o h (reached s k p o))
applied s k now o _ h = absurd h

roomless : (locks : ℕ → Type 0) (v : Verdict) → Harmless locks v → Harmless locks (without_room v)
roomless locks (Refuse status) h = tt
roomless locks (Give body) h = tt
roomless locks (TurnDown p status) h = tt
roomless locks (Tell p body) h = tt
roomless locks (Show p place body) h = tt
roomless locks (Alter p change body) h = tt
roomless locks (KeepSlot p index number status elements) h = tt
roomless locks (PutRanges p index number ranges elements) h = tt
roomless locks _ h = absurd h

-- ---- how many opens stand

reach_keeps : (s : Server) (k : Message) (p : ℕ) → (reach s k p).opens ≡ s.opens
reach_keeps s k p = by (is_late s k p)
  where
    by : (b : Bool) → (if b then s else record s { sequence = λ q. if q == p then k.channel_sequence else s.sequence q }).opens ≡ s.opens
    by true = refl
    by false = refl

change_keeps : (u : Server) (f now : ℕ) (c : Change) → (change_file u f now c).opens ≡ u.opens
change_keeps u f now (PutBytes at bytes) = refl
change_keeps u f now (PutEnd size) = refl
change_keeps u f now (PutBasic basic) = refl
change_keeps u f now (PutDeletePending flag) = refl
change_keeps u f now (PutPath replaced path) = refl
change_keeps u f now PutNothing = refl

slot_keeps : (u : Server) (p index number status : ℕ) → (keep_slot u p index number status).opens ≡ u.opens
slot_keeps u p index number status = by (is_slot index)
  where
    by : (b : Bool) → (if b then record u {
      lock_sequences = λ q r. if q == p then (if r == index then Some (record { number = number; status = status }) else u.lock_sequences q r)
          else u.lock_sequences q r;
    } else u).opens ≡ u.opens
    by true = refl
    by false = refl

opens_keep : (locks : ℕ → Type 0) (s : Server) (k : Message) (now : ℕ) (v : Verdict) → Harmless locks v → (apply s k now v).server.opens ≡ s.opens
opens_keep locks s k now (Refuse status) h = refl
opens_keep locks s k now (Give body) h = refl
opens_keep locks s k now (TurnDown p status) h = reach_keeps s k p
opens_keep locks s k now (Tell p body) h = reach_keeps s k p
opens_keep locks s k now (Show p place body) h = reach_keeps s k p
opens_keep locks s k now (Alter p change body) h = change_keeps (reach s k p) (file_of s p) now change ∙ reach_keeps s k p
opens_keep locks s k now (KeepSlot p index number status elements) h = slot_keeps (reach s k p) p index number status ∙ reach_keeps s k p
opens_keep locks s k now (PutRanges p index number ranges elements) h =
    slot_keeps (set_ranges (reach s k p) (file_of s p) ranges) p index number success ∙ reach_keeps s k p
opens_keep locks s k now _ h = absurd h

-- ---- checks

either : (locks : ℕ → Type 0) (b : Bool) (v w : Verdict) → Harmless locks v → Harmless locks w → Harmless locks (if b then v else w)
either locks true v w h g = h
either locks false v w h g = g

-- the command takes no open away, and ranges only by such an open
abbrev Allows : (ℕ → Type 0) → Command → Type 0
Allows locks (Unreadable status) = ⊤
Allows locks (Aside status) = ⊤
Allows locks (Flush p) = ⊤
Allows locks (Read p at size minimum channel) = ⊤
Allows locks (Write p at bytes channel) = ⊤
Allows locks (Ioctl p code room) = ⊤
Allows locks (ListDirectory p class restart single pattern room) = ⊤
Allows locks (QueryFile p class room) = ⊤
Allows locks (QueryVolume p class room) = ⊤
Allows locks (SetInfo p setting) = ⊤
Allows locks (Lock p index number es) = locks p
Allows locks _ = ⊥

module _ (locks : ℕ → Type 0) (s : Server) (m : Message) where
  abbrev Fine : Verdict → Type 0
  Fine v = Harmless locks v

  reads_fine : (p at size minimum : ℕ) → Fine (read_check s p at size minimum)
  reads_fine p at size minimum =
      let g : ℕ = file_of s p in
      let last : Verdict = Tell p (Content (take size (drop at (s.content g)))) in
      let less : Verdict = if nat_lt (there s g at size) minimum then TurnDown p end_of_file else last in
      let past : Verdict = if not (size == 0) && not (nat_lt at (length (s.content g))) then TurnDown p end_of_file else less in
      let locked : Verdict = if not (may_read (s.ranges g) p at size) then TurnDown p file_lock_conflict else past in
      let kind : Verdict = if is_directory s g then TurnDown p invalid_device_request else locked in
      either locks (not (has_access s p 0x1 || has_access s p 0x20)) (TurnDown p access_denied) kind tt
      (either locks (is_directory s g) (TurnDown p invalid_device_request) locked tt
      (either locks (not (may_read (s.ranges g) p at size)) (TurnDown p file_lock_conflict) past tt
      (either locks (not (size == 0) && not (nat_lt at (length (s.content g)))) (TurnDown p end_of_file) less tt
      (either locks (nat_lt (there s g at size) minimum) (TurnDown p end_of_file) last tt tt))))

  writes_fine : (p at : ℕ) (bytes : List ℕ) → Fine (write_check s m p at bytes)
  writes_fine p at bytes =
      let g : ℕ = file_of s p in
      let last : Verdict = Alter p (bytes_change at bytes) (Count (length bytes)) in
      let full : Verdict = if not (is_empty bytes) && passes_room s g (at + length bytes) then TurnDown p disk_full else last in
      let locked : Verdict = if not (may_write (s.ranges g) p at (length bytes)) then TurnDown p file_lock_conflict else full in
      let again : Verdict = if is_repeated s m p (bytes_change at bytes) then Tell p (Count (length bytes)) else locked in
      let kind : Verdict = if is_directory s g then TurnDown p invalid_device_request else again in
      either locks (is_late s m p) (Refuse file_not_available) (timely_write s m p at bytes) tt
      (either locks (not (has_access s p 0x2)) (TurnDown p access_denied) kind tt
      (either locks (is_directory s g) (TurnDown p invalid_device_request) again tt
      (either locks (is_repeated s m p (bytes_change at bytes)) (Tell p (Count (length bytes))) locked tt
      (either locks (not (may_write (s.ranges g) p at (length bytes))) (TurnDown p file_lock_conflict) full tt
      (either locks (not (is_empty bytes) && passes_room s g (at + length bytes)) (TurnDown p disk_full) last tt tt)))))

  names_fine : (p : ℕ) (c : Change) (x : Option ℕ) → Fine (named_change p c x)
  names_fine p c (Some status) = tt
  names_fine p c None = tt

  sizes_fine : (p size : ℕ) (c : Change) → Fine (size_change s m p size c)
  sizes_fine p size c =
      let g : ℕ = file_of s p in
      let full : Verdict = if passes_room s g size then TurnDown p disk_full else Alter p c Empty in
      let again : Verdict = if is_repeated s m p c then Tell p Empty else full in
      let kind : Verdict = if is_directory s g then TurnDown p invalid_device_request else again in
      either locks (not (has_access s p 0x2)) (TurnDown p access_denied) kind tt
      (either locks (is_directory s g) (TurnDown p invalid_device_request) again tt
      (either locks (is_repeated s m p c) (Tell p Empty) full tt
      (either locks (passes_room s g size) (TurnDown p disk_full) (Alter p c Empty) tt tt)))

  named_fine : (p bit : ℕ) (c : Change) (x : Option ℕ)
      → Fine (if has_access s p bit then unless_repeated s m p c (named_change p c x) else TurnDown p access_denied)
  named_fine p bit c x =
      either locks (has_access s p bit) (unless_repeated s m p c (named_change p c x)) (TurnDown p access_denied)
      (either locks (is_repeated s m p c) (Tell p Empty) (named_change p c x) tt (names_fine p c x)) tt

  settings_fine : (p : ℕ) (x : Setting) → Fine (setting_check s m p x)
  settings_fine p (SetBasic basic) =
      named_fine p 0x100 (PutBasic (set_basic (s.basic (file_of s p)) basic)) (basic_names s (file_of s p) basic)
  settings_fine p (Rename replace path) = named_fine p 0x1_0000 (path_change s p path) (rename_names s (file_of s p) replace path)
  settings_fine p (SetDelete flag) = named_fine p 0x1_0000 (PutDeletePending flag) (delete_names s (file_of s p) flag)
  settings_fine p (SetAllocation size) =
      sizes_fine p (allocated size (length (s.content (file_of s p)))) (allocation_change s (file_of s p) size)
  settings_fine p (SetEnd size) = sizes_fine p size (PutEnd size)
  settings_fine p (SetPosition position) = tt
  settings_fine p SetMode = tt

  files_fine : (p class room : ℕ) → Fine (file_query_check s p class room)
  files_fine p class room =
      let last : Verdict = Tell p (FileInfo class (path_of s (file_of s p)) (info_of s (file_of s p)) (s.opened p).access (s.opened p).options
      (s.current_byte_offset p)) in
      let short : Verdict = if nat_lt room (file_info_size class (is_directory s (file_of s p)) (path_of s (file_of s p)))
      then TurnDown p info_length_mismatch else last in
      let named : Verdict = if class == 21 then TurnDown p object_name_not_found else short in
      either locks (needs_attributes class && not (has_access s p 0x80)) (TurnDown p access_denied) named tt
      (either locks (class == 21) (TurnDown p object_name_not_found) short tt
      (either locks (nat_lt room (file_info_size class (is_directory s (file_of s p)) (path_of s (file_of s p)))) (TurnDown p info_length_mismatch) last
      tt tt))

  listings_fine : (p class : ℕ) (last : Option (List ℕ)) (all fit : List Named) → Fine (listing_of p class last all fit)
  unfolding listing_of
  listings_fine p class last [] fit = tt
  listings_fine p class last (n ∷ ns) [] = tt
  listings_fine p class last (n ∷ ns) (k ∷ ks) = tt

  lists_fine : (p class : ℕ) (restart single : Bool) (pattern : List ℕ) (room : ℕ) → Fine (list_check s p class restart single pattern room)
  lists_fine p class restart single pattern room =
      let last : Option (List ℕ) = begins_at restart (s.enumeration_location p) in
      let all : List Named = wanted last pattern (all_named s (file_of s p)) in
      let rest : Verdict = list_from s p class single pattern room last in
      either locks (not (has_access s p 0x1)) (TurnDown p access_denied)
      (if not (is_directory s (file_of s p)) then TurnDown p invalid_parameter else rest) tt
      (either locks (not (is_directory s (file_of s p))) (TurnDown p invalid_parameter) rest tt
      (listings_fine p class last all (one_or_all single (fitting class room 0 all))))

  controls_fine : (p code room : ℕ) → Fine (ioctl_check s m p code room)
  controls_fine p code room =
      let last : Verdict = if ioctl_status code room == success then Tell p (ioctl_body s p code) else TurnDown p (ioctl_status code room) in
      either locks (is_late s m p) (Refuse file_not_available) last tt
      (either locks (ioctl_status code room == success) (Tell p (ioctl_body s p code)) (TurnDown p (ioctl_status code room)) tt tt)

  free_controls_fine : (code room : ℕ) → Fine (free_ioctl_check s code room)
  free_controls_fine code room =
      let last : Verdict = if ioctl_status code room == success then Give (Interfaces s.address) else Refuse (ioctl_status code room) in
      either locks (code == get_object_id) (Refuse file_closed) last tt
      (either locks (ioctl_status code room == success) (Give (Interfaces s.address)) (Refuse (ioctl_status code room)) tt tt)

  turned : (p index number status : ℕ) (es : List Element) → locks p → Fine (turn_down_lock p index number es status)
  turned p index number status es h = either locks (is_slot index) (KeepSlot p index number status es) (TurnDown p status) h tt

  ranges_fine : (p index number : ℕ) (es : List Element) (a : RangeAnswer) → locks p
      → Fine (range_check p index number es a)
  ranges_fine p index number es (Denied status) h = turned p index number status es h
  ranges_fine p index number es (Stands ranges) h = h

  slots_fine : (p index number : ℕ) (es : List Element) (k : Option ℕ) → locks p → Fine (slot_check s p index number es k)
  slots_fine p index number es (Some status) h = either locks (status == success) (Give Empty) (Refuse status) tt tt
  slots_fine p index number es None h =
      either locks (is_directory s (file_of s p)) (turn_down_lock p index number es invalid_device_request)
      (range_check p index number es (change_ranges (s.ranges (file_of s p)) p es)) (turned p index number invalid_device_request es h)
      (ranges_fine p index number es (change_ranges (s.ranges (file_of s p)) p es) h)

  on_its_open : (p : ℕ) (v : Verdict) → Fine v → Fine (on_open s m p v)
  on_its_open p v h = either locks (is_of_tree s p m.session_id m.tree_id) v (Refuse file_closed) h tt

  in_tree_fine : (pipes : Bool) (c : Command) → Allows locks c → Fine (tree_command s m pipes c)
  in_tree_fine pipes (Unreadable status) h = tt
  in_tree_fine pipes (Aside status) h = tt
  in_tree_fine pipes (Flush p) h =
      on_its_open p (flush_check s p) (either locks (has_access s p 0x2 || has_access s p 0x4) (Tell p Empty) (TurnDown p access_denied) tt tt)
  in_tree_fine pipes (Read p at size minimum channel) h = on_its_open p (read_check s p at size minimum) (reads_fine p at size minimum)
  in_tree_fine pipes (Write p at bytes channel) h = on_its_open p (write_check s m p at bytes) (writes_fine p at bytes)
  in_tree_fine pipes (Ioctl p code room) h =
      either locks (p == no_file) (free_ioctl_check s code room) (on_open s m p (ioctl_check s m p code room)) (free_controls_fine code room)
      (on_its_open p (ioctl_check s m p code room) (controls_fine p code room))
  in_tree_fine pipes (ListDirectory p class restart single pattern room) h =
      on_its_open p (list_check s p class restart single pattern room) (lists_fine p class restart single pattern room)
  in_tree_fine pipes (QueryFile p class room) h = on_its_open p (file_query_check s p class room) (files_fine p class room)
  in_tree_fine pipes (QueryVolume p class room) h =
      on_its_open p (volume_query_check s p class room)
      (either locks (nat_lt room (volume_info_size class)) (TurnDown p info_length_mismatch) (Tell p (VolumeInfo class s.room (used s))) tt tt)
  in_tree_fine pipes (SetInfo p setting) h =
      on_its_open p (set_check s m p setting)
      (either locks (is_late s m p) (Refuse file_not_available) (setting_check s m p setting) tt (settings_fine p setting))
  in_tree_fine pipes (Lock p index number es) h =
      on_its_open p (lock_check s p index number es) (slots_fine p index number es (kept_lock s p index number) h)
  in_tree_fine pipes _ h = absurd h

  with_its_tree : (t : Option Bool) → Allows locks m.command → Fine (in_tree s m t)
  with_its_tree None h = tt
  with_its_tree (Some pipes) h = in_tree_fine pipes m.command h

  by_command : (c : Command) → m.command ≡ c → Allows locks c → Fine (command_check s m c)
  by_command (Unreadable status) e h = tt
  by_command (Aside status) e h = tt
  by_command (Flush p) e h = with_its_tree (tree_in (s.trees m.session_id) m.tree_id) (let P : Command → Type 0 = Allows locks in subst P (sym e) h)
  by_command (Read p at size minimum channel) e h = with_its_tree (tree_in (s.trees m.session_id) m.tree_id) (let P : Command → Type 0 = Allows locks in subst P (sym e) h)
  by_command (Write p at bytes channel) e h = with_its_tree (tree_in (s.trees m.session_id) m.tree_id) (let P : Command → Type 0 = Allows locks in subst P (sym e) h)
  by_command (Ioctl p code room) e h = with_its_tree (tree_in (s.trees m.session_id) m.tree_id) (let P : Command → Type 0 = Allows locks in subst P (sym e) h)
  by_command (ListDirectory p class restart single pattern room) e h = with_its_tree (tree_in (s.trees m.session_id) m.tree_id) (let P : Command → Type 0 = Allows locks in subst P (sym e) h)
  by_command (QueryFile p class room) e h = with_its_tree (tree_in (s.trees m.session_id) m.tree_id) (let P : Command → Type 0 = Allows locks in subst P (sym e) h)
  by_command (QueryVolume p class room) e h = with_its_tree (tree_in (s.trees m.session_id) m.tree_id) (let P : Command → Type 0 = Allows locks in subst P (sym e) h)
  by_command (SetInfo p setting) e h = with_its_tree (tree_in (s.trees m.session_id) m.tree_id) (let P : Command → Type 0 = Allows locks in subst P (sym e) h)
  by_command (Lock p index number es) e h = with_its_tree (tree_in (s.trees m.session_id) m.tree_id) (let P : Command → Type 0 = Allows locks in subst P (sym e) h)
  by_command _ e h = absurd h

  by_form : (x : Option ℕ) → Allows locks m.command → Fine (formed s m x)
  by_form (Some status) h = tt
  by_form None h = by_command m.command refl h

  by_fault : (x : Option ℕ) → Allows locks m.command → Fine (owed s m x)
  by_fault (Some status) h = tt
  by_fault None h = by_form (form m.command) h

  checked : Allows locks m.command → Fine (check s m)
  checked h = either locks (is_setup m.command || has_session s m) (owed s m m.fault) (Refuse user_session_deleted) (by_fault m.fault h) tt

-- ---- the event

answer_if : (b : Bool) (s : Server) (A B : Answer) (o : ℕ) → Same s A.server o → Same s B.server o → Same s (if b then A else B).server o
answer_if true s A B o h g = h
answer_if false s A B o h g = g

written : (s : Server) (A : Answer) (o : ℕ) → Same s A.server o → Same s (written_down A).server o
written s A o h = record {
  session_on = h.session_on;
  trees = h.trees;
  standing = h.standing;
  session = h.session;
  tree = h.tree;
  opened = h.opened;
  slots = h.slots;
  directory = h.directory;
  ranges = h.ranges;
}

dated : (s t : Server) (now o : ℕ) → Same (with_deadlines s now) t o → Same s t o
dated s t now o h = record {
  session_on = h.session_on;
  trees = h.trees;
  standing = h.standing;
  session = h.session;
  tree = h.tree;
  opened = h.opened;
  slots = h.slots;
  directory = h.directory;
  ranges = h.ranges;
}

others : (b : Bool) → not b ≡ true → b ≡ false
others true h = absurd (cc)
others false h = refl

allowed : (s : Server) (o : ℕ) (c : Command) → leaves_file s (s.opened o).file c ≡ true → Allows (Elsewhere s o) c
allowed s o (Unreadable status) h = tt
allowed s o (Aside status) h = tt
allowed s o (Flush p) h = tt
allowed s o (Read p at size minimum channel) h = tt
allowed s o (Write p at bytes channel) h = tt
allowed s o (Ioctl p code room) h = tt
allowed s o (ListDirectory p class restart single pattern room) h = tt
allowed s o (QueryFile p class room) h = tt
allowed s o (QueryVolume p class room) h = tt
allowed s o (SetInfo p setting) h = tt
allowed s o (Lock p index number es) h = others ((s.opened o).file == (s.opened p).file) h
allowed s o _ h = absurd (cc)

abbrev Any : ℕ → Type 0
Any p = ⊤

allowed_all : (locks : ℕ → Type 0) (c : Command) → Allows locks c → Allows Any c
allowed_all locks (Unreadable status) h = tt
allowed_all locks (Aside status) h = tt
allowed_all locks (Flush p) h = tt
allowed_all locks (Read p at size minimum channel) h = tt
allowed_all locks (Write p at bytes channel) h = tt
allowed_all locks (Ioctl p code room) h = tt
allowed_all locks (ListDirectory p class restart single pattern room) h = tt
allowed_all locks (QueryFile p class room) h = tt
allowed_all locks (QueryVolume p class room) h = tt
allowed_all locks (SetInfo p setting) h = tt
allowed_all locks (Lock p index number es) h = tt
allowed_all locks _ h = absurd h

answered : (s : Server) (now o : ℕ) (k : Message) → Allows (Elsewhere s o) k.command → Same s (event_answer s now (Heard k)).server o
answered s now o k h =
    let g = checked (Elsewhere s o) s k h in
    answer_if (fits s (apply s k now (check s k)).records) s (apply s k now (check s k)) (apply s k now (without_room (check s k))) o
    (applied s k now o (check s k) g) (applied s k now o (without_room (check s k)) (roomless (Elsewhere s o) (check s k) g))

-- ---- an open that expires is missed

fewer_by : (b : Bool) (x : ℕ) (os ws : List ℕ) → length ws ≤ length os → length (if b then ws else x ∷ ws) ≤ suc (length os)
fewer_by true x os ws h = omega (arith, h)
fewer_by false x os ws h = omega (arith, h)

shorter : (o : ℕ) (os : List ℕ) → length (without o os) ≤ length os
shorter o [] = omega arith
shorter o (x ∷ os) = fewer_by (x == o) x os (without o os) (shorter o os)

short_by : (b : Bool) (x : ℕ) (os ws : List ℕ) → length ws < length os → length (if b then ws else x ∷ ws) < suc (length os)
short_by true x os ws h = omega (arith, h)
short_by false x os ws h = omega (arith, h)

first_out : (x o : ℕ) (os : List ℕ) → x ≡ o → length (if x == o then without o os else x ∷ without o os) < suc (length os)
first_out x o os e =
    let t : (x == o) ≡ true = ap (λ n. x == n) (sym e) ∙ same_number x in
    let P : Bool → Type 0 = λ b. length (if b then without o os else x ∷ without o os) < suc (length os) in
    subst P (sym t) (let h = shorter o os in omega (arith, h))

out_by : (b : Bool) (x o : ℕ) (os : List ℕ) (rest : Option ℕ) → (if b then Some x else rest) ≡ Some o
    → (rest ≡ Some o → length (without o os) < length os) → length (if x == o then without o os else x ∷ without o os) < suc (length os)
out_by true x o os rest e h = first_out x o os (let q : Some x ≡ Some o = e in cc)
out_by false x o os rest e h = short_by (x == o) x os (without o os) (h e)

out_of : (deadline : ℕ → Option ℕ) (os : List ℕ) (now o : ℕ) → due_in deadline os now ≡ Some o → length (without o os) < length os
unfolding due_in
out_of deadline [] now o e = absurd (cc)
out_of deadline (x ∷ os) now o e = out_by (is_past now (deadline x)) x o os (due_in deadline os now) e (out_of deadline os now o)

left_opens : (u : Server) (f : ℕ) → (left_file u f).opens ≡ u.opens
left_opens u f = by (is_kept_back u f) (goes u f)
  where
    by : (b c : Bool) → (if b then set_delete_pending u f false else if c then remove_file u f else u).opens ≡ u.opens
    by true c = refl
    by false true = refl
    by false false = refl

pending_opens : (s : Server) (o : ℕ) → (pending_behind s o).opens ≡ s.opens
pending_opens s o = by (deletes_on_close (s.opened o).options)
  where
    by : (b : Bool) → (if b then set_delete_pending s (s.opened o).file true else s).opens ≡ s.opens
    by true = refl
    by false = refl

guid_opens : (u : Server) (client : ℕ) (g : Option ℕ) → (add_expired_guid u client g).opens ≡ u.opens
guid_opens u client None = refl
guid_opens u client (Some g) = refl

expired_opens : (s : Server) (o : ℕ) → (expire s o).opens ≡ without o s.opens
expired_opens s o =
    guid_opens (leave_open s o) (s.opened o).client_guid (s.opened o).create_guid
    ∙ left_opens (drop_open (pending_behind s o) o) (s.opened o).file ∙ ap (without o) (pending_opens s o)

opened_reach : (s : Server) (k : Message) (p : ℕ) → (reach s k p).opened ≡ s.opened
opened_reach s k p = by (is_late s k p)
  where
    by : (b : Bool) → (if b then s else record s { sequence = λ q. if q == p then k.channel_sequence else s.sequence q }).opened ≡ s.opened
    by true = refl
    by false = refl

opened_change : (u : Server) (f now : ℕ) (c : Change) → (change_file u f now c).opened ≡ u.opened
opened_change u f now (PutBytes at bytes) = refl
opened_change u f now (PutEnd size) = refl
opened_change u f now (PutBasic basic) = refl
opened_change u f now (PutDeletePending flag) = refl
opened_change u f now (PutPath replaced path) = refl
opened_change u f now PutNothing = refl

opened_slot : (u : Server) (p index number status : ℕ) → (keep_slot u p index number status).opened ≡ u.opened
opened_slot u p index number status = by (is_slot index)
  where
    by : (b : Bool) → (if b then record u {
      lock_sequences = λ q r. if q == p then (if r == index then Some (record { number = number; status = status }) else u.lock_sequences q r)
          else u.lock_sequences q r;
    } else u).opened ≡ u.opened
    by true = refl
    by false = refl

opened_keep : (locks : ℕ → Type 0) (s : Server) (k : Message) (now : ℕ) (v : Verdict) → Harmless locks v → (apply s k now v).server.opened ≡ s.opened
opened_keep locks s k now (Refuse status) h = refl
opened_keep locks s k now (Give body) h = refl
opened_keep locks s k now (TurnDown p status) h = opened_reach s k p
opened_keep locks s k now (Tell p body) h = opened_reach s k p
opened_keep locks s k now (Show p place body) h = opened_reach s k p
opened_keep locks s k now (Alter p change body) h = opened_change (reach s k p) (file_of s p) now change ∙ opened_reach s k p
opened_keep locks s k now (KeepSlot p index number status elements) h = opened_slot (reach s k p) p index number status ∙ opened_reach s k p
opened_keep locks s k now (PutRanges p index number ranges elements) h =
    opened_slot (set_ranges (reach s k p) (file_of s p) ranges) p index number success ∙ opened_reach s k p
opened_keep locks s k now _ h = absurd h

opened_if : (b : Bool) (s : Server) (A B : Answer) → A.server.opened ≡ s.opened → B.server.opened ≡ s.opened
    → (if b then A else B).server.opened ≡ s.opened
opened_if true s A B h g = h
opened_if false s A B h g = g

opened_answer : (s : Server) (now : ℕ) (k : Message) → Allows Any k.command → (event_answer s now (Heard k)).server.opened ≡ s.opened
opened_answer s now k h =
    let g = checked Any s k h in
    opened_if (fits s (apply s k now (check s k)).records) s (apply s k now (check s k)) (apply s k now (without_room (check s k)))
    (opened_keep Any s k now (check s k) g) (opened_keep Any s k now (without_room (check s k)) (roomless Any (check s k) g))

-- what holds behind the event alone holds behind it, since none expires
module _ (R : Server → Type 0) (s : Server) (now : ℕ) (k : Message) (h : Allows Any k.command)
    (alone : R (written_down (event_answer (with_deadlines s now) now (Heard k))).server) where
  abbrev u : Server
  u = with_deadlines s now

  abbrev Goal : Answer → Type 0
  Goal A = length (written_down A).server.opens ≡ length s.opens → R (written_down A).server

  behind_one : (p : ℕ) → due u now ≡ Some p → (records : List Record)
      → Goal (record (apply (expire u p) k now (check (expire u p) k)) { records = records })
  behind_one p e records q =
      let fewer : length (without p s.opens) < length s.opens = out_of u.deadline s.opens now p e in
      let same : (apply (expire u p) k now (check (expire u p) k)).server.opens ≡ without p s.opens =
      opens_keep Any (expire u p) k now (check (expire u p) k) (checked Any (expire u p) k h) ∙ expired_opens u p in
      let r : length (without p s.opens) ≡ length s.opens = sym (ap length same) ∙ q in absurd (omega (arith, fewer, r))

  by_two : (b c : Bool) (A : Answer) → Goal A → Goal (if b then event_answer u now (Heard k) else if c then A else event_answer u now (Heard k))
  by_two true c A g = λ q. alone
  by_two false true A g = g
  by_two false false A g = λ q. alone

  by_due : (x : Option ℕ) → due u now ≡ x → Goal (expiring u now (Heard k) x)
  by_due None e = λ q. alone
  by_due (Some p) e =
      let A : Answer = apply (expire u p) k now (check (expire u p) k) in
      let all : List Record = expire_records u (origin_at k.connection) p ++ A.records in
      by_two (nat_le max_expired_guids u.expired_count) (fits u all) (record A { records = all }) (behind_one p e all)

stepped : (s : Server) (now : ℕ) (e : ServerEvent) (o : ℕ) → length (step s now e).server.opens ≡ length s.opens
    → leaves_waiters s (s.opened o).file e ≡ true → Same s (step s now e).server o
stepped s now (Heard k) o d h =
    let u : Server = with_deadlines s now in let a : Allows (Elsewhere s o) k.command = allowed s o k.command h in
    let P : Server → Type 0 = λ t. Same s t o in
    by_due P s now k (allowed_all (Elsewhere s o) k.command a)
    (written s (event_answer u now (Heard k)) o (dated s (event_answer u now (Heard k)).server now o (answered u now o k a)))
    (due u now) refl d
stepped s now _ o d h = absurd (cc)

mild : (c : Command) → is_mild c ≡ true → Allows Any c
mild (Unreadable status) h = tt
mild (Aside status) h = tt
mild (Flush p) h = tt
mild (Read p at size minimum channel) h = tt
mild (Write p at bytes channel) h = tt
mild (Ioctl p code room) h = tt
mild (ListDirectory p class restart single pattern room) h = tt
mild (QueryFile p class room) h = tt
mild (QueryVolume p class room) h = tt
mild (SetInfo p setting) h = tt
mild (Lock p index number es) h = tt
mild _ h = absurd (cc)

pub files_stay : FilesStay
files_stay s now k d h =
    let P : Server → Type 0 = λ t. t.opened ≡ s.opened in let u : Server = with_deadlines s now in
    by_due P s now k (mild k.command h) (opened_answer u now k (mild k.command h)) (due u now) refl d

pub untouched_stays : UntouchedStays
untouched_stays s now e m o index number es q d h =
    let g : Same s (step s now e).server o = stepped s now e o d h in
    record { held = waits_so s (step s now e).server m o index number es q g; file = ap (λ (x : ℕ → Open). (x o).file) g.opened }

-- ---- one that waits has its open

chosen_so : (b : Bool) (x : Option Range) → is_some (if b then x else None) ≡ true → b ≡ true
chosen_so true x h = refl
chosen_so false x h = absurd (cc)

first_of_all : (owed standing session under rest countable : Bool) → (owed && ((((standing && session) && under) && rest) && countable)) ≡ true
    → standing ≡ true
first_of_all true true session under rest countable h = refl
first_of_all true false session under rest countable h = absurd (cc)
first_of_all false standing session under rest countable h = absurd (cc)

stands_by : (s : Server) (m : Message) (o index number : ℕ) (e : Element) → m.command ≡ Lock o index number (e ∷ [])
    → is_some (would_wait s m) ≡ true → (b : Bool) → may_wait e.flags ≡ b → s.standing o ≡ true
stands_by s m o index number e q h true f =
    first_of_all (is_owed s m) (s.standing o) (is_at m.session_id (s.session_of_open o)) (s.tree_of_open o == m.tree_id)
    (not (is_some (kept_lock s o index number)) && not (is_directory s (file_of s o))) (is_countable s o e)
    (chosen_so (comes_to_ranges s m o index number e) (first_in_the_way (s.ranges (file_of s o)) (wanted_range o e))
    (ap is_some (sym (waits_exactly s m o index number e q f)) ∙ h))
stands_by s m o index number e q h false f =
    absurd (let g : is_some (would_wait s m) ≡ false = ap is_some (nobody s m (ap awaited q ∙ flagged o e (may_wait e.flags) f)) in cc)

pub waiter_stands : WaiterStands
waiter_stands s m o index number [] q h = absurd (let g : is_some (would_wait s m) ≡ false = ap is_some (nobody s m (ap awaited q)) in cc)
waiter_stands s m o index number (e ∷ []) q h = stands_by s m o index number e q h (may_wait e.flags) refl
waiter_stands s m o index number (e ∷ d ∷ es) q h = absurd (let g : is_some (would_wait s m) ≡ false = ap is_some (nobody s m (ap awaited q)) in cc)
