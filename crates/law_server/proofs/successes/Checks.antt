-- The verdicts on such a request: a refusal is no success, and a success tells what it has to.
use Rattle.std.proofs.Common.{◌≡◌, ℕ, ◌+◌, ◌≤◌, ◌==◌, nat_lt, Bool, true, false, not, ◌&&◌, ◌||◌, if◌then◌else◌, List, [], ◌∷◌}
use Rattle.std.proofs.Common.{length, take, drop, refl, arith, sym, subst, Option, Some, None, is_some, inl, inr}
use Rattle.std.proofs.lemmas.Bool.Decides.{nat_tests}
use Rattle.std.proofs.lemmas.List.{length-take}
use Rattle.spec_exchange.specs.Status.{success, access_denied, user_session_deleted}
use Rattle.spec_exchange.specs.Status.{file_not_available, invalid_device_request, lock_not_granted}
use Rattle.spec_exchange.specs.Status.{range_not_locked, invalid_parameter}
use Rattle.spec_exchange.specs.Texts.{begins_with_backslash, is_path, is_below}
use Rattle.spec_exchange.specs.Content.{is_empty}
use Rattle.spec_exchange.specs.Commands.{Command, Unreadable, Aside, Setup, Logoff, TreeConnect, TreeDisconnect, Create}
use Rattle.spec_exchange.specs.Commands.{Close, Flush, Read, Write, Lock, Ioctl, ListDirectory, QueryFile, QueryVolume}
use Rattle.spec_exchange.specs.Commands.{SetInfo, Setting, SetBasic, Rename, SetDelete, SetAllocation, SetEnd, Element, Basic, SetPosition, SetMode}
use Rattle.spec_exchange.specs.Commands.{form, path_form, transfer_form, lock_form, room_form, list_form, is_short_pattern, is_setup, all_lock, all_unlock}
use Rattle.spec_exchange.specs.State.{Server, Message, Range, Named, Empty}
use Rattle.spec_exchange.specs.Files.{root, find, has_parent, is_directory, is_full_directory, is_read_only, may_set_attributes, may_set_times, has_pending_parent}
use Rattle.spec_exchange.specs.Files.{path_of, info_of, set_basic, allocated, passes_room}
use Rattle.spec_exchange.specs.Ranges.{RangeAnswer, Stands, Denied, change_ranges, lock_ranges, unlock_ranges, stands_or, ranges_of}
use Rattle.spec_exchange.specs.Ranges.{any_wraps, add_ranges, take_ranges, count_owned, max_ranges, may_read, may_write}
use Rattle.spec_exchange.specs.Opens.{is_of_tree}
use Rattle.spec_exchange.specs.CheckOpen.{file_of, has_access, is_slot, kept_lock, is_repeated, is_late, bytes_change, path_change}
use Rattle.spec_exchange.specs.CheckOpen.{allocation_change, rename_names, delete_names, basic_names, target_of, target_refused, open_below}
use Rattle.spec_exchange.specs.CheckOpen.{timely_write, write_check, read_check, there, turn_down_lock, range_check, new_lock_check}
use Rattle.spec_exchange.specs.CheckOpen.{slot_check, lock_check, named_change, unless_repeated, size_change, setting_check, set_check}
use Rattle.spec_exchange.specs.CheckOpen.{flush_check, close_check, needs_attributes, file_query_check, listing_of, list_check}
use Rattle.spec_exchange.specs.Listing.{file_info_size}
use Rattle.spec_exchange.specs.CheckSetup.{tree_in}
use Rattle.spec_exchange.specs.Check.{check, owed, formed, command_check, with_tree, in_tree, tree_command, on_open, has_session}
use Rattle.spec_exchange.specs.Verdict.{Verdict, Refuse, Give, KeepRefusal, Repeat, Attach, Make, TurnDown, Tell, Show}
use Rattle.spec_exchange.specs.Verdict.{KeepSlot, PutRanges, Alter, CloseOpen, Challenge, ChallengeBinding, Begin, Join}
use Rattle.spec_exchange.specs.Verdict.{EndSession, AddTree, DropTree, Change, PutDeletePending, PutBasic, PutEnd}
use Rattle.spec_exchange.specs.Step.{without_room}
use Rattle.law_server.proofs.tables.Logic.{either}
use Rattle.law_server.proofs.tables.Doors.{Finds}
use Rattle.law_server.specs.successes.Bodies.{is_simple, IsBodyTold}

-- of a verdict on this command
abbrev pub TellsOf : Command → Verdict → Type 0
TellsOf c (Refuse status) = (status == success) ≡ false
TellsOf c (TurnDown o status) = (status == success) ≡ false
TellsOf c (KeepSlot o index number status elements) = (status == success) ≡ false
TellsOf c (PutRanges o index number ranges elements) = IsBodyTold c Empty
TellsOf c (Give body) = IsBodyTold c body
TellsOf c (Tell o body) = IsBodyTold c body
TellsOf c (Alter o change body) = IsBodyTold c body
TellsOf c (CloseOpen o body) = IsBodyTold c body
TellsOf c (Show o last body) = IsBodyTold c body
TellsOf c _ = ⊥

-- where a status is named, it is no success
abbrev OtherIn : Option ℕ → Type 0
OtherIn None = Unit {0}
OtherIn (Some status) = (status == success) ≡ false

absent : {X : Type 0} → false ≡ true → X
absent e = absurd (let h : false ≡ true = e in cc)

-- ---- WRITE and READ

told_timely : (s : Server) (m : Message) (o at : ℕ) (bytes : List ℕ) (channel : ℕ)
    → TellsOf (Write o at bytes channel) (timely_write s m o at bytes)
told_timely s m o at bytes channel =
    let P : Verdict → Type 0 = λ v. TellsOf (Write o at bytes channel) v in
    either P (not (has_access s o 0x2)) _ _ (λ _. refl) (λ _. either P (is_directory s (file_of s o)) _ _ (λ _. refl)
    (λ _. either P (is_repeated s m o (bytes_change at bytes)) _ _ (λ _. refl)
    (λ _. either P (not (may_write (s.ranges (file_of s o)) o at (length bytes))) _ _ (λ _. refl)
    (λ _. either P (not (is_empty bytes) && passes_room s (file_of s o) (at + length bytes)) _ _ (λ _. refl) (λ _. refl)))))

told_write : (s : Server) (m : Message) (o at : ℕ) (bytes : List ℕ) (channel : ℕ)
    → TellsOf (Write o at bytes channel) (write_check s m o at bytes)
told_write s m o at bytes channel =
    either (λ v. TellsOf (Write o at bytes channel) v) (is_late s m o) _ _ (λ _. refl) (λ _. told_timely s m o at bytes channel)

no_more : (n : ℕ) (xs : List ℕ) → length (take n xs) ≤ n
no_more n xs = omega (arith, length-take n xs)

within : (n m k : ℕ) → n ≤ m → m ≤ k → n ≤ k
within n m k a b = omega (arith, a, b)

told_read : (s : Server) (o at size minimum channel : ℕ) → size ≤ 1048576
    → TellsOf (Read o at size minimum channel) (read_check s o at size minimum)
told_read s o at size minimum channel small =
    let P : Verdict → Type 0 = λ v. TellsOf (Read o at size minimum channel) v in
    let part = take size (drop at (s.content (file_of s o))) in
    let few : length part ≤ size = no_more size (drop at (s.content (file_of s o))) in
    either P (not (has_access s o 0x1 || has_access s o 0x20)) _ _ (λ _. refl)
    (λ _. either P (is_directory s (file_of s o)) _ _ (λ _. refl)
    (λ _. either P (not (may_read (s.ranges (file_of s o)) o at size)) _ _ (λ _. refl)
    (λ _. either P (not (size == 0) && not (nat_lt at (length (s.content (file_of s o))))) _ _ (λ _. refl)
    (λ _. either P (nat_lt (there s (file_of s o) at size) minimum) _ _ (λ _. refl)
    (λ _. (part, refl, few, within (length part) size 1048576 few small))))))

-- ---- LOCK

abbrev OtherRange : RangeAnswer → Type 0
OtherRange (Stands ranges) = Unit {0}
OtherRange (Denied status) = (status == success) ≡ false

other_or : (status : ℕ) (u : Option (List Range)) → (status == success) ≡ false → OtherRange (stands_or status u)
unfolding stands_or
other_or status None e = e
other_or status (Some rs) e = tt

other_locking : (rs : List Range) (o : ℕ) (ws : List Range) → OtherRange (lock_ranges rs o ws)
unfolding lock_ranges
other_locking rs o ws =
    either OtherRange (nat_lt max_ranges (count_owned o rs + length ws)) _ _ (λ _. refl)
    (λ _. either OtherRange (any_wraps ws) _ _ (λ _. refl) (λ _. other_or lock_not_granted (add_ranges rs ws) refl))

other_unlocking : (rs ws : List Range) → OtherRange (unlock_ranges rs ws)
unfolding unlock_ranges
other_unlocking rs ws =
    either OtherRange (any_wraps ws) _ _ (λ _. refl) (λ _. other_or range_not_locked (take_ranges (Some rs) ws) refl)

other_ranges : (rs : List Range) (o : ℕ) (es : List Element) → OtherRange (change_ranges rs o es)
unfolding change_ranges
other_ranges rs o es =
    either OtherRange (all_lock es) _ _ (λ _. other_locking rs o (ranges_of o es)) (λ _. other_unlocking rs (ranges_of o es))

told_turned : (o index number : ℕ) (elements : List Element) (status : ℕ) → (status == success) ≡ false
    → TellsOf (Lock o index number elements) (turn_down_lock o index number elements status)
told_turned o index number elements status e =
    either (λ v. TellsOf (Lock o index number elements) v) (is_slot index) (KeepSlot o index number status elements) (TurnDown o status)
    (λ _. e) (λ _. e)

told_range : (o index number : ℕ) (elements : List Element) (A : RangeAnswer) → OtherRange A
    → TellsOf (Lock o index number elements) (range_check o index number elements A)
told_range o index number elements (Denied status) e = told_turned o index number elements status e
told_range o index number elements (Stands ranges) e = refl

told_new_lock : (s : Server) (o index number : ℕ) (elements : List Element)
    → TellsOf (Lock o index number elements) (new_lock_check s o index number elements)
told_new_lock s o index number elements =
    either (λ v. TellsOf (Lock o index number elements) v) (is_directory s (file_of s o)) _ _
    (λ _. told_turned o index number elements invalid_device_request refl)
    (λ _. told_range o index number elements (change_ranges (s.ranges (file_of s o)) o elements)
    (other_ranges (s.ranges (file_of s o)) o elements))

told_slot : (s : Server) (o index number : ℕ) (elements : List Element) (u : Option ℕ)
    → TellsOf (Lock o index number elements) (slot_check s o index number elements u)
told_slot s o index number elements None = told_new_lock s o index number elements
told_slot s o index number elements (Some status) =
    either (λ v. TellsOf (Lock o index number elements) v) (status == success) (Give Empty) (Refuse status) (λ _. refl) (λ off. off)

told_lock : (s : Server) (o index number : ℕ) (elements : List Element)
    → TellsOf (Lock o index number elements) (lock_check s o index number elements)
told_lock s o index number elements = told_slot s o index number elements (kept_lock s o index number)

-- ---- SET_INFO

other_rename : (s : Server) (f : ℕ) (replace : Bool) (path : List ℕ) → OtherIn (rename_names s f replace path)
unfolding rename_names
other_rename s f replace path =
    either OtherIn (f == root) _ _ (λ _. refl)
    (λ _. either OtherIn (is_directory s f && is_below (path_of s f) path) _ _ (λ _. refl)
    (λ _. either OtherIn (not (has_parent s path)) _ _ (λ _. refl)
    (λ _. either OtherIn (has_pending_parent s path) _ _ (λ _. refl)
    (λ _. either OtherIn (is_some (find s path) && not replace) _ _ (λ _. refl)
    (λ _. either OtherIn (target_refused s (target_of f (find s path))) _ _ (λ _. refl)
    (λ _. either OtherIn (is_directory s f && open_below s s.entries (path_of s f)) _ _ (λ _. refl) (λ _. tt)))))))

other_delete : (s : Server) (f : ℕ) (flag : Bool) → OtherIn (delete_names s f flag)
unfolding delete_names
other_delete s f flag =
    either OtherIn (not flag) _ _ (λ _. tt) (λ _. either OtherIn (f == root) _ _ (λ _. refl)
    (λ _. either OtherIn (is_full_directory s f) _ _ (λ _. refl)
    (λ _. either OtherIn (is_read_only s f) _ _ (λ _. refl) (λ _. tt))))

other_basic : (s : Server) (f : ℕ) (b : Basic) → OtherIn (basic_names s f b)
unfolding basic_names
other_basic s f b = either OtherIn (may_set_attributes (is_directory s f) b.attributes && may_set_times b) _ _ (λ _. tt) (λ _. refl)

-- of a setting
abbrev Sets : ℕ → Setting → Verdict → Type 0
Sets o setting v = TellsOf (SetInfo o setting) v

told_named : (o : ℕ) (setting : Setting) (change : Change) (u : Option ℕ) → OtherIn u → Sets o setting (named_change o change u)
told_named o setting change (Some status) e = e
told_named o setting change None e = refl

told_unless : (s : Server) (m : Message) (o : ℕ) (setting : Setting) (change : Change) (v : Verdict) → Sets o setting v
    → Sets o setting (unless_repeated s m o change v)
told_unless s m o setting change v e = either (λ u. Sets o setting u) (is_repeated s m o change) _ v (λ _. refl) (λ _. e)

told_size : (s : Server) (m : Message) (o : ℕ) (setting : Setting) (size : ℕ) (change : Change)
    → Sets o setting (size_change s m o size change)
told_size s m o setting size change =
    let P : Verdict → Type 0 = λ v. Sets o setting v in
    either P (not (has_access s o 0x2)) _ _ (λ _. refl) (λ _. either P (is_directory s (file_of s o)) _ _ (λ _. refl)
    (λ _. either P (is_repeated s m o change) _ _ (λ _. refl)
    (λ _. either P (passes_room s (file_of s o) size) _ _ (λ _. refl) (λ _. refl))))

told_setting : (s : Server) (m : Message) (o : ℕ) (setting : Setting) → Sets o setting (setting_check s m o setting)
told_setting s m o (SetBasic basic) =
    let change : Change = PutBasic (set_basic (s.basic (file_of s o)) basic) in
    let u = basic_names s (file_of s o) basic in
    either (λ v. Sets o (SetBasic basic) v) (has_access s o 0x100) (unless_repeated s m o change (named_change o change u))
    (TurnDown o access_denied)
    (λ _. told_unless s m o (SetBasic basic) change (named_change o change u)
    (told_named o (SetBasic basic) change u (other_basic s (file_of s o) basic)))
    (λ _. refl)
told_setting s m o (Rename replace path) =
    let change = path_change s o path in let u = rename_names s (file_of s o) replace path in
    either (λ v. Sets o (Rename replace path) v) (has_access s o 0x1_0000) (unless_repeated s m o change (named_change o change u))
    (TurnDown o access_denied)
    (λ _. told_unless s m o (Rename replace path) change (named_change o change u)
    (told_named o (Rename replace path) change u (other_rename s (file_of s o) replace path)))
    (λ _. refl)
told_setting s m o (SetDelete flag) =
    let u = delete_names s (file_of s o) flag in
    either (λ v. Sets o (SetDelete flag) v) (has_access s o 0x1_0000)
    (unless_repeated s m o (PutDeletePending flag) (named_change o (PutDeletePending flag) u)) (TurnDown o access_denied)
    (λ _. told_unless s m o (SetDelete flag) (PutDeletePending flag) (named_change o (PutDeletePending flag) u)
    (told_named o (SetDelete flag) (PutDeletePending flag) u (other_delete s (file_of s o) flag)))
    (λ _. refl)
told_setting s m o (SetAllocation size) =
    told_size s m o (SetAllocation size) (allocated size (length (s.content (file_of s o)))) (allocation_change s (file_of s o) size)
told_setting s m o (SetEnd size) = told_size s m o (SetEnd size) size (PutEnd size)
told_setting s m o (SetPosition position) = refl
told_setting s m o SetMode = refl

told_set : (s : Server) (m : Message) (o : ℕ) (setting : Setting) → Sets o setting (set_check s m o setting)
told_set s m o setting =
    either (λ v. Sets o setting v) (is_late s m o) (Refuse file_not_available) (setting_check s m o setting) (λ _. refl)
    (λ _. told_setting s m o setting)

-- ---- QUERY_INFO of a file, and QUERY_DIRECTORY

told_query : (s : Server) (o class room : ℕ) → TellsOf (QueryFile o class room) (file_query_check s o class room)
told_query s o class room =
    let P : Verdict → Type 0 = λ v. TellsOf (QueryFile o class room) v in
    either P (needs_attributes class && not (has_access s o 0x80)) _ _ (λ _. refl)
    (λ _. either P (class == 21) _ _ (λ _. refl)
    (λ _. either P (nat_lt room (file_info_size class (is_directory s (file_of s o)) (path_of s (file_of s o)))) _ _ (λ _. refl)
    (λ _. (
      path_of s (file_of s o),
      info_of s (file_of s o),
      (s.opened o).access,
      (s.opened o).options,
      s.current_byte_offset o,
      refl,
    ))))

told_listing : (o class : ℕ) (restart single : Bool) (pattern : List ℕ) (room : ℕ) (last : Option (List ℕ)) (all fit : List Named)
    → TellsOf (ListDirectory o class restart single pattern room) (listing_of o class last all fit)
unfolding listing_of
told_listing o class restart single pattern room None [] fit = refl
told_listing o class restart single pattern room (Some last) [] fit = refl
told_listing o class restart single pattern room last (n ∷ ns) [] = refl
told_listing o class restart single pattern room last (n ∷ ns) (k ∷ ks) = (k ∷ ks, refl)

told_list : (s : Server) (o class : ℕ) (restart single : Bool) (pattern : List ℕ) (room : ℕ)
    → TellsOf (ListDirectory o class restart single pattern room) (list_check s o class restart single pattern room)
told_list s o class restart single pattern room =
    let P : Verdict → Type 0 = λ v. TellsOf (ListDirectory o class restart single pattern room) v in
    either P (not (has_access s o 0x1)) _ _ (λ _. refl) (λ _. either P (not (is_directory s (file_of s o))) _ _
    (λ _. refl) (λ _. told_listing o class restart single pattern room _ _ _))

-- ---- the ordered checks

told_flush : (s : Server) (o : ℕ) → TellsOf (Flush o) (flush_check s o)
told_flush s o =
    either (λ v. TellsOf (Flush o) v) (has_access s o 0x2 || has_access s o 0x4) _ _ (λ _. refl) (λ _. refl)

told_open : (c : Command) (s : Server) (m : Message) (o : ℕ) (v : Verdict) → TellsOf c v → TellsOf c (on_open s m o v)
told_open c s m o v e = either (λ u. TellsOf c u) (is_of_tree s o m.session_id m.tree_id) v _ (λ _. e) (λ _. refl)

first_kept : (b : Bool) (x : ℕ) (u : Option ℕ) → (if b then Some x else u) ≡ None → b ≡ false
first_kept true x u e = absurd cc
first_kept false x u e = refl

in_room : (n : ℕ) → nat_lt 1048576 n ≡ false → n ≤ 1048576
in_room n e = grind (arith, nat_tests)

told_tree : (s : Server) (m : Message) (pipes : Bool) (c : Command) → is_simple c ≡ true → form c ≡ None
    → TellsOf c (tree_command s m pipes c)
told_tree s m pipes (Write o at bytes channel) e good =
    told_open (Write o at bytes channel) s m o (write_check s m o at bytes) (told_write s m o at bytes channel)
told_tree s m pipes (Read o at size minimum channel) e good =
    told_open (Read o at size minimum channel) s m o (read_check s o at size minimum)
    (told_read s o at size minimum channel (in_room size (first_kept (nat_lt 1048576 size) invalid_parameter _ good)))
told_tree s m pipes (SetInfo o setting) e good = told_open (SetInfo o setting) s m o (set_check s m o setting) (told_set s m o setting)
told_tree s m pipes (Lock o index number elements) e good =
    told_open (Lock o index number elements) s m o (lock_check s o index number elements) (told_lock s o index number elements)
told_tree s m pipes (Flush o) e good = told_open (Flush o) s m o (flush_check s o) (told_flush s o)
told_tree s m pipes (Close o false) e good = told_open (Close o false) s m o (close_check s o false) refl
told_tree s m pipes (Close o true) e good = absent e
told_tree s m pipes (Unreadable status) e good = absent e
told_tree s m pipes (Aside status) e good = absent e
told_tree s m pipes (Setup request) e good = absent e
told_tree s m pipes Logoff e good = absent e
told_tree s m pipes (TreeConnect share) e good = absent e
told_tree s m pipes TreeDisconnect e good = absent e
told_tree s m pipes (Create request) e good = absent e
told_tree s m pipes (Ioctl o code room) e good = absent e
told_tree s m pipes (ListDirectory o class restart single pattern room) e good =
    told_open (ListDirectory o class restart single pattern room) s m o (list_check s o class restart single pattern room)
    (told_list s o class restart single pattern room)
told_tree s m pipes (QueryFile o class room) e good =
    told_open (QueryFile o class room) s m o (file_query_check s o class room) (told_query s o class room)
told_tree s m pipes (QueryVolume o class room) e good = absent e

told_in_tree : (s : Server) (m : Message) (u : Option Bool) → is_simple m.command ≡ true → form m.command ≡ None
    → TellsOf m.command (in_tree s m u)
told_in_tree s m None e good = refl
told_in_tree s m (Some pipes) e good = told_tree s m pipes m.command e good

told_with_tree : (s : Server) (m : Message) → is_simple m.command ≡ true → form m.command ≡ None → TellsOf m.command (with_tree s m)
told_with_tree s m e good = told_in_tree s m (tree_in (s.trees m.session_id) m.tree_id) e good

told_command : (s : Server) (m : Message) (c : Command) → is_simple c ≡ true → is_simple m.command ≡ true → form m.command ≡ None
    → TellsOf m.command (command_check s m c)
told_command s m (Write o at bytes channel) e i good = told_with_tree s m i good
told_command s m (Read o at size minimum channel) e i good = told_with_tree s m i good
told_command s m (SetInfo o setting) e i good = told_with_tree s m i good
told_command s m (Lock o index number elements) e i good = told_with_tree s m i good
told_command s m (Flush o) e i good = told_with_tree s m i good
told_command s m (Close o query) e i good = told_with_tree s m i good
told_command s m (Unreadable status) e i good = absent e
told_command s m (Aside status) e i good = absent e
told_command s m (Setup request) e i good = absent e
told_command s m Logoff e i good = absent e
told_command s m (TreeConnect share) e i good = absent e
told_command s m TreeDisconnect e i good = absent e
told_command s m (Create request) e i good = absent e
told_command s m (Ioctl o code room) e i good = absent e
told_command s m (ListDirectory o class restart single pattern room) e i good = told_with_tree s m i good
told_command s m (QueryFile o class room) e i good = told_with_tree s m i good
told_command s m (QueryVolume o class room) e i good = absent e

other_path : (path : List ℕ) → OtherIn (path_form path)
unfolding path_form
other_path path =
    either OtherIn (begins_with_backslash path) _ _ (λ _. refl) (λ _. either OtherIn (is_path path) _ _ (λ _. tt) (λ _. refl))

other_transfer : (at size channel : ℕ) → OtherIn (transfer_form at size channel)
other_transfer at size channel =
    either OtherIn (nat_lt 1048576 size) _ _ (λ _. refl) (λ _. either OtherIn (not (channel == 0)) _ _ (λ _. refl)
    (λ _. either OtherIn (nat_lt (at + size) 0x8000_0000_0000_0000) _ _ (λ _. tt) (λ _. refl)))

other_elements : (es : List Element) → OtherIn (lock_form es)
other_elements [] = refl
other_elements (e ∷ es) = either OtherIn (all_lock (e ∷ es) || all_unlock (e ∷ es)) _ _ (λ _. tt) (λ _. refl)

other_room : (room : ℕ) → OtherIn (room_form room)
other_room room = either OtherIn (nat_lt 1048576 room) _ _ (λ _. refl) (λ _. tt)

other_list : (pattern : List ℕ) (room : ℕ) → OtherIn (list_form pattern room)
other_list pattern room =
    either OtherIn (nat_lt 1048576 room) _ _ (λ _. refl) (λ _. either OtherIn (is_short_pattern pattern) _ _ (λ _. tt) (λ _. refl))

other_form : (c : Command) → is_simple c ≡ true → OtherIn (form c)
other_form (Write o at bytes channel) e = other_transfer at (length bytes) channel
other_form (Read o at size minimum channel) e = other_transfer at size channel
other_form (SetInfo o (Rename replace path)) e = other_path path
other_form (SetInfo o (SetBasic basic)) e = tt
other_form (SetInfo o (SetDelete flag)) e = tt
other_form (SetInfo o (SetAllocation size)) e = tt
other_form (SetInfo o (SetEnd size)) e = tt
other_form (SetInfo o (SetPosition position)) e =
    either OtherIn (nat_lt position 0x8000_0000_0000_0000) _ _ (λ _. tt) (λ _. refl)
other_form (SetInfo o SetMode) e = tt
other_form (Lock o index number elements) e = other_elements elements
other_form (Flush o) e = tt
other_form (Close o query) e = tt
other_form (Unreadable status) e = absent e
other_form (Aside status) e = absent e
other_form (Setup request) e = absent e
other_form Logoff e = absent e
other_form (TreeConnect share) e = absent e
other_form TreeDisconnect e = absent e
other_form (Create request) e = absent e
other_form (Ioctl o code room) e = absent e
other_form (ListDirectory o class restart single pattern room) e = other_list pattern room
other_form (QueryFile o class room) e = other_room room
other_form (QueryVolume o class room) e = absent e

told_formed : (s : Server) (m : Message) (u : Option ℕ) → form m.command ≡ u → OtherIn u → is_simple m.command ≡ true
    → TellsOf m.command (formed s m u)
told_formed s m (Some status) is f e = f
told_formed s m None is f e = told_command s m m.command e e is

told_owed : (s : Server) (m : Message) → m.fault ≡ None → is_simple m.command ≡ true → TellsOf m.command (owed s m m.fault)
told_owed s m fault e =
    subst (λ u. TellsOf m.command (owed s m u)) (sym fault) (told_formed s m (form m.command) refl (other_form m.command e) e)

told_check : (s : Server) (m : Message) → m.fault ≡ None → is_simple m.command ≡ true → TellsOf m.command (check s m)
told_check s m fault e =
    either (λ v. TellsOf m.command v) (is_setup m.command || has_session s m) (owed s m m.fault) (Refuse user_session_deleted)
    (λ _. told_owed s m fault e) (λ _. refl)

-- ---- where the records don't fit

told_full : (c : Command) (v : Verdict) → TellsOf c v → TellsOf c (without_room v)
told_full c (Refuse status) e = e
told_full c (TurnDown o status) e = e
told_full c (KeepSlot o index number status elements) e = refl
told_full c (PutRanges o index number ranges elements) e = refl
told_full c (Give body) e = e
told_full c (Tell o body) e = e
told_full c (Alter o change body) e = refl
told_full c (CloseOpen o body) e = refl
told_full c (KeepRefusal guid status) e = absurd e
told_full c (Repeat o r) e = absurd e
told_full c (Attach o r) e = absurd e
told_full c (Make r found action) e = absurd e
told_full c (Show o last body) e = e
told_full c Challenge e = absurd e
told_full c (ChallengeBinding session) e = absurd e
told_full c (Begin session user previous r is_quiet) e = absurd e
told_full c (Join session) e = absurd e
told_full c (EndSession session is_quiet) e = absurd e
told_full c (AddTree pipes) e = absurd e
told_full c DropTree e = absurd e

pub finds_told : (t : Server) (m : Message) (v : Verdict) → m.fault ≡ None → is_simple m.command ≡ true → Finds t m v → TellsOf m.command v
finds_told t m v fault e (inl is) = subst (λ u. TellsOf m.command u) (sym is) (told_check t m fault e)
finds_told t m v fault e (inr is) =
    subst (λ u. TellsOf m.command u) (sym is) (told_full m.command (check t m) (told_check t m fault e))
