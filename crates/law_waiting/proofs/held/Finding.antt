-- Where the checks come to LOCK_NOT_GRANTED for one element, a range is found that holds it up.
use Rattle.std.proofs.Common.{◌≡◌, ℕ, ◌+◌, ◌==◌, ◌&&◌, ◌||◌, nat_lt, Bool, true, false, if◌then◌else◌, List, [], ◌∷◌, ◌++◌, length, Option, Some, None}
use Rattle.std.proofs.Common.{refl, is_some}
use Rattle.spec_exchange.specs.Status.{success, insufficient_resources, invalid_device_request, invalid_lock_range, lock_not_granted}
use Rattle.spec_exchange.specs.Status.{user_session_deleted, file_closed}
use Rattle.spec_exchange.specs.Commands.{Command, Lock, Element, form, is_setup, locks}
use Rattle.spec_exchange.specs.State.{Server, Message, Range, Empty}
use Rattle.spec_exchange.specs.Ranges.{RangeAnswer, Stands, Denied, add_ranges, any_wraps, change_ranges, count_owned, is_denied, lock_ranges}
use Rattle.spec_exchange.specs.Ranges.{max_ranges, stands_or}
use Rattle.spec_exchange.specs.Files.{is_directory}
use Rattle.spec_exchange.specs.Opens.{is_of_tree}
use Rattle.spec_exchange.specs.Verdict.{Verdict, Refuse, Give, KeepSlot, TurnDown}
use Rattle.spec_exchange.specs.CheckOpen.{file_of, is_slot, kept_lock, lock_check, new_lock_check, range_check, slot_check, turn_down_lock}
use Rattle.spec_exchange.specs.CheckSetup.{tree_in}
use Rattle.spec_exchange.specs.Check.{check, command_check, formed, has_session, in_tree, owed, tree_command, with_tree}
use Rattle.law_waiting.specs.held.Held.{awaited, first_in_the_way, held_by, is_not_granted, may_wait, ranges_conflict, wanted_range, would_wait}

-- ---- it is on the ranges of its open's file

of_test : (b : Bool) (v : Verdict) (n : ℕ) → is_not_granted (if b then v else Refuse n) ≡ true → is_not_granted v ≡ true
of_test true v n h = h
of_test false v n h = absurd (cc)

of_owed : (s : Server) (m : Message) (o : Option ℕ) → is_not_granted (owed s m o) ≡ true → is_not_granted (formed s m (form m.command)) ≡ true
of_owed s m None h = h
of_owed s m (Some n) h = absurd (cc)

of_form : (s : Server) (m : Message) (o : Option ℕ) → is_not_granted (formed s m o) ≡ true → is_not_granted (command_check s m m.command) ≡ true
of_form s m None h = h
of_form s m (Some n) h = absurd (cc)

abbrev pub lock_of : ℕ → ℕ → ℕ → Element → Command
lock_of o index number e = Lock o index number (e ∷ [])

of_command : (s : Server) (m : Message) (c : Command) (o index number : ℕ) (e : Element) → c ≡ lock_of o index number e
    → is_not_granted (command_check s m c) ≡ true → is_not_granted (with_tree s m) ≡ true
of_command s m c o index number e q h = rw q at h

of_tree : (s : Server) (m : Message) (t : Option Bool) → is_not_granted (in_tree s m t) ≡ true
    → (pipes : Bool) × (is_not_granted (tree_command s m pipes m.command) ≡ true)
of_tree s m None h = absurd (cc)
of_tree s m (Some pipes) h = (pipes, h)

of_lock : (s : Server) (m : Message) (pipes : Bool) (c : Command) (o index number : ℕ) (e : Element) → c ≡ lock_of o index number e
    → is_not_granted (tree_command s m pipes c) ≡ true → is_not_granted (lock_check s o index number (e ∷ [])) ≡ true
of_lock s m pipes c o index number e q h =
    of_test (is_of_tree s o m.session_id m.tree_id) (lock_check s o index number (e ∷ [])) file_closed (rw q at h)

kept : (b : Bool) (status : ℕ) → is_not_granted (if b then Give Empty else Refuse status) ≡ true → ⊥
kept true status h = cc
kept false status h = cc

of_slot : (s : Server) (o index number : ℕ) (es : List Element) (k : Option ℕ) → is_not_granted (slot_check s o index number es k) ≡ true
    → is_not_granted (new_lock_check s o index number es) ≡ true
of_slot s o index number es None h = h
of_slot s o index number es (Some status) h = absurd (kept (status == success) status h)

turned : (b : Bool) (o index number status : ℕ) (es : List Element)
    → is_not_granted (if b then KeepSlot o index number status es
    else TurnDown o status) ≡ true → (status == lock_not_granted) ≡ true
turned true o index number status es h = h
turned false o index number status es h = h

abbrev pub not_granted_by : RangeAnswer → Bool
not_granted_by (Denied status) = status == lock_not_granted
not_granted_by (Stands ranges) = false

of_ranges : (o index number : ℕ) (es : List Element) (a : RangeAnswer) → is_not_granted (range_check o index number es a) ≡ true
    → not_granted_by a ≡ true
of_ranges o index number es (Denied status) h = turned (is_slot index) o index number status es h
of_ranges o index number es (Stands ranges) h = absurd (cc)

of_file : (b : Bool) (o index number : ℕ) (es : List Element) (v : Verdict)
    → is_not_granted (if b then turn_down_lock o index number es invalid_device_request else v) ≡ true → is_not_granted v ≡ true
of_file true o index number es v h = absurd (let x = turned (is_slot index) o index number invalid_device_request es h in cc)
of_file false o index number es v h = h

-- ---- it is denied by one of them

denied_by : (b c d : Bool) (rs : List Range) → not_granted_by (if b then Denied insufficient_resources else
    if c then Denied invalid_lock_range else stands_or lock_not_granted (if d then None else Some rs)) ≡ true → d ≡ true
unfolding stands_or
denied_by true c d rs h = absurd (cc)
denied_by false true d rs h = absurd (cc)
denied_by false false true rs h = refl
denied_by false false false rs h = absurd (cc)

lock_denied : (rs : List Range) (o : ℕ) (w : Range) → not_granted_by (lock_ranges rs o (w ∷ [])) ≡ true → is_denied rs w ≡ true
unfolding lock_ranges add_ranges
lock_denied rs o w h =
    denied_by (nat_lt max_ranges (count_owned o rs + length (w ∷ []))) (any_wraps (w ∷ [])) (is_denied rs w) (rs ++ w ∷ []) h

pub locks_by : (flags : ℕ) → may_wait flags ≡ true → locks flags ≡ true
locks_by flags h = two (flags == 0x1) (flags == 0x2) ((flags == 0x11) || (flags == 0x12)) h
  where
    two : (a b c : Bool) → (a || b) ≡ true → (a || (b || c)) ≡ true
    two true b c e = refl
    two false true c e = refl
    two false false c e = absurd (cc)

change_denied : (b : Bool) (rs : List Range) (o : ℕ) (w : Range) (v : RangeAnswer) → b ≡ true
    → not_granted_by (if b && true then lock_ranges rs o (w ∷ []) else v) ≡ true → is_denied rs w ≡ true
change_denied true rs o w v e h = lock_denied rs o w h
change_denied false rs o w v e h = absurd (cc)

ranges_denied : (rs : List Range) (o : ℕ) (e : Element) → may_wait e.flags ≡ true → not_granted_by (change_ranges rs o (e ∷ [])) ≡ true
    → is_denied rs (wanted_range o e) ≡ true
unfolding change_ranges
ranges_denied rs o e f h = change_denied (locks e.flags) rs o (wanted_range o e) _ (locks_by e.flags f) h

-- ---- and that one is found

found_by : (b : Bool) (r : Range) (rs : List Range) (w : Range) → (is_denied rs w ≡ true → is_some (first_in_the_way rs w) ≡ true)
    → (b || is_denied rs w) ≡ true → is_some (if b then Some r else first_in_the_way rs w) ≡ true
found_by true r rs w rest h = refl
found_by false r rs w rest h = rest h

pub found : (rs : List Range) (w : Range) → is_denied rs w ≡ true → is_some (first_in_the_way rs w) ≡ true
unfolding is_denied first_in_the_way
found [] w h = absurd (cc)
found (r ∷ rs) w h = found_by (ranges_conflict r w) r rs w (found rs w) h

-- ---- all checks

check_denied : (s : Server) (m : Message) (o index number : ℕ) (e : Element) → m.command ≡ lock_of o index number e → may_wait e.flags ≡ true
    → is_not_granted (check s m) ≡ true → is_denied (s.ranges (file_of s o)) (wanted_range o e) ≡ true
check_denied s m o index number e q f h =
    let a = of_test (is_setup m.command || has_session s m) (owed s m m.fault) user_session_deleted h in
    let b = of_form s m (form m.command) (of_owed s m m.fault a) in
    let c = of_command s m m.command o index number e q b in
    let d = of_tree s m (tree_in (s.trees m.session_id) m.tree_id) c in
    let g = of_lock s m d.0 m.command o index number e q d.1 in
    let i = of_slot s o index number (e ∷ []) (kept_lock s o index number) g in
    let j = of_file (is_directory s (file_of s o)) o index number (e ∷ [])
    (range_check o index number (e ∷ []) (change_ranges (s.ranges (file_of s o)) o (e ∷ []))) i in
    ranges_denied (s.ranges (file_of s o)) o e f (of_ranges o index number (e ∷ []) (change_ranges (s.ranges (file_of s o)) o (e ∷ [])) j)

granted_or : (b : Bool) (x : Option Range) → b ≡ true → is_some x ≡ true → is_some (if b then x else None) ≡ true
granted_or true x e h = h
granted_or false x e h = absurd (cc)

held_some : (s : Server) (b : Bool) (w : Range) → b ≡ true → is_some (first_in_the_way (s.ranges (file_of s w.owner)) w) ≡ true
    → is_some (held_by s (if b then Some w else None)) ≡ true
held_some s true w e h = h
held_some s false w e h = absurd (cc)

awaited_some : (s : Server) (c : Command) (o index number : ℕ) (e : Element) → c ≡ lock_of o index number e → may_wait e.flags ≡ true
    → is_some (first_in_the_way (s.ranges (file_of s o)) (wanted_range o e)) ≡ true → is_some (held_by s (awaited c)) ≡ true
awaited_some s c o index number e q f h = rw q (held_some s (may_wait e.flags) (wanted_range o e) f h)

pub waits_where : (s : Server) (m : Message) (o index number : ℕ) (e : Element) → m.command ≡ lock_of o index number e
    → may_wait e.flags ≡ true → is_not_granted (check s m) ≡ true → is_some (would_wait s m) ≡ true
unfolding would_wait
waits_where s m o index number e q f h =
    granted_or (is_not_granted (check s m)) (held_by s (awaited m.command)) h
    (awaited_some s m.command o index number e q f (found (s.ranges (file_of s o)) (wanted_range o e) (check_denied s m o index number e q f h)))
