-- The checks of a LOCK of one element that may wait, test by test.
use Rattle.std.proofs.Common.{◌≡◌, ℕ, ◌+◌, ◌==◌, ◌&&◌, ◌||◌, not, nat_lt, Bool, true, false, if◌then◌else◌, List, [], ◌∷◌, ◌++◌}
use Rattle.std.proofs.Common.{Option, Some, None, is_some, refl, sym, ap, ◌∙◌}
use Rattle.spec_exchange.specs.Status.{success, insufficient_resources, invalid_device_request, invalid_lock_range, lock_not_granted}
use Rattle.spec_exchange.specs.Status.{user_session_deleted, file_closed}
use Rattle.spec_exchange.specs.Commands.{Command, Element, all_unlock, form, is_setup, locks}
use Rattle.spec_exchange.specs.State.{Server, Message, Range, Empty}
use Rattle.spec_exchange.specs.Ranges.{RangeAnswer, Stands, Denied, add_ranges, any_wraps, change_ranges, count_owned, is_denied, lock_ranges}
use Rattle.spec_exchange.specs.Ranges.{stands_or, unlock_ranges, wraps}
use Rattle.spec_exchange.specs.Files.{is_directory}
use Rattle.spec_exchange.specs.Opens.{is_of_tree}
use Rattle.spec_exchange.specs.Verdict.{Verdict, Refuse, Give, KeepSlot, TurnDown}
use Rattle.spec_exchange.specs.CheckOpen.{file_of, is_slot, kept_lock, lock_check, new_lock_check, range_check, slot_check, turn_down_lock}
use Rattle.spec_exchange.specs.CheckSetup.{tree_in}
use Rattle.spec_exchange.specs.Check.{check, command_check, formed, has_session, in_tree, owed, tree_command}
use Rattle.law_waiting.specs.held.Held.{awaited, first_in_the_way, held_by, is_not_granted, may_wait, ranges_conflict, wanted_range, would_wait}
use Rattle.law_waiting.specs.held.Exactly.{WaitsExactly, comes_to_ranges, is_countable}
use Rattle.law_waiting.proofs.held.Finding.{lock_of, locks_by, not_granted_by}

by_test : (b : Bool) (v : Verdict) (n : ℕ) → is_not_granted (if b then v else Refuse n) ≡ (b && is_not_granted v)
by_test true v n = refl
by_test false v n = refl

by_owed : (s : Server) (m : Message) (o : Option ℕ) → is_not_granted (owed s m o)
    ≡ (not (is_some o) && is_not_granted (formed s m (form m.command)))
by_owed s m None = refl
by_owed s m (Some n) = refl

is_formed : (b : Bool) (x : Bool) → b ≡ true → ◌≡◌ {A = Option ℕ} (if (b && true) || x then None else Some 0xc000_000d) None
is_formed true x e = refl
is_formed false x e = absurd (cc)

by_tree : (s : Server) (m : Message) (t : Option Bool) (x : Bool)
    → ((pipes : Bool) → is_not_granted (tree_command s m pipes m.command) ≡ x) → is_not_granted (in_tree s m t) ≡ (is_some t && x)
by_tree s m None x h = refl
by_tree s m (Some pipes) x h = h pipes

kept_either : (b : Bool) (status : ℕ) → is_not_granted (if b then Give Empty else Refuse status) ≡ false
kept_either true status = refl
kept_either false status = refl

by_slot : (s : Server) (o index number : ℕ) (es : List Element) (k : Option ℕ) → is_not_granted (slot_check s o index number es k)
    ≡ (not (is_some k) && is_not_granted (new_lock_check s o index number es))
by_slot s o index number es None = refl
by_slot s o index number es (Some status) = kept_either (status == success) status

turned_by : (b : Bool) (o index number status : ℕ) (es : List Element)
    → is_not_granted (if b then KeepSlot o index number status es else TurnDown o status) ≡ (status == lock_not_granted)
turned_by true o index number status es = refl
turned_by false o index number status es = refl

by_file : (b : Bool) (o index number : ℕ) (es : List Element) (v : Verdict)
    → is_not_granted (if b then turn_down_lock o index number es invalid_device_request else v) ≡ (not b && is_not_granted v)
by_file true o index number es v = turned_by (is_slot index) o index number invalid_device_request es
by_file false o index number es v = refl

by_ranges : (o index number : ℕ) (es : List Element) (a : RangeAnswer) → is_not_granted (range_check o index number es a) ≡ not_granted_by a
by_ranges o index number es (Denied status) = turned_by (is_slot index) o index number status es
by_ranges o index number es (Stands ranges) = refl

three : (b c d : Bool) (rs : List Range) → not_granted_by (if b then Denied insufficient_resources else
    if c || false then Denied invalid_lock_range else stands_or lock_not_granted (if d then None else Some rs))
    ≡ ((not b && not c) && d)
unfolding stands_or
three true c d rs = refl
three false true d rs = refl
three false false true rs = refl
three false false false rs = refl

by_lock : (rs : List Range) (o : ℕ) (w : Range) → not_granted_by (lock_ranges rs o (w ∷ []))
    ≡ ((not (nat_lt 1024 (count_owned o rs + 1)) && not (wraps w)) && is_denied rs w)
unfolding lock_ranges add_ranges any_wraps
by_lock rs o w = three (nat_lt 1024 (count_owned o rs + 1)) (wraps w) (is_denied rs w) (rs ++ w ∷ [])

locked : (b : Bool) (x y : RangeAnswer) → b ≡ true → (if b && true then x else y) ≡ x
locked true x y e = refl
locked false x y e = absurd (cc)

by_change : (rs : List Range) (o : ℕ) (e : Element) → may_wait e.flags ≡ true → not_granted_by (change_ranges rs o (e ∷ []))
    ≡ ((not (nat_lt 1024 (count_owned o rs + 1)) && not (wraps (wanted_range o e))) && is_denied rs (wanted_range o e))
unfolding change_ranges
by_change rs o e f =
    ap not_granted_by
    (locked (locks e.flags) (lock_ranges rs o (wanted_range o e ∷ [])) (unlock_ranges rs (wanted_range o e ∷ [])) (locks_by e.flags f))
    ∙ by_lock rs o (wanted_range o e)

-- ---- all of them

module _ (s : Server) (m : Message) (o index number : ℕ) (e : Element) (q : m.command ≡ lock_of o index number e) (f : may_wait e.flags ≡ true) where
  abbrev rs : List Range
  rs = s.ranges (file_of s o)

  abbrev denied : Bool
  denied = is_denied rs (wanted_range o e)

  on_ranges : is_not_granted (lock_check s o index number (e ∷ []))
      ≡ (not (is_some (kept_lock s o index number)) && (not (is_directory s (file_of s o)) && (is_countable s o e && denied)))
  on_ranges =
      by_slot s o index number (e ∷ []) (kept_lock s o index number)
      ∙ ap (λ x. not (is_some (kept_lock s o index number)) && x)
      (by_file (is_directory s (file_of s o)) o index number (e ∷ []) (range_check o index number (e ∷ []) (change_ranges rs o (e ∷ [])))
      ∙ ap (λ x. not (is_directory s (file_of s o)) && x)
      (by_ranges o index number (e ∷ []) (change_ranges rs o (e ∷ [])) ∙ by_change rs o e f))

  in_its_tree : (pipes : Bool) → is_not_granted (tree_command s m pipes m.command)
      ≡ (is_of_tree s o m.session_id m.tree_id && (not (is_some (kept_lock s o index number))
      && (not (is_directory s (file_of s o)) && (is_countable s o e && denied))))
  in_its_tree pipes =
      ap (λ c. is_not_granted (tree_command s m pipes c)) q
      ∙ by_test (is_of_tree s o m.session_id m.tree_id) (lock_check s o index number (e ∷ [])) file_closed
      ∙ ap (λ x. is_of_tree s o m.session_id m.tree_id && x) on_ranges

  has_form : form m.command ≡ None
  has_form = ap form q ∙ is_formed (locks e.flags) (all_unlock (e ∷ [])) (locks_by e.flags f)

  -- as a chain
  chained : is_not_granted (check s m)
      ≡ ((is_setup m.command || has_session s m) && (not (is_some m.fault) && (is_some (tree_in (s.trees m.session_id) m.tree_id)
      && (is_of_tree s o m.session_id m.tree_id && (not (is_some (kept_lock s o index number))
      && (not (is_directory s (file_of s o)) && (is_countable s o e && denied)))))))
  chained =
      by_test (is_setup m.command || has_session s m) (owed s m m.fault) user_session_deleted
      ∙ ap (λ x. (is_setup m.command || has_session s m) && x)
      (by_owed s m m.fault
      ∙ ap (λ x. not (is_some m.fault) && x)
      (ap (λ x. is_not_granted (formed s m x)) has_form
      ∙ ap (λ c. is_not_granted (command_check s m c)) q
      ∙ by_tree s m (tree_in (s.trees m.session_id) m.tree_id) _ in_its_tree))

  no_setup : (is_setup m.command || has_session s m) ≡ has_session s m
  no_setup = ap (λ c. is_setup c || has_session s m) q

-- ---- the conditions, grouped

grouped : (a b c d g h i x : Bool) → (a && (b && (c && (d && (g && (h && (i && x))))))) ≡ (((a && (b && c)) && ((d && (g && h)) && i)) && x)
grouped true true true true true true i x = refl
grouped true true true true true false i x = refl
grouped true true true true false h i x = refl
grouped true true true false g h i x = refl
grouped true true false d g h i x = refl
grouped true false c d g h i x = refl
grouped false b c d g h i x = refl

-- none is found where none denies it
not_found_by : (b : Bool) (r : Range) (rs : List Range) (w : Range) → (is_denied rs w ≡ false → first_in_the_way rs w ≡ None)
    → (b || is_denied rs w) ≡ false → (if b then Some r else first_in_the_way rs w) ≡ None
not_found_by true r rs w rest h = absurd (cc)
not_found_by false r rs w rest h = rest h

not_found : (rs : List Range) (w : Range) → is_denied rs w ≡ false → first_in_the_way rs w ≡ None
unfolding is_denied first_in_the_way
not_found [] w h = refl
not_found (r ∷ rs) w h = not_found_by (ranges_conflict r w) r rs w (not_found rs w) h

either_way : (p d : Bool) (x : Option Range) → (d ≡ false → x ≡ None) → (if p && d then x else None) ≡ (if p then x else None)
either_way true true x h = refl
either_way true false x h = sym (h refl)
either_way false d x h = refl

awaits : (s : Server) (c : Command) (o index number : ℕ) (e : Element) → c ≡ lock_of o index number e → may_wait e.flags ≡ true
    → held_by s (awaited c) ≡ first_in_the_way (s.ranges (file_of s o)) (wanted_range o e)
awaits s c o index number e q f = rw q (held_one (may_wait e.flags) f)
  where
    held_one : (b : Bool) → b ≡ true → held_by s (if b then Some (wanted_range o e) else None)
        ≡ first_in_the_way (s.ranges (file_of s o)) (wanted_range o e)
    held_one true g = refl
    held_one false g = absurd (cc)

pub waits_exactly : (s : Server) (m : Message) (o index number : ℕ) (e : Element) → m.command ≡ lock_of o index number e
    → may_wait e.flags ≡ true → WaitsExactly s m o index number e
unfolding would_wait
waits_exactly s m o index number e q f =
    let x = first_in_the_way (s.ranges (file_of s o)) (wanted_range o e) in
    let d = is_denied (s.ranges (file_of s o)) (wanted_range o e) in
    ap (λ y. if is_not_granted (check s m) then y else None) (awaits s m.command o index number e q f)
    ∙ ap (λ b. if b then x else None)
    (chained s m o index number e q f
    ∙ ap (λ b. b && (not (is_some m.fault) && (is_some (tree_in (s.trees m.session_id) m.tree_id)
    && (is_of_tree s o m.session_id m.tree_id && (not (is_some (kept_lock s o index number))
    && (not (is_directory s (file_of s o)) && (is_countable s o e && d))))))) (no_setup s m o index number e q f)
    ∙ grouped (has_session s m) (not (is_some m.fault)) (is_some (tree_in (s.trees m.session_id) m.tree_id))
    (is_of_tree s o m.session_id m.tree_id) (not (is_some (kept_lock s o index number))) (not (is_directory s (file_of s o)))
    (is_countable s o e) d)
    ∙ either_way (comes_to_ranges s m o index number e) d x (not_found (s.ranges (file_of s o)) (wanted_range o e))
