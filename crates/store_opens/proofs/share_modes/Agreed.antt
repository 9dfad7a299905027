-- The refusals that name a range, against the model's statuses.
use Rattle.std.proofs.Common.{◌≡◌, ℕ, suc, ◌+◌, ◌==◌, Bool, true, false, ◌&&◌, ◌||◌, if◌then◌else◌, List, [], ◌∷◌, ◌++◌}
use Rattle.std.proofs.Common.{length, map, is_some, refl, sym, ap, arith}
use Rattle.std.specs.Prelude.{Option, Some, None, option_map}
use Rattle.std.proofs.lemmas.Bool.Decides.{nat_tests}
use Rattle.spec_exchange.specs.Ranges as model
use Rattle.spec_exchange.specs.State as state
use Rattle.spec_exchange.specs.Status.{lock_not_granted, range_not_locked}
use Rattle.store_opens.specs.declared.share_modes.lists.Range.{Range}
use Rattle.store_opens.specs.share_modes.Locking.{LockingOutcome, Refused, range_of, locking_overlaps, first_conflict}
use Rattle.store_opens.specs.share_modes.Locking.{locking_wraps, first_wrapping, locking_count_owned}
use Rattle.store_opens.specs.share_modes.Locking.{has_too_many, leaves_too_many, locking_granted, granted_or, is_equal}
use Rattle.store_opens.specs.share_modes.Locking.{without_first, with_first, released}
use Rattle.store_opens.specs.share_modes.Locking.{released_or, lock_outcome, unlock_outcome, unless_wrapping}
use Rattle.store_opens.specs.declared.share_modes.ranges.RangeError.TheVariants.{TooMany}
use Rattle.store_opens.specs.share_modes.Answers.{AllOf, answer_of}

found : (b : Bool) (r : Range) (o : Option Range) (rest : Bool) → rest ≡ is_some o → (b || rest) ≡ is_some (if b then Some r else o)
found true r o rest e = refl
found false r o rest e = e

denied_is : (rs : List Range) (w : Range) → model.is_denied (map range_of rs) (range_of w) ≡ is_some (first_conflict rs w)
unfolding model.is_denied model.overlaps
denied_is [] w = refl
denied_is (r ∷ rs) w = found (locking_overlaps r w && (r.exclusive || w.exclusive)) r (first_conflict rs w)
    (model.is_denied (map range_of rs) (range_of w)) (denied_is rs w)

wrapping_is : (ws : List Range) → model.any_wraps (map range_of ws) ≡ is_some (first_wrapping ws)
unfolding model.any_wraps
wrapping_is [] = refl
wrapping_is (r ∷ rs) = found (locking_wraps r) r (first_wrapping rs) (model.any_wraps (map range_of rs)) (wrapping_is rs)

owned_is : (o : ℕ) (rs : List Range) → model.count_owned o (map range_of rs) ≡ locking_count_owned o rs
unfolding model.count_owned
owned_is o [] = refl
owned_is o (r ∷ rs) = ap (λ n. (if r.owner == o then 1 else 0) + n) (owned_is o rs)

one_behind : (rs : List Range) (w : Range) → map range_of (rs ++ w ∷ []) ≡ map range_of rs ++ range_of w ∷ []
one_behind [] w = refl
one_behind (r ∷ rs) w = ap (λ l. range_of r ∷ l) (one_behind rs w)

granted_is : (ws rs : List Range) → model.stands_or lock_not_granted (model.add_ranges (map range_of rs) (map range_of ws)) ≡ answer_of
    (locking_granted rs ws)
unfolding model.stands_or model.add_ranges
granted_is [] rs = refl
granted_is (w ∷ ws) rs = by (first_conflict rs w) refl (granted_is ws (rs ++ w ∷ []))
  where
    by : (o : Option Range) → first_conflict rs w ≡ o
        → model.stands_or lock_not_granted (model.add_ranges (map range_of (rs ++ w ∷ [])) (map range_of ws)) ≡ answer_of
        (locking_granted (rs ++ w ∷ []) ws)
        → model.stands_or lock_not_granted (if model.is_denied (map range_of rs) (range_of w) then None else model.add_ranges
        (map range_of rs ++ range_of w ∷ []) (map range_of ws))
        ≡ answer_of (granted_or o (locking_granted (rs ++ w ∷ []) ws))
    by None e h = rw (denied_is rs w, e, sym (one_behind rs w)) h
    by (Some r) e h = rw (denied_is rs w, e) refl

taken_if : (b : Bool) (r : Range) (rs : List Range) (o : Option (List Range)) (m : Option (List state.Range))
    → m ≡ option_map (map range_of) o
    → (if b then Some (map range_of rs) else model.prepended (range_of r) m) ≡ option_map (map range_of)
    (if b then Some rs else with_first r o)
unfolding model.prepended
taken_if true r rs o m e = refl
taken_if false r rs None m e = rw e refl
taken_if false r rs (Some l) m e = rw e refl

taken_is : (rs : List Range) (w : Range) → model.take_range (map range_of rs) (range_of w) ≡ option_map (map range_of) (without_first rs w)
unfolding model.take_range
taken_is [] w = refl
taken_is (r ∷ rs) w = taken_if (is_equal r w) r rs (without_first rs w) (model.take_range (map range_of rs) (range_of w)) (taken_is rs w)

released_is : (ws rs : List Range) → model.stands_or range_not_locked
    (model.take_ranges (Some (map range_of rs)) (map range_of ws)) ≡ answer_of (released rs ws)
unfolding model.stands_or model.take_ranges
released_is [] rs = refl
released_is (w ∷ ws) rs = by (without_first rs w) refl (released_is ws)
  where
    by : (o : Option (List Range)) → without_first rs w ≡ o
        → ((left : List Range) → model.stands_or range_not_locked
        (model.take_ranges (Some (map range_of left)) (map range_of ws)) ≡ answer_of (released left ws))
        → model.stands_or range_not_locked (model.take_ranges (model.take_range (map range_of rs) (range_of w)) (map range_of ws))
        ≡ answer_of (released_or w o (λ left. released left ws))
    by None e h = rw (taken_is rs w, e) refl
    by (Some left) e h = rw (taken_is rs w, e) (h left)

count_all : (o : ℕ) (ws : List Range) → AllOf o ws → locking_count_owned o ws ≡ length ws
count_all o [] a = refl
count_all o (w ∷ ws) a = let h = count_all o ws a.1 in let e = a.0 in grind (arith, nat_tests)

or_same : (b : Bool) → (b || b) ≡ b
or_same true = refl
or_same false = refl

or_none : (b : Bool) → (b || false) ≡ b
or_none true = refl
or_none false = refl

one_owner : (rs all : List Range) (o : ℕ) (w : Range) (ws : List Range) → AllOf o (w ∷ ws)
    → leaves_too_many rs all (w ∷ ws) ≡ has_too_many rs all o
one_owner rs all o w [] a = rw (a.0) (or_none (has_too_many rs all o))
one_owner rs all o w (v ∷ vs) a = rw (a.0, one_owner rs all o v vs a.1) (or_same (has_too_many rs all o))

length_map : (ws : List Range) → length (map range_of ws) ≡ length ws
length_map [] = refl
length_map (w ∷ ws) = ap suc (length_map ws)

wrapped : (o : Option Range) (rest : _) → (if is_some o then model.Denied 0xc000_01a1 else answer_of rest) ≡ answer_of
    (unless_wrapping o rest)
wrapped None rest = refl
wrapped (Some r) rest = refl

pub unlocks_agree : (rs ws : List Range) → model.unlock_ranges (map range_of rs) (map range_of ws) ≡ answer_of (unlock_outcome rs ws)
unfolding model.unlock_ranges
unlocks_agree rs ws = rw (wrapping_is ws, released_is ws rs) (wrapped (first_wrapping ws) (released rs ws))

pub locks_agree : (rs : List Range) (o : ℕ) (w : Range) (ws : List Range) → AllOf o (w ∷ ws)
    → model.lock_ranges (map range_of rs) o (map range_of (w ∷ ws)) ≡ answer_of (lock_outcome rs (w ∷ ws))
unfolding model.lock_ranges
locks_agree rs o w ws a =
    rw (
      owned_is o rs,
      length_map (w ∷ ws),
      sym (count_all o (w ∷ ws) a),
      wrapping_is (w ∷ ws),
      granted_is (w ∷ ws) rs,
      one_owner rs (w ∷ ws) o w ws a,
    )
    (by (has_too_many rs (w ∷ ws) o) _ (unless_wrapping (first_wrapping (w ∷ ws)) (locking_granted rs (w ∷ ws)))
    (wrapped (first_wrapping (w ∷ ws)) (locking_granted rs (w ∷ ws))))
  where
    by : (b : Bool) (m : model.RangeAnswer) (rest : LockingOutcome) → m ≡ answer_of rest
        → (if b then model.Denied 0xc000_009a else m) ≡ answer_of (if b then Refused TooMany else rest)
    by true m rest e = refl
    by false m rest e = e
