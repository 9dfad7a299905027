-- Ranges of the opens that stay: what the server grants, the fold grants over fewer ranges.
use Rattle.std.proofs.Common.{eqb-true, ◌≡◌, ◌≢◌, ℕ, ◌+◌, nat_lt, Bool, true, false, if◌then◌else◌, List, [], ◌∷◌, ◌++◌}
use Rattle.std.proofs.Common.{length, refl, arith, sym, ◌∙◌, ap, Option, Some, None, slice_get, suc}
use Rattle.spec_exchange.specs.Status.{insufficient_resources, invalid_lock_range, lock_not_granted, range_not_locked}
use Rattle.spec_exchange.specs.Commands.{Element, is_exclusive, all_lock}
use Rattle.spec_exchange.specs.State.{Server, Range}
use Rattle.spec_exchange.specs.Ranges.{RangeAnswer, Stands, Denied, ranges_of, is_denied, any_wraps, count_owned}
use Rattle.spec_exchange.specs.Ranges.{add_ranges, is_equal_range, prepended, take_range, take_ranges, stands_or}
use Rattle.spec_exchange.specs.Ranges.{lock_ranges, unlock_ranges, change_ranges, without_owner, max_ranges}
use Rattle.spec_exchange.specs.Effects.{leaves, ranges_staying}
use Rattle.spec_exchange.specs.Fold.{ranges_that_stay}
use Rattle.law_records.specs.recovery.Recovers.{staying, kept_ranges}

pub kept_that_stay : (s : Server) (rs : List Range) → ranges_that_stay s rs ≡ kept_ranges (staying s.standing s.opened) rs
unfolding ranges_that_stay kept_ranges
kept_that_stay s [] = refl
kept_that_stay s (r ∷ rs) = let rest = kept_that_stay s rs in grind arith

pub kept_twice : (p : ℕ → Bool) (rs : List Range) → kept_ranges p (kept_ranges p rs) ≡ kept_ranges p rs
unfolding kept_ranges
kept_twice p [] = refl
kept_twice p (r ∷ rs) = let rest = kept_twice p rs in grind arith

pub kept_append : (p : ℕ → Bool) (rs ws : List Range) → kept_ranges p (rs ++ ws) ≡ kept_ranges p rs ++ kept_ranges p ws
unfolding kept_ranges
kept_append p [] ws = refl
kept_append p (r ∷ rs) ws = let rest = kept_append p rs ws in grind arith

pub kept_of : (p : ℕ → Bool) (o : ℕ) (es : List Element) → p o ≡ true → kept_ranges p (ranges_of o es) ≡ ranges_of o es
unfolding kept_ranges
kept_of p o [] h = refl
kept_of p o (e ∷ es) h = let rest = kept_of p o es h in grind arith

-- the tests agree on each range's owner
pub kept_same : (p q : ℕ → Bool) (rs : List Range) → ((n : ℕ) (r : Range) → slice_get rs n ≡ Some r → q r.owner
    ≡ p r.owner) → kept_ranges q rs ≡ kept_ranges p rs
unfolding kept_ranges
kept_same p q [] h = refl
kept_same p q (r ∷ rs) h = let here = h 0 r refl in let rest = kept_same p q rs (λ n. h (suc n)) in grind arith

pub kept_without : (p q : ℕ → Bool) (o : ℕ) (rs : List Range) → ((x : ℕ) → x ≢ o → q x ≡ p x)
    → kept_ranges q (without_owner o rs) ≡ without_owner o (kept_ranges p rs)
unfolding kept_ranges without_owner
kept_without p q o [] h = refl
kept_without p q o (r ∷ rs) h = let here = h r.owner in let rest = kept_without p q o rs h in grind arith

pub without_absent : (p : ℕ → Bool) (o : ℕ) (rs : List Range) → p o ≡ false → without_owner o (kept_ranges p rs) ≡ kept_ranges p rs
unfolding kept_ranges without_owner
without_absent p o [] h = refl
without_absent p o (r ∷ rs) h = let rest = without_absent p o rs h in grind arith

pub kept_ranges_staying : (s : Server) (p : ℕ → Bool) (session : ℕ) (rs : List Range)
    → ((o : ℕ) → leaves s session o ≡ true → p o ≡ false) → kept_ranges p (ranges_staying s session rs)
    ≡ kept_ranges p rs
unfolding kept_ranges ranges_staying
kept_ranges_staying s p session [] h = refl
kept_ranges_staying s p session (r ∷ rs) h = let here = h r.owner in let rest = kept_ranges_staying s p session rs h in grind arith

-- ---- locks

denied_kept : (p : ℕ → Bool) (rs : List Range) (w : Range) → is_denied rs w ≡ false → is_denied (kept_ranges p rs) w ≡ false
unfolding kept_ranges is_denied
denied_kept p [] w h = refl
denied_kept p (r ∷ rs) w h = let rest = denied_kept p rs w in grind arith

count_kept : (p : ℕ → Bool) (o : ℕ) (rs : List Range) → p o ≡ true → count_owned o (kept_ranges p rs) ≡ count_owned o rs
unfolding kept_ranges count_owned
count_kept p o [] h = refl
count_kept p o (r ∷ rs) h = let rest = count_kept p o rs h in grind arith

some_list : (x y : List Range) → Some x ≡ Some y → x ≡ y
some_list x y q = cc

abbrev one : ℕ → Element → Range
one o e = record { owner = o; at = e.at; length = e.length; exclusive = is_exclusive e.flags }

kept_one : (p : ℕ → Bool) (o : ℕ) (e : Element) (rs : List Range) → p o ≡ true → kept_ranges p (rs ++ one o e ∷ [])
    ≡ kept_ranges p rs ++ one o e ∷ []
unfolding kept_ranges
kept_one p o e [] h = grind arith
kept_one p o e (r ∷ rs) h = let rest = kept_one p o e rs h in grind arith

not_kept_one : (p : ℕ → Bool) (o : ℕ) (e : Element) (rs : List Range) → p o ≡ false → kept_ranges p (rs ++ one o e ∷ []) ≡ kept_ranges p rs
unfolding kept_ranges
not_kept_one p o e [] h = grind arith
not_kept_one p o e (r ∷ rs) h = let rest = not_kept_one p o e rs h in grind arith

added_kept : (p : ℕ → Bool) (o : ℕ) (es : List Element) (rs out : List Range) → p o ≡ true
    → add_ranges rs (ranges_of o es) ≡ Some out → add_ranges (kept_ranges p rs) (ranges_of o es)
    ≡ Some (kept_ranges p out)
unfolding add_ranges
added_kept p o [] rs out h e = ap (λ x. Some (kept_ranges p x)) (some_list rs out e)
added_kept p o (e ∷ es) rs out h stands =
    elim (is_denied rs (one o e)) as (λ b. is_denied rs (one o e) ≡ b → add_ranges (kept_ranges p rs)
    (ranges_of o (e ∷ es)) ≡ Some (kept_ranges p out)) [
      | true ↦ λ d. absurd (grind arith)
      | false ↦ λ d.
          let free = denied_kept p rs (one o e) d in let more = kept_one p o e rs h in let rest = added_kept p o es
          (rs ++ one o e ∷ []) out h in grind arith
    ] refl

added_plain : (p : ℕ → Bool) (o : ℕ) (es : List Element) (rs out : List Range) → p o ≡ false
    → add_ranges rs (ranges_of o es) ≡ Some out → kept_ranges p out ≡ kept_ranges p rs
unfolding add_ranges
added_plain p o [] rs out h e = ap (λ x. kept_ranges p x) (sym (some_list rs out e))
added_plain p o (e ∷ es) rs out h stands =
    elim (is_denied rs (one o e)) as (λ b. is_denied rs (one o e) ≡ b → kept_ranges p out ≡ kept_ranges p rs) [
      | true ↦ λ d. absurd (grind arith)
      | false ↦ λ d. let more = not_kept_one p o e rs h in let rest = added_plain p o es (rs ++ one o e ∷ []) out h in grind arith
    ] refl

-- ---- unlocks

same_owner : (r w : Range) → is_equal_range r w ≡ true → r.owner ≡ w.owner
same_owner r w e = eqb-true r.owner w.owner (grind arith)

prepended_some : (r : Range) (x : Option (List Range)) (out : List Range) → prepended r x ≡ Some out
    → (rest : List Range) × (x ≡ Some rest) × (out ≡ r ∷ rest)
unfolding prepended
prepended_some r None out e = absurd (cc)
prepended_some r (Some rest) out e = (rest, refl, cc)

took_kept : (p : ℕ → Bool) (w : Range) (rs out : List Range) → p w.owner ≡ true → take_range rs w ≡ Some out
    → take_range (kept_ranges p rs) w ≡ Some (kept_ranges p out)
unfolding kept_ranges take_range prepended
took_kept p w [] out h e = absurd (cc)
took_kept p w (r ∷ rs) out h e =
    elim (is_equal_range r w) as (λ b. is_equal_range r w ≡ b → take_range (kept_ranges p (r ∷ rs)) w ≡ Some (kept_ranges p out)) [
      | true ↦ λ q. let same = same_owner r w q in grind arith
      | false ↦ λ q. let found : prepended r (take_range rs w) ≡ Some out = grind arith in
          let parts = prepended_some r (take_range rs w) out found in let rest = took_kept p w rs parts.0 h parts.1 in
          let cut = parts.2 in grind arith
    ] refl

took_plain : (p : ℕ → Bool) (w : Range) (rs out : List Range) → p w.owner ≡ false → take_range rs w ≡ Some out
    → kept_ranges p out ≡ kept_ranges p rs
unfolding kept_ranges take_range prepended
took_plain p w [] out h e = absurd (cc)
took_plain p w (r ∷ rs) out h e =
    elim (is_equal_range r w) as (λ b. is_equal_range r w ≡ b → kept_ranges p out ≡ kept_ranges p (r ∷ rs)) [
      | true ↦ λ q. let same = same_owner r w q in grind arith
      | false ↦ λ q. let found : prepended r (take_range rs w) ≡ Some out = grind arith in
          let parts = prepended_some r (take_range rs w) out found in let rest = took_plain p w rs parts.0 h parts.1 in
          let cut = parts.2 in grind arith
    ] refl

took_all_kept : (p : ℕ → Bool) (o : ℕ) (es : List Element) (rs out : List Range) → p o ≡ true
    → take_ranges (Some rs) (ranges_of o es) ≡ Some out → take_ranges (Some (kept_ranges p rs)) (ranges_of o es)
    ≡ Some (kept_ranges p out)
unfolding take_ranges
took_all_kept p o [] rs out h e = ap (λ x. Some (kept_ranges p x)) (some_list rs out e)
took_all_kept p o (e ∷ es) rs out h stands = from (take_range rs (one o e)) refl stands (λ mid. took_all_kept p o es mid out h)
  where
    from : (x : Option (List Range)) → take_range rs (one o e) ≡ x → take_ranges x (ranges_of o es) ≡ Some out
        → ((mid : List Range) → take_ranges (Some mid) (ranges_of o es) ≡ Some out
        → take_ranges (Some (kept_ranges p mid)) (ranges_of o es) ≡ Some (kept_ranges p out))
        → take_ranges (take_range (kept_ranges p rs) (one o e)) (ranges_of o es) ≡ Some (kept_ranges p out)
    from None q t go = absurd (cc)
    from (Some mid) q t go = rw (took_kept p (one o e) rs mid h q) (go mid t)

took_all_plain : (p : ℕ → Bool) (o : ℕ) (es : List Element) (rs out : List Range) → p o ≡ false
    → take_ranges (Some rs) (ranges_of o es) ≡ Some out → kept_ranges p out ≡ kept_ranges p rs
unfolding take_ranges
took_all_plain p o [] rs out h e = ap (λ x. kept_ranges p x) (sym (some_list rs out e))
took_all_plain p o (e ∷ es) rs out h stands = from (take_range rs (one o e)) refl stands (λ mid. took_all_plain p o es mid out h)
  where
    from : (x : Option (List Range)) → take_range rs (one o e) ≡ x → take_ranges x (ranges_of o es) ≡ Some out
        → ((mid : List Range) → take_ranges (Some mid) (ranges_of o es) ≡ Some out → kept_ranges p out
        ≡ kept_ranges p mid) → kept_ranges p out ≡ kept_ranges p rs
    from None q t go = absurd (cc)
    from (Some mid) q t go = go mid t ∙ took_plain p (one o e) rs mid h q

-- ---- a LOCK request

granted : (status : ℕ) (x : Option (List Range)) (out : List Range) → stands_or status x ≡ Stands out → x ≡ Some out
unfolding stands_or
granted status None out e = absurd (cc)
granted status (Some y) out e = cc

locked_by : (full wraps : Bool) (x : Option (List Range)) (out : List Range)
    → (if full then Denied insufficient_resources else if wraps then Denied invalid_lock_range else stands_or
    lock_not_granted x) ≡ Stands out
    → full ≡ false × wraps ≡ false × x ≡ Some out
locked_by true wraps x out e = absurd (cc)
locked_by false true x out e = absurd (cc)
locked_by false false x out e = (refl, refl, granted lock_not_granted x out e)

unlocked_by : (wraps : Bool) (x : Option (List Range)) (out : List Range)
    → (if wraps then Denied invalid_lock_range else stands_or range_not_locked x) ≡ Stands out → wraps ≡ false × x
    ≡ Some out
unlocked_by true x out e = absurd (cc)
unlocked_by false x out e = (refl, granted range_not_locked x out e)

locked_facts : (rs ws : List Range) (o : ℕ) (out : List Range) → lock_ranges rs o ws ≡ Stands out
    → nat_lt max_ranges (count_owned o rs + length ws) ≡ false × any_wraps ws ≡ false × add_ranges rs ws ≡ Some out
unfolding lock_ranges
locked_facts rs ws o out e = locked_by (nat_lt max_ranges (count_owned o rs + length ws)) (any_wraps ws) (add_ranges rs ws) out e

unlocked_facts : (rs ws : List Range) (out : List Range) → unlock_ranges rs ws ≡ Stands out → any_wraps ws ≡ false
    × take_ranges (Some rs) ws ≡ Some out
unfolding unlock_ranges
unlocked_facts rs ws out e = unlocked_by (any_wraps ws) (take_ranges (Some rs) ws) out e

locked_kept : (p : ℕ → Bool) (o : ℕ) (es : List Element) (rs out : List Range) → p o ≡ true
    → lock_ranges rs o (ranges_of o es) ≡ Stands out → lock_ranges (kept_ranges p rs) o (ranges_of o es)
    ≡ Stands (kept_ranges p out)
unfolding lock_ranges stands_or
locked_kept p o es rs out h e =
    let f = locked_facts rs (ranges_of o es) o out e in rw (count_kept p o rs h, f.0, f.1, added_kept p o es rs out h f.2) refl

unlocked_kept : (p : ℕ → Bool) (o : ℕ) (es : List Element) (rs out : List Range) → p o ≡ true
    → unlock_ranges rs (ranges_of o es) ≡ Stands out → unlock_ranges (kept_ranges p rs) (ranges_of o es)
    ≡ Stands (kept_ranges p out)
unfolding unlock_ranges stands_or
unlocked_kept p o es rs out h e = let f = unlocked_facts rs (ranges_of o es) out e in rw (f.0, took_all_kept p o es rs out h f.1) refl

change_facts : (b : Bool) (x y : RangeAnswer) (out : List Range) (P : Type 0) → (if b then x else y) ≡ Stands out
    → (b ≡ true → x ≡ Stands out → P) → (b ≡ false → y ≡ Stands out → P) → P
change_facts true x y out P e f g = f refl e
change_facts false x y out P e f g = g refl e

pub changed_kept : (p : ℕ → Bool) (o : ℕ) (es : List Element) (rs out : List Range) → p o ≡ true → change_ranges rs o es
    ≡ Stands out → change_ranges (kept_ranges p rs) o es ≡ Stands (kept_ranges p out)
unfolding change_ranges
changed_kept p o es rs out h e =
    change_facts (all_lock es) (lock_ranges rs o (ranges_of o es)) (unlock_ranges rs (ranges_of o es)) out _ e
    (λ b q. rw b (locked_kept p o es rs out h q)) (λ b q. rw b (unlocked_kept p o es rs out h q))

pub changed_plain : (p : ℕ → Bool) (o : ℕ) (es : List Element) (rs out : List Range) → p o ≡ false
    → change_ranges rs o es ≡ Stands out → kept_ranges p out ≡ kept_ranges p rs
unfolding change_ranges
changed_plain p o es rs out h e =
    change_facts (all_lock es) (lock_ranges rs o (ranges_of o es)) (unlock_ranges rs (ranges_of o es)) out _ e
    (λ b q. added_plain p o es rs out h (locked_facts rs (ranges_of o es) o out q).2)
    (λ b q. took_all_plain p o es rs out h (unlocked_facts rs (ranges_of o es) out q).1)
