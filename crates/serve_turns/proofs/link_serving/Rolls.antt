-- What is known of links where one begins to be served, and where the seat of one that was served is taken in.
use Rattle.std.proofs.Common.{◌≡◌, ℕ, zero, suc, ◌+◌, ◌<◌, ◌≤◌, List, [], ◌∷◌, ◌++◌, length, map, set, get_or, Option, None, Some, refl}
use Rattle.std.proofs.Common.{sym, ap, ◌∙◌, subst, append_assoc, arith, ◌⊎◌, inl, inr, ⊎_elim, Contains}
use Rattle.std.proofs.Common.{add-one, length-append}
use Rattle.std.proofs.lemmas.List.{get_or-set_same, get_or-set_other, length-map}
use Rattle.std.proofs.Common.{slice_index_or, swap_remove}
use Rattle.std.proofs.lemmas.List.Elements.{Contains-append_left, Contains-append_right, Contains-push}
use Rattle.std.proofs.lemmas.List.Sorted.{Contains-permutation, IsPermutation-swap_remove, IsPermutation-sym, length_permutation}
use Rattle.serve_turns.specs.declared.shared_book.view.Entry.{Entry}
use Rattle.serve_turns.specs.declared.shared_book.view.View.{View}
use Rattle.serve_turns.specs.shared_book.Numbers.{IsOneOf, numbers_of}
use Rattle.serve_turns.specs.shared_book.Turns.{made_with, rejoined, with_made}
use Rattle.serve_turns.specs.shared_book.Words.{lasting}
use Rattle.serve_turns.specs.link_serving.Serving.{AreAllServed, AreServed, EachServed, IsAmong}
use Rattle.serve_turns.specs.link_serving.Serving.{IsEndOf, IsNewSeat, Leaves, Link, WasServed}
use Rattle.serve_turns.proofs.shared_book.Numbers.{among_both, among_left, among_right, numbers_in-append}
use Rattle.serve_turns.proofs.shared_book.Views.{point, point-else, point-here}

ways : (x y : ℕ) → (x ≡ y) ⊎ (x ≡ y → ⊥)
ways x y = grind arith

inside_or_past : (x n : ℕ) → (x < n) ⊎ (n ≤ x)
inside_or_past x n = grind arith

one_value : {X : Type 0} (x y : X) → Some x ≡ Some y → x ≡ y
one_value x y e = cc

-- the end of one more link stands at its place, where the list has that place
module _ {X : Type 0} (ends new : List (Option X)) (place : ℕ) (end : X) (inside : place < length ends → new ≡ set ends place (Some end))
    (past : length ends ≤ place → new ≡ ends) where
  reads : (at : ℕ) (x : X) → get_or new at None ≡ Some x → ((at ≡ place) × (x ≡ end)) ⊎ (get_or ends at None ≡ Some x)
  reads at x e = by_place (inside_or_past place (length ends))
    where
      by_place : (place < length ends) ⊎ (length ends ≤ place) → ((at ≡ place) × (x ≡ end)) ⊎ (get_or ends at None ≡ Some x)
      by_place (inr l) = inr (sym (ap (λ l. get_or l at None) (past l)) ∙ e)
      by_place (inl l) = by_number (ways at place)
        where
          by_number : (at ≡ place) ⊎ (at ≡ place → ⊥) → ((at ≡ place) × (x ≡ end)) ⊎ (get_or ends at None ≡ Some x)
          by_number (inl q) = inl (
            q,
            one_value x end (sym e ∙ ap (λ l. get_or l at None) (inside l) ∙ ap (λ i. get_or (set ends place (Some end)) i None) q
                ∙ get_or-set_same ends place (Some end) None l),
          )
          by_number (inr q) = inr (sym (ap (λ l. get_or l at None) (inside l) ∙ get_or-set_other ends place at (Some end) None q) ∙ e)

  pub entered_told : place < length ends → get_or new place None ≡ Some end
  entered_told l = ap (λ l. get_or l place None) (inside l) ∙ get_or-set_same ends place (Some end) None l

  pub entered_others : (at : ℕ) → (at ≡ place → ⊥) → get_or new at None ≡ get_or ends at None
  entered_others at q = by_place (inside_or_past place (length ends))
    where
      by_place : (place < length ends) ⊎ (length ends ≤ place) → get_or new at None ≡ get_or ends at None
      by_place (inl l) = ap (λ l. get_or l at None) (inside l) ∙ get_or-set_other ends place at (Some end) None q
      by_place (inr l) = ap (λ l. get_or l at None) (past l)

-- a seat that was made has no entries, and none of its own were made or joined
pub new_seat : {B E R : Type 0} (opening : Option B) (n : ℕ) (v u : View B E R) → u ≡ made_with n v → opening ≡ v.opening
    → IsNewSeat opening u
new_seat opening n v u is same =
    (ap (λ w. w.opening) is ∙ sym same, ap (λ w. w.own) is, ap (λ w. w.ended) is, ap (λ w. w.made) is)

-- ---- links that are being served, by what serves them

among_map : {R K : Type 0} (link_of : R → Link K) (rs : List R) (x : Link K) → IsAmong x (map link_of rs) → (r : R) × Contains rs r ×
    (x ≡ link_of r)
among_map link_of [] x h = absurd h
among_map link_of (r ∷ rs) x h = ⊎_elim
    (λ (e : x ≡ link_of r). (r, (0, omega arith, refl), e))
    (λ (t : IsAmong x (map link_of rs)). let f = among_map link_of rs x t in let low = f.1.1 in
    (f.0, (suc f.1.0, omega arith, f.1.2), f.2)) h

among_at : {R K : Type 0} (link_of : R → Link K) (rs : List R) (r : R) (k : ℕ) → k < length rs → get_or rs k r ≡ r
    → IsAmong (link_of r) (map link_of rs)
among_at link_of [] r k low is = absurd (omega (arith, low))
among_at link_of (q ∷ rs) r zero low is = inl (ap link_of (sym is))
among_at link_of (q ∷ rs) r (suc k) low is = inr (among_at link_of rs r k (omega (arith, low)) is)

map_among : {R K : Type 0} (link_of : R → Link K) (rs : List R) (r : R) → Contains rs r → IsAmong (link_of r) (map link_of rs)
map_among link_of rs r h = among_at link_of rs r h.0 h.1 h.2

-- one of them has ended
pub leaves : {R K : Type 0} (link_of : R → Link K) (running rest : List R) (child : R) → Contains running child
    → ((r : R) → Contains running r → (child ≡ r) ⊎ Contains rest r) → ((r : R) → Contains rest r → Contains running r)
    → length running ≡ length rest + 1 → Leaves (link_of child) (map link_of running) (map link_of rest)
leaves link_of running rest child has goes stays size = record {
  was = map_among link_of running child has;
  goes = λ x h. let f = among_map link_of running x h in
      ⊎_elim (λ (e : child ≡ f.0). inl (f.2 ∙ ap link_of (sym e)))
      (λ (t : Contains rest f.0). inr (subst (λ y. IsAmong y (map link_of rest)) (sym f.2) (map_among link_of rest f.0 t)))
      (goes f.0 f.1);
  stays = λ x h. let f = among_map link_of rest x h in
      subst (λ y. IsAmong y (map link_of running)) (sym f.2) (map_among link_of running f.0 (stays f.0 f.1));
  one_less = length-map running link_of ∙ (size ∙ ap (λ (n : ℕ). n + 1) (sym (length-map rest link_of)));
}

one_behind : (n m : ℕ) → suc n ≡ m → m ≡ n + 1
one_behind n m e = sym e ∙ sym (add-one n)

module _ {R : Type 0} where
  pub popped_less : (old new : List R) (child : R) → old ≡ new ++ child ∷ [] → length old ≡ length new + 1
  popped_less old new child is = ap (λ (l : List R). length l) is ∙ length-append new (child ∷ [])

  pub popped_stays : (old new : List R) (child : R) → old ≡ new ++ child ∷ [] → (r : R) → Contains new r → Contains old r
  popped_stays old new child is r has = subst (λ (l : List R). Contains l r) (sym is) (Contains-append_left new (child ∷ []) r has)

  pub popped_was : (old new : List R) (child : R) → old ≡ new ++ child ∷ [] → Contains old child
  popped_was old new child is = subst (λ (l : List R). Contains l child) (sym is) (Contains-push new child)

  pub swapped_less : (old new : List R) (at : ℕ) (child : R) → at < length old → child ≡ slice_index_or old at child
      → new ≡ swap_remove old at child → length old ≡ length new + 1
  swapped_less old new at child low is swaps =
      subst (λ (l : List R). length old ≡ length l + 1) (sym swaps)
      (one_behind (length (swap_remove old at child)) (length old)
      (length_permutation old (child ∷ swap_remove old at child) (IsPermutation-swap_remove old at child low is)))

  pub swapped_stays : (old new : List R) (at : ℕ) (child : R) → at < length old → child ≡ slice_index_or old at child
      → new ≡ swap_remove old at child → (r : R) → Contains new r → Contains old r
  swapped_stays old new at child low is swaps r has =
      Contains-permutation (child ∷ swap_remove old at child) old r
      (IsPermutation-sym old (child ∷ swap_remove old at child) (IsPermutation-swap_remove old at child low is))
      (Contains-append_right (child ∷ []) (swap_remove old at child) r (subst (λ (l : List R). Contains l r) swaps has))

  pub swapped_was : (old : List R) (at : ℕ) (child : R) → at < length old → child ≡ slice_index_or old at child
      → Contains old child
  swapped_was old at child low is = (at, low, sym is)

-- the first of them has ended
pub first_leaves : {K : Type 0} (link : Link K) (rest : List (Link K)) → Leaves link (link ∷ rest) rest
first_leaves link rest = record { was = inl refl; goes = λ x h. h; stays = λ x h. inr h; one_less = omega arith }

pub last_first : {R K : Type 0} (link_of : R → Link K) (rs : List R) (r : R) (x : Link K) → IsAmong x (link_of r ∷ map link_of rs)
    → IsAmong x (map link_of (rs ++ r ∷ []))
last_first link_of [] r x h = h
last_first link_of (q ∷ rs) r x h = ⊎_elim
    (λ (e : x ≡ link_of r). inr (last_first link_of rs r x (inl e)))
    (λ (t : IsAmong x (link_of q ∷ map link_of rs)). ⊎_elim (λ (e : x ≡ link_of q). inl e)
    (λ (m : IsAmong x (map link_of rs)). inr (last_first link_of rs r x (inr m))) t) h

pub first_last : {R K : Type 0} (link_of : R → Link K) (rs : List R) (r : R) (x : Link K) → IsAmong x (map link_of (rs ++ r ∷ []))
    → IsAmong x (link_of r ∷ map link_of rs)
first_last link_of [] r x h = h
first_last link_of (q ∷ rs) r x h = ⊎_elim
    (λ (e : x ≡ link_of q). inr (inl e))
    (λ (t : IsAmong x (map link_of (rs ++ r ∷ []))). ⊎_elim (λ (e : x ≡ link_of r). inl e)
    (λ (m : IsAmong x (map link_of rs)). inr (inr m)) (first_last link_of rs r x t)) h

-- ---- what is known of the links

module _ {B E R X : Type 0} (serves : ℕ → View B E R → X → View B E R → Type 0) where
  abbrev Seat : Type 0
  Seat = ℕ × List (ℕ × Entry E R)

  abbrev Kept : Type 0
  Kept = List (List (Entry E R))

  wider_kept : (opening : Option B) (kept more : Kept) (history : List (Entry E R)) (number : ℕ) (end : X) (seat : Seat)
      → WasServed serves opening kept number end seat → WasServed serves opening (history ∷ (kept ++ more)) number end seat
  wider_kept opening kept more history number end seat s = record {
    from = s.from;
    to = s.to;
    by = s.by;
    none_before = s.none_before;
    opens = s.opens;
    is_number = s.is_number;
    own_are = s.own_are;
    before = history ∷ s.before;
    after = s.after ++ more;
    stands = ap (λ l. history ∷ (l ++ more)) s.stands ∙ ap (λ l. history ∷ l) (append_assoc s.before (s.to.history ∷ s.after) more);
  }

  -- what each seat that has ended served stays, where their names do
  each_stays : (seat_at seat_at' : ℕ → ℕ) (opening : Option B) (kept kept' : Kept) (count count' : ℕ)
      → ((place : ℕ) → place < count → (place < count') × (seat_at' place ≡ seat_at place))
      → ((number : ℕ) (end : X) (seat : Seat) → WasServed serves opening kept number end seat
      → WasServed serves opening kept' number end seat)
      → (ls : List (ℕ × X)) (xs : List Seat) → EachServed serves seat_at opening kept count ls xs
      → EachServed serves seat_at' opening kept' count' ls xs
  each_stays seat_at seat_at' opening kept kept' count count' names stays [] [] all = tt
  each_stays seat_at seat_at' opening kept kept' count count' names stays [] (x ∷ xs) all = absurd all
  each_stays seat_at seat_at' opening kept kept' count count' names stays (l ∷ ls) [] all = absurd all
  each_stays seat_at seat_at' opening kept kept' count count' names stays (l ∷ ls) (x ∷ xs) all =
      let n = names l.0 all.0 in (
        n.0,
        (all.1.0 ∙ sym n.1, stays (l.0 + 1) l.1 x all.1.1),
        each_stays seat_at seat_at' opening kept kept' count count' names stays ls xs all.2,
      )

  each_more : (seat_at : ℕ → ℕ) (opening : Option B) (kept : Kept) (count : ℕ) (ls ks : List (ℕ × X)) (xs ys : List Seat)
      → EachServed serves seat_at opening kept count ls xs → EachServed serves seat_at opening kept count ks ys
      → EachServed serves seat_at opening kept count (ls ++ ks) (xs ++ ys)
  each_more seat_at opening kept count [] ks [] ys first second = second
  each_more seat_at opening kept count [] ks (x ∷ xs) ys first second = absurd first
  each_more seat_at opening kept count (l ∷ ls) ks [] ys first second = absurd first
  each_more seat_at opening kept count (l ∷ ls) ks (x ∷ xs) ys first second =
      (first.0, first.1, each_more seat_at opening kept count ls ks xs ys first.2 second)

  end_left : (place : ℕ) (end : X) (ls ks : List (ℕ × X)) → IsEndOf place end ls → IsEndOf place end (ls ++ ks)
  end_left place end [] ks one = absurd one
  end_left place end (l ∷ ls) ks one = ⊎_elim (λ (h : (l.0 ≡ place) × (l.1 ≡ end)). inl h)
      (λ (t : IsEndOf place end ls). inr (end_left place end ls ks t)) one

  end_right : (place : ℕ) (end : X) (ls ks : List (ℕ × X)) → IsEndOf place end ks → IsEndOf place end (ls ++ ks)
  end_right place end [] ks one = one
  end_right place end (l ∷ ls) ks one = inr (end_right place end ls ks one)

  one_more : (n m count : ℕ) → n + m ≡ count → suc n + m ≡ count + 1
  one_more n m count e = omega (arith, e)

module _ {B E R X K : Type 0} (serves : ℕ → View B E R → X → View B E R → Type 0) (is_at : ℕ → K → Type 0) where
  -- the same links in another order
  pub same_served : (running same : List (Link K)) (count : ℕ) (ends : List (Option X)) (v : View B E R)
      → ((x : Link K) → IsAmong x same → IsAmong x running) → ((x : Link K) → IsAmong x running → IsAmong x same)
      → length same ≡ length running → AreServed serves is_at running count ends v → AreServed serves is_at same count ends v
  same_served running same count ends v less more size a = record {
    seat_at = a.seat_at;
    is_first = a.is_first;
    none_own = a.none_own;
    served_now = λ x h. a.served_now x (less x h);
    links = a.links;
    each = a.each;
    told = a.told;
    back = λ n h. ⊎_elim (λ (x : IsOneOf n (numbers_of v)). inl x)
        (λ (x : (place : ℕ) × (link : K) × IsAmong (place, n, link) running). inr (x.0, x.1, more (x.0, n, x.1) x.2)) (a.back n h);
    as_many = ap (λ (n : ℕ). n + length a.links) size ∙ a.as_many;
  }

  -- the next link begins to be served, by a seat of this number
  pub begins_served : (running : List (Link K)) (count : ℕ) (ends : List (Option X)) (n : ℕ) (link : K) (v w : View B E R)
      → w ≡ with_made n v
      → is_at count link → AreServed serves is_at running count ends v
      → AreServed serves is_at ((count, n, link) ∷ running) (count + 1) ends w
  begins_served running count ends n link v w is here a =
      subst (λ (z : View B E R). AreServed serves is_at ((count, n, link) ∷ running) (count + 1) ends z) (sym is)
      (let names : ℕ → ℕ = point count n a.seat_at in
      let still : (place : ℕ) → place < count → names place ≡ a.seat_at place = λ place low.
      point-else count n a.seat_at place (λ e. omega (arith, e, low)) in record {
        seat_at = names;
        is_first = a.is_first;
        none_own = a.none_own;
        served_now = λ x h. ⊎_elim
            (λ (e : x ≡ (count, n, link)). (
              let q : x.0 ≡ count = ap (λ (y : Link K). y.0) e in omega (arith, q),
              ap (λ (y : Link K). y.1) e ∙ sym (ap (λ (y : Link K). names y.0) e ∙ point-here count n a.seat_at),
              subst (λ (y : Link K). is_at y.0 y.2) (sym e) here,
            ))
            (λ (t : IsAmong x running). let y = a.served_now x t in
            let low = y.0 in (omega (arith, low), y.1 ∙ sym (still x.0 low), y.2)) h;
        links = a.links;
        each = each_stays serves a.seat_at names v.opening v.kept v.kept count (count + 1)
            (λ place low. (omega (arith, low), still place low))
            (λ number end seat s. s) a.links v.ended a.each;
        told = a.told;
        back = λ m h. ⊎_elim
            (λ (e : m ≡ n). inr (count, link, inl (ap (λ (k : ℕ). (count, k, link)) e)))
            (λ (t : IsOneOf m v.made). ⊎_elim (λ (x : IsOneOf m (numbers_of v)). inl x)
            (λ (x : (place : ℕ) × (other : K) × IsAmong (place, m, other) running). inr (x.0, x.1, inr x.2)) (a.back m t)) h;
        as_many = one_more serves (length running) (length a.links) count a.as_many;
      })

  -- one that was served has ended, and its seat is taken in
  module _ (ends new : List (Option X)) (place : ℕ) (end : X) (inside : place < length ends → new ≡ set ends place (Some end))
      (past : length ends ≤ place → new ≡ ends) (running rest : List (Link K)) (count : ℕ) (link : K) (from to v : View B E R)
      (is_new : IsNewSeat v.opening from) (lasts : lasting to ≡ lasting from) (by : is_at place link → serves (place + 1) from end to)
      (left : Leaves (place, to.number, link) running rest) (a : AreServed serves is_at running count ends v) where
    abbrev both : View B E R
    both = rejoined v to

    none_ended : to.ended ≡ []
    none_ended = ap (λ x. x.1.1.0) lasts ∙ is_new.2

    none_made : to.made ≡ []
    none_made = ap (λ x. x.1.1.1) lasts ∙ is_new.3

    was_here : (place < count) × (to.number ≡ a.seat_at place) × is_at place link
    was_here = a.served_now (place, to.number, link) left.was

    serves_here : WasServed serves v.opening both.kept (place + 1) end (to.number, to.own)
    serves_here = record {
      from = from;
      to = to;
      by = by was_here.2;
      none_before = is_new.1;
      opens = (is_new.0, ap (λ x. x.0) lasts ∙ is_new.0);
      is_number = (sym (ap (λ x. x.1.0) lasts), refl);
      own_are = refl;
      before = [];
      after = v.kept ++ to.kept;
      stands = refl;
    }

    still : (number : ℕ) (x : X) (seat : Seat serves) → WasServed serves v.opening v.kept number x seat
        → WasServed serves v.opening both.kept number x seat
    still number x seat s = wider_kept serves v.opening v.kept to.kept to.history number x seat s

    abbrev links_both : List (ℕ × X)
    links_both = a.links ++ (place, end) ∷ []

    each_both : EachServed serves a.seat_at v.opening both.kept count links_both both.ended
    each_both = each_more serves a.seat_at v.opening both.kept count a.links ((place, end) ∷ []) v.ended ((to.number, to.own) ∷ to.ended)
        (each_stays serves a.seat_at a.seat_at v.opening v.kept both.kept count count (λ p low. (low, refl)) still a.links v.ended a.each) (
          was_here.0,
          (was_here.1, serves_here),
          subst (λ (xs : List (Seat serves)). EachServed serves a.seat_at v.opening both.kept count [] xs) (sym none_ended) tt,
        )

    told_both : (at : ℕ) (x : X) → get_or new at None ≡ Some x → IsEndOf at x links_both
    told_both at x e = ⊎_elim
        (λ (h : (at ≡ place) × (x ≡ end)). end_right serves at x a.links ((place, end) ∷ []) (inl (sym h.0, sym h.1)))
        (λ (h : get_or ends at None ≡ Some x). end_left serves at x a.links ((place, end) ∷ []) (a.told at x h))
        (reads ends new place end inside past at x e)

    numbers_both : numbers_of both ≡ numbers_of v ++ numbers_of to
    numbers_both = ap (λ ns. v.number ∷ ns) (numbers_in-append v.ended ((to.number, to.own) ∷ to.ended))

    back_both : (n : ℕ) → IsOneOf n both.made
        → IsOneOf n (numbers_of both) ⊎ ((at : ℕ) × (other : K) × IsAmong (at, n, other) rest)
    back_both n h = ⊎_elim
        (λ (m : IsOneOf n v.made). ⊎_elim
        (λ (x : IsOneOf n (numbers_of v)). inl (subst (IsOneOf n) (sym numbers_both) (among_left n (numbers_of v) (numbers_of to) x)))
        (λ (x : (at : ℕ) × (other : K) × IsAmong (at, n, other) running). ⊎_elim
        (λ (e : (x.0, n, x.1) ≡ (place, to.number, link)). inl (subst (IsOneOf n) (sym numbers_both)
        (among_right n (numbers_of v) (numbers_of to) (inl (ap (λ (y : Link K). y.1) e)))))
        (λ (t : IsAmong (x.0, n, x.1) rest). inr (x.0, x.1, t)) (left.goes (x.0, n, x.1) x.2)) (a.back n m))
        (λ (m : IsOneOf n to.made). absurd (subst (IsOneOf n) none_made m))
        (among_both n v.made to.made h)

    as_many_both : length rest + length links_both ≡ count
    as_many_both = (let was = a.as_many in let less = left.one_less in let more = length-append a.links ((place, end) ∷ []) in
        omega (arith, was, less, more))

    ended_served : AreServed serves is_at rest count new both
    ended_served = record {
      seat_at = a.seat_at;
      is_first = a.is_first;
      none_own = a.none_own;
      served_now = λ x h. a.served_now x (left.stays x h);
      links = links_both;
      each = each_both;
      told = told_both;
      back = back_both;
      as_many = as_many_both;
    }

  pub entered_served : (ends new : List (Option X)) (place : ℕ) (end : X) → (place < length ends → new ≡ set ends place (Some end))
      → (length ends ≤ place → new ≡ ends) → (running rest : List (Link K)) (count : ℕ) (link : K) (from to v w : View B E R)
      → w ≡ rejoined v to → IsNewSeat v.opening from → lasting to ≡ lasting from → (is_at place link → serves (place + 1) from end to)
      → Leaves (place, to.number, link) running rest → AreServed serves is_at running count ends v → AreServed serves is_at rest count new w
  entered_served ends new place end inside past running rest count link from to v w is is_new lasts by left a =
      subst (AreServed serves is_at rest count new) (sym is)
      (ended_served ends new place end inside past running rest count link from to v is_new lasts by left a)

  -- a link that began to be served has ended at once
  pub at_once_served : (ends new : List (Option X)) (place n k : ℕ) (link : K) (v w x : View B E R)
      → ((running rest : List (Link K)) (count : ℕ) → Leaves (place, k, link) running rest → AreServed serves is_at running count ends w
      → AreServed serves is_at rest count new x) → k ≡ n → w ≡ with_made n v → (running : List (Link K)) → is_at place link
      → AreServed serves is_at running place ends v → AreServed serves is_at running (place + 1) new x
  at_once_served ends new place n k link v w x entered is made running here a =
      entered ((place, k, link) ∷ running) running (place + 1) (first_leaves (place, k, link) running)
      (begins_served running place ends k link v w (made ∙ ap (λ z. with_made z v) (sym is)) here a)

  -- nothing else is told where none is being served any more
  pub all_served : (count : ℕ) (ends : List (Option X)) (v : View B E R) → AreServed serves is_at [] count ends v
      → AreAllServed serves count ends v
  all_served count ends v a = record {
    seat_at = a.seat_at;
    is_first = a.is_first;
    none_own = a.none_own;
    served_now = λ x h. absurd h;
    links = a.links;
    each = a.each;
    told = a.told;
    back = λ n h. ⊎_elim (λ (x : IsOneOf n (numbers_of v)). inl x)
        (λ (x : (place : ℕ) × (link : K) × IsAmong (place, n, link) []). absurd x.2) (a.back n h);
    as_many = a.as_many;
  }

  module _ {T : Type 0} (link_of : T → Link K) where
    -- the same that serve them
    pub those_served : (running same : List T) (count : ℕ) (ends : List (Option X)) (v : View B E R) → same ≡ running
        → AreServed serves is_at (map link_of running) count ends v → AreServed serves is_at (map link_of same) count ends v
    those_served running same count ends v is a = subst (λ l. AreServed serves is_at (map link_of l) count ends v) (sym is) a

    pub none_served : (running : List T) (count : ℕ) (ends : List (Option X)) (v : View B E R) → length running ≡ 0
        → AreServed serves is_at (map link_of running) count ends v → AreServed serves is_at [] count ends v
    none_served [] count ends v none a = a
    none_served (r ∷ rs) count ends v none a = absurd (omega (arith, none))

    last_long : (running : List T) (child : T)
        → length (map link_of (running ++ child ∷ [])) ≡ length (link_of child ∷ map link_of running)
    last_long [] child = refl
    last_long (r ∷ rs) child = ap (λ (n : ℕ). suc n) (last_long rs child)

    -- the next link is served by one more
    pub one_more_served : (running old new : List T) (child : T) (place n : ℕ) (link : K) (ends : List (Option X)) (v w : View B E R)
        → old ≡ running → new ≡ old ++ child ∷ [] → link_of child ≡ (place, n, link) → w ≡ with_made n v → is_at place link
        → AreServed serves is_at (map link_of running) place ends v → AreServed serves is_at (map link_of new) (place + 1) ends w
    one_more_served running old new child place n link ends v w same is named made here a =
        subst (λ l. AreServed serves is_at (map link_of l) (place + 1) ends w) (sym (is ∙ ap (λ l. l ++ child ∷ []) same))
        (same_served (link_of child ∷ map link_of running) (map link_of (running ++ child ∷ [])) (place + 1) ends w
        (first_last link_of running child) (last_first link_of running child) (last_long running child)
        (subst (λ x. AreServed serves is_at (x ∷ map link_of running) (place + 1) ends w) (sym named)
        (begins_served (map link_of running) place ends n link v w made here a)))
