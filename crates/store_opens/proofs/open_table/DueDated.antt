-- The open that is due once those that recovery found have their deadlines.
use Rattle.std.proofs.Common.{◌≡◌, ℕ, ◌==◌, nat_eq, nat_lt, Bool, true, false, not, ◌&&◌, if◌then◌else◌, List, [], ◌∷◌}
use Rattle.std.proofs.Common.{Option, Some, None, is_some, refl, sym, subst, ◌∙◌, eqb-true}
use Rattle.std.specs.HashMap.{get}
use Rattle.spec_exchange.specs.Table.{has}
use Rattle.spec_exchange.specs.State as model
use Rattle.spec_exchange.specs.Effects.{deadline_behind}
use Rattle.spec_exchange.specs.Step.{first_deadline, with_deadlines, is_past, due}
use Rattle.law_server.specs.tables.Fits.{Fits}
use Rattle.law_server.proofs.tables.Logic.{both, front_of, back_of}
use Rattle.store_opens.specs.declared.open_table.row.Row.{Row}
use Rattle.store_opens.specs.declared.open_table.table.Opens.{Opens}
use Rattle.store_opens.specs.open_table.Rows.{OpenRowShown, open_of}
use Rattle.store_opens.specs.open_table.Due.{lesser, first_of, least_dated_in}
use Rattle.store_opens.specs.open_table.Shown.{ShowsOpens}
use Rattle.store_opens.proofs.open_table.DueLemmas.{passing, has_passing}
use Rattle.store_opens.proofs.open_table.Least.{least_passing, LeastIs, was, either_has, rest_more, least_of, least_same}
use Rattle.store_opens.proofs.open_table.Least.{due_least, one_least, not_less, same_id}

-- the least of those that pass is the least of their list
step : (p : ℕ → Bool) (least : Option ℕ) (x : ℕ) (xs : List ℕ)
    → ((l : Option ℕ) → least_passing p l xs ≡ least_passing (λ q. true) l (passing p xs)) → (b : Bool)
    → least_passing p (if b then Some (lesser x least) else least) xs ≡ least_passing (λ q. true) least
    (if b then x ∷ passing p xs else passing p xs)
step p least x xs rest true = rest (Some (lesser x least))
step p least x xs rest false = rest least

passing_least : (p : ℕ → Bool) (xs : List ℕ) (least : Option ℕ) → least_passing p least xs ≡ least_passing (λ q. true) least (passing p xs)
passing_least p [] least = refl
passing_least p (x ∷ xs) least = step p least x xs (passing_least p xs) (p x)

dated_list : (rows : ℕ → Option Row) (now : ℕ) (xs : List ℕ) (least : Option ℕ) → least_dated_in rows now xs least
    ≡ least_passing (λ o. is_past now (first_of now (rows o))) least xs
dated_list rows now [] least = refl
dated_list rows now (o ∷ os) least = dated_list rows now os (if is_past now (first_of now (rows o)) then Some (lesser o least) else least)

begins : (least : Option ℕ) → LeastIs (λ q. true) (was least) least
begins None = λ q k. absurd (cc)
begins (Some n) = one_least (λ q. true) n refl

to_all : (p a : ℕ → Bool) (r : Option ℕ) → LeastIs p a r → LeastIs (λ q. true) (λ q. a q && p q) r
to_all p a None h = λ q k. sym (back_of (a q) (p q) k) ∙ h q (front_of (a q) (p q) k)
to_all p a (Some m) h = record {
  among = both (a m) (p m) h.among h.passes;
  passes = refl;
  below = λ q k l. h.below q (front_of (a q) (p q) k) (back_of (a q) (p q) k);
}

-- what is past stays so
first_keeps : (now : ℕ) (stands : Bool) (session deadline : Option ℕ) (row : model.Open) → is_past now deadline ≡ true
    → is_past now (first_deadline now stands session row deadline) ≡ true
first_keeps now stands session None row e = absurd (cc)
first_keeps now true None (Some d) row e = e
first_keeps now true (Some x) (Some d) row e = e
first_keeps now false session (Some d) row e = e

first_past : (now : ℕ) (r : Row) (session deadline : Option ℕ)
    → is_past now (if not (is_some session) && not (is_some deadline) then Some (deadline_behind now r.timeout) else
    None) ≡ true
    → is_past now (first_deadline now true session (open_of r) deadline) ≡ true
first_past now r None None e = e
first_past now r None (Some d) e = absurd (cc)
first_past now r (Some x) deadline e = absurd (cc)

-- what is past by its first deadline alone has neither session nor deadline
newly_past : (now : ℕ) (session deadline : Option ℕ) (row : model.Open)
    → is_past now (first_deadline now true session row deadline) ≡ true → is_past now deadline ≡ false
    → (session ≡ None) × (deadline ≡ None)
newly_past now None None row e n = (refl, refl)
newly_past now None (Some d) row e n = absurd (cc)
newly_past now (Some x) deadline row e n = absurd (cc)

newly_row : (now : ℕ) (r : Row) (session deadline : Option ℕ) → session ≡ None → deadline ≡ None
    → is_past now (first_deadline now true session (open_of r) deadline) ≡ true
    → is_past now (if not (is_some session) && not (is_some deadline) then Some (deadline_behind now r.timeout) else None) ≡ true
newly_row now r None None e k l = l
newly_row now r None (Some d) e k l = absurd (cc)
newly_row now r (Some x) deadline e k l = absurd (cc)

pub due_dated : (t : Opens) (s : model.Server) (now : ℕ) → ShowsOpens t s → Fits s
    → least_dated_in (λ o. get nat_eq t.rows o) now t.undated.items (due s now) ≡ due (with_deadlines s now) now
due_dated t s now h i =
    dated_list rows now t.undated.items (due s now) ∙ passing_least found t.undated.items (due s now)
    ∙ least_same (λ q. true) all all (least_passing (λ q. true) (due s now) (passing found t.undated.items))
    (due (with_deadlines s now) now)
    (rest_more (λ q. true) some all (least_passing (λ q. true) (due s now) (passing found t.undated.items))
    (λ q k. sub q (due s now) (due_least s.deadline now s.opens i.ascending) k)
    (λ q k l. back q (due s now) (due_least s.deadline now s.opens i.ascending) k)
    (least_of (λ q. true) (due s now) (passing found t.undated.items) (begins (due s now))))
    (to_all past (λ q. has q s.opens) (due (with_deadlines s now) now) (due_least dated now s.opens i.ascending)) (λ q k. refl)
  where
    rows : ℕ → Option Row
    rows o = get nat_eq t.rows o

    found : ℕ → Bool
    found o = is_past now (first_of now (get nat_eq t.rows o))

    dated : ℕ → Option ℕ
    dated o = first_deadline now (s.standing o) (s.session_of_open o) (s.opened o) (s.deadline o)

    past : ℕ → Bool
    past o = is_past now (first_deadline now (s.standing o) (s.session_of_open o) (s.opened o) (s.deadline o))

    some : ℕ → Bool
    some q = either_has (due s now) (passing (λ o. is_past now (first_of now (get nat_eq t.rows o))) t.undated.items) q

    all : ℕ → Bool
    all q = has q s.opens && is_past now (first_deadline now (s.standing q) (s.session_of_open q) (s.opened q) (s.deadline q))

    -- a row whose first deadline is met
    by_row : (q : ℕ) (r : Option Row) → OpenRowShown r (s.standing q) (s.opened q) (s.session_of_open q) (s.sequence q)
        (s.deadline q) (s.enumeration_location q, s.current_byte_offset q) (s.lock_sequences q)
        → is_past now (first_of now r) ≡ true → all q ≡ true
    by_row q None e k = absurd (cc)
    by_row q (Some r) e k = both (has q s.opens) _ (i.listed q ∙ e.0)
        (rw (e.0, e.1.session_is, e.1.opened_is, e.1.deadline_is) (first_past now r r.session r.deadline k))

    listed_sub : (q : ℕ) → has q (passing found t.undated.items) ≡ true → all q ≡ true
    listed_sub q k = by_row q (get nat_eq t.rows q) (h.rows_are q) (back_of (has q t.undated.items) (found q)
        (sym (has_passing found q t.undated.items) ∙ k))

    sub : (q : ℕ) (d : Option ℕ) → LeastIs (λ o. is_past now (s.deadline o)) (λ o. has o s.opens) d
        → either_has d (passing found t.undated.items) q ≡ true → all q ≡ true
    sub q None l k = listed_sub q k
    sub q (Some m) l k = by (m == q) refl k
      where
        by : (b : Bool) → (m == q) ≡ b → (if b then true else has q (passing found t.undated.items)) ≡ true → all q ≡ true
        by true e k = subst (λ (z : ℕ). all z ≡ true) (eqb-true m q e)
            (both (has m s.opens) _ l.among (first_keeps now (s.standing m) (s.session_of_open m) (s.deadline m)
            (s.opened m) l.passes))
        by false e k = listed_sub q k

    by_place : (q : ℕ) (r : Option Row) → OpenRowShown r (s.standing q) (s.opened q) (s.session_of_open q) (s.sequence q)
        (s.deadline q) (s.enumeration_location q, s.current_byte_offset q) (s.lock_sequences q)
        → s.standing q ≡ true → s.session_of_open q ≡ None → s.deadline q ≡ None → past q ≡ true → is_past now (first_of now r) ≡ true
    by_place q None e st a b k = absurd (cc)
    by_place q (Some r) e st a b k = newly_row now r r.session r.deadline (sym e.1.session_is ∙ a) (sym e.1.deadline_is
        ∙ b) (rw (e.0, e.1.session_is, e.1.opened_is, e.1.deadline_is) at k)

    or_true : (b : Bool) → (if b then true else true) ≡ true
    or_true true = refl
    or_true false = refl

    newly : (q : ℕ) (d : Option ℕ) → s.standing q ≡ true → past q ≡ true → is_past now (s.deadline q) ≡ false
        → either_has d (passing found t.undated.items) q ≡ true
    newly q d st k n =
        let p = newly_past now (s.session_of_open q) (s.deadline q) (s.opened q)
        (subst (λ (b : Bool). is_past now (first_deadline now b (s.session_of_open q) (s.opened q) (s.deadline q))
        ≡ true) st k) n in
        let l : has q (passing found t.undated.items) ≡ true = has_passing found q t.undated.items
        ∙ both (has q t.undated.items) (found q) (h.undated q st p.0 p.1)
        (by_place q (get nat_eq t.rows q) (h.rows_are q) st p.0 p.1 k) in
        rw l (or_true (was d q))

    back : (q : ℕ) (d : Option ℕ) → LeastIs (λ o. is_past now (s.deadline o)) (λ o. has o s.opens) d → all q ≡ true
        → (n : ℕ) × (either_has d (passing found t.undated.items) n ≡ true) × (true ≡ true) × (nat_lt q n ≡ false)
    back q d l k = by d l (is_past now (s.deadline q)) refl
      where
        here : has q s.opens ≡ true
        here = front_of (has q s.opens) (past q) k

        by : (d : Option ℕ) → LeastIs (λ o. is_past now (s.deadline o)) (λ o. has o s.opens) d → (b : Bool) → is_past now (s.deadline q) ≡ b
            → (n : ℕ) × (either_has d (passing found t.undated.items) n ≡ true) × (true ≡ true) × (nat_lt q n ≡ false)
        by None l true e = let f = l q here in absurd (cc)
        by (Some m) l true e = (m, rw (same_id m) refl, refl, l.below q here e)
        by d l false e = (q, newly q d (sym (i.listed q) ∙ here) (back_of (has q s.opens) (past q) k) e, refl, not_less q)
