-- The least open that is past, among rows in any order.
use Rattle.std.proofs.Common.{◌≡◌, ℕ, ◌==◌, zero, suc, nat_eq, nat_lt, min, ◌⊎◌, inl, inr, slice_get}
use Rattle.std.proofs.Common.{Bool, true, false, if◌then◌else◌, List, [], ◌∷◌, Option, Some, None}
use Rattle.std.proofs.Common.{refl, sym, ap, subst, ◌∙◌, arith, eqb-true}
use Rattle.std.proofs.lemmas.Bool.Decides.{nat_tests}
use Rattle.std.specs.Map.{lookup, keys_of}
use Rattle.spec_exchange.specs.Table.{has}
use Rattle.spec_exchange.specs.Step.{is_past, due_in}
use Rattle.law_server.specs.tables.Fits.{is_ascending}
use Rattle.law_server.proofs.tables.Logic.{either}
use Rattle.store_opens.specs.declared.open_table.row.Row.{Row}
use Rattle.store_opens.specs.open_table.Due.{lesser, least_from, least_past_in, deadline_at}
use Rattle.store_opens.proofs.open_index.Lists.{absent_below, rest_ascends}
use Rattle.std.specs.HashMap.{HashMap, get}
use Rattle.std.specs.List.{All}
use Rattle.std.proofs.lemmas.Option.{get_or_from_slice_get, slice_get_within}
use Rattle.spec_exchange.specs.State as model
use Rattle.spec_exchange.specs.Step.{due}
use Rattle.law_server.specs.tables.Fits.{Fits}
use Rattle.store_opens.specs.declared.open_table.table.Opens.{Opens}
use Rattle.store_opens.specs.open_table.Shown.{ShowsOpens}
use Rattle.store_opens.proofs.open_table.Moved.{deadline_of}
use Rattle.store_opens.proofs.open_table.DatedLemmas.{due_congr, past_of, stands_past}

-- the least of a list that passes, beside one that was found before
abbrev pub least_passing : (ℕ → Bool) → Option ℕ → List ℕ → Option ℕ
least_passing p least [] = least
least_passing p least (x ∷ xs) = least_passing p (if p x then Some (lesser x least) else least) xs

-- what it tells: it passes, is in the list or was found before, and none of these is below it
pub record IsLeast (p : ℕ → Bool) (has_it : ℕ → Bool) (m : ℕ) : Type 0 where
  pub among : has_it m ≡ true
  pub passes : p m ≡ true
  pub below : (q : ℕ) → has_it q ≡ true → p q ≡ true → nat_lt q m ≡ false

abbrev pub LeastIs : (ℕ → Bool) → (ℕ → Bool) → Option ℕ → Type 0
LeastIs p has_it None = (q : ℕ) → has_it q ≡ true → p q ≡ false
LeastIs p has_it (Some m) = IsLeast p has_it m

two_least : (p a b : ℕ → Bool) (m n : ℕ) → IsLeast p a m → IsLeast p b n → ((q : ℕ) → p q ≡ true → a q ≡ b q) → m ≡ n
two_least p a b m n x y same =
    let l = x.below n (same n y.passes ∙ y.among) y.passes in
    let k = y.below m (sym (same m x.passes) ∙ x.among) x.passes in
    grind (arith, nat_tests)

no_least : (p a b : ℕ → Bool) (n : ℕ) → ((q : ℕ) → a q ≡ true → p q ≡ false) → IsLeast p b n → ((q : ℕ) → p q ≡ true → a q ≡ b q) → ⊥
no_least p a b n x y same = let e = x n (same n y.passes ∙ y.among) in let f = y.passes in cc

-- two leasts of the same members are the same
pub least_same : (p a b : ℕ → Bool) (u v : Option ℕ) → LeastIs p a u → LeastIs p b v → ((q : ℕ) → p q ≡ true → a q ≡ b q) → u ≡ v
least_same p a b None None x y same = refl
least_same p a b None (Some n) x y same = absurd (no_least p a b n x y same)
least_same p a b (Some m) None x y same = absurd (no_least p b a m y x (λ q k. sym (same q k)))
least_same p a b (Some m) (Some n) x y same = ap Some (two_least p a b m n x y same)

-- ---- of an ascending list

due_front : (deadline : ℕ → Option ℕ) (now x : ℕ) (xs : List ℕ) → is_ascending (x ∷ xs) ≡ true
    → is_past now (deadline x) ≡ true → IsLeast (λ o. is_past now (deadline o)) (λ o. has o (x ∷ xs)) x
due_front deadline now x xs a e =
    record { among = grind arith; passes = e; below = λ q k m. below q k (nat_lt q x) refl }
  where
    below : (q : ℕ) → has q (x ∷ xs) ≡ true → (b : Bool) → nat_lt q x ≡ b → nat_lt q x ≡ false
    below q k true l = let n = absent_below q x xs a l in absurd (cc)
    below q k false l = l

due_rest : (p : ℕ → Bool) (x : ℕ) (xs : List ℕ) (r : Option ℕ) → p x ≡ false → LeastIs p (λ o. has o xs) r
    → LeastIs p (λ o. has o (x ∷ xs)) r
due_rest p x xs None e h = λ q k. by q k (x == q) refl
  where
    by : (q : ℕ) → has q (x ∷ xs) ≡ true → (b : Bool) → (x == q) ≡ b → p q ≡ false
    by q k true f = subst (λ (z : ℕ). p z ≡ false) (eqb-true x q f) e
    by q k false f = h q (grind arith)
due_rest p x xs (Some m) e h =
    record { among = by_among (h.among); passes = h.passes; below = λ q k l. by q k l (x == q) refl }
  where
    by_among : has m xs ≡ true → has m (x ∷ xs) ≡ true
    by_among k = grind arith

    by : (q : ℕ) → has q (x ∷ xs) ≡ true → p q ≡ true → (b : Bool) → (x == q) ≡ b → nat_lt q m ≡ false
    by q k l true f = let g = subst (λ (z : ℕ). p z ≡ false) (eqb-true x q f) e in absurd (cc)
    by q k l false f = h.below q (grind arith) l

pub due_least : (deadline : ℕ → Option ℕ) (now : ℕ) (xs : List ℕ) → is_ascending xs ≡ true
    → LeastIs (λ o. is_past now (deadline o)) (λ o. has o xs) (due_in deadline xs now)
unfolding due_in
due_least deadline now [] a = λ q k. absurd (cc)
due_least deadline now (x ∷ xs) a =
    either (λ r. LeastIs (λ o. is_past now (deadline o)) (λ o. has o (x ∷ xs)) r) (is_past now (deadline x)) (Some x)
    (due_in deadline xs now)
    (λ e. due_front deadline now x xs a e) (λ e. due_rest (λ o. is_past now (deadline o)) x xs (due_in deadline xs now)
    e (due_least deadline now xs (rest_ascends x xs a)))

-- ---- of rows in any order

abbrev pub was : Option ℕ → ℕ → Bool
was None q = false
was (Some m) q = m == q

abbrev pub either_has : Option ℕ → List ℕ → ℕ → Bool
either_has least xs q = if was least q then true else has q xs

pub rest_more : (p a b : ℕ → Bool) (r : Option ℕ) → ((q : ℕ) → a q ≡ true → b q ≡ true)
    → ((q : ℕ) → b q ≡ true → p q ≡ true → (n : ℕ) × (a n ≡ true) × (p n ≡ true) × (nat_lt q n ≡ false)) → LeastIs p a r
    → LeastIs p b r
rest_more p a b None sub back h = λ q k. by q k (p q) refl
  where
    by : (q : ℕ) → b q ≡ true → (v : Bool) → p q ≡ v → p q ≡ false
    by q k true e = let w = back q k e in let f = h w.0 w.1 in let g = w.2 in absurd (cc)
    by q k false e = e
rest_more p a b (Some m) sub back h = record {
  among = sub m h.among;
  passes = h.passes;
  below = λ q k l. let w = back q k l in at_most q w.0 m w.3 (h.below w.0 w.1 w.2);
}
  where
    at_most : (q n m : ℕ) → nat_lt q n ≡ false → nat_lt n m ≡ false → nat_lt q m ≡ false
    at_most q n m a b = grind (arith, nat_tests)

min_is : (x m : ℕ) → (min x m ≡ x) ⊎ (min x m ≡ m)
min_is x m = by (nat_lt x m) refl
  where
    by : (b : Bool) → nat_lt x m ≡ b → (min x m ≡ x) ⊎ (min x m ≡ m)
    by true e = inl (grind (arith, nat_tests))
    by false e = inr (grind (arith, nat_tests))

min_passes : (p : ℕ → Bool) (x m : ℕ) → p x ≡ true → p m ≡ true → p (min x m) ≡ true
min_passes p x m a b = elim (min_is x m) [
  | inl e ↦ subst (λ (z : ℕ). p z ≡ true) (sym e) a
  | inr e ↦
      subst (λ (z : ℕ). p z ≡ true) (sym e) b
]

pub not_less : (q : ℕ) → nat_lt q q ≡ false
not_less q = grind (arith, nat_tests)

pub one_least : (p : ℕ → Bool) (n : ℕ) → p n ≡ true → LeastIs p (was (Some n)) (Some n)
one_least p n e = record {
  among = grind arith;
  passes = e;
  below = λ q k l. let f : n ≡ q = eqb-true n q k in subst (λ (z : ℕ). nat_lt z n ≡ false) f (not_less n);
}

pub same_id : (q : ℕ) → (q == q) ≡ true
same_id q = grind arith

skipped : (p : ℕ → Bool) (least : Option ℕ) (x : ℕ) (xs : List ℕ) (r : Option ℕ) → p x ≡ false
    → LeastIs p (either_has least xs) r → LeastIs p (either_has least (x ∷ xs)) r
skipped p least x xs r e h = rest_more p (either_has least xs) (either_has least (x ∷ xs)) r
    (λ q k. sub (was least q) (x == q) (has q xs) k) (λ q k l. (q, back q (was least q) k l, l, not_less q)) h
  where
    sub : (w v y : Bool) → (if w then true else y) ≡ true → (if w then true else (if v then true else y)) ≡ true
    sub true v y k = refl
    sub false true y k = refl
    sub false false y k = k

    back : (q : ℕ) (w : Bool) → (if w then true else has q (x ∷ xs)) ≡ true → p q ≡ true → (if w then true else has q xs) ≡ true
    back q true k l = refl
    back q false k l = by (x == q) refl k
      where
        by : (v : Bool) → (x == q) ≡ v → (if v then true else has q xs) ≡ true → has q xs ≡ true
        by true f k = let g = subst (λ (z : ℕ). p z ≡ false) (eqb-true x q f) e in absurd (cc)
        by false f k = k

taken : (p : ℕ → Bool) (m x : ℕ) (xs : List ℕ) (r : Option ℕ) → p x ≡ true → p m ≡ true
    → LeastIs p (either_has (Some (min x m)) xs) r → LeastIs p (either_has (Some m) (x ∷ xs)) r
taken p m x xs r a b h = rest_more p (either_has (Some (min x m)) xs) (either_has (Some m) (x ∷ xs)) r
    (λ q k. sub q (min x m == q) refl k) (λ q k l. back q l (m == q) refl k) h
  where
    here_x : (q : ℕ) → x ≡ q → either_has (Some m) (x ∷ xs) q ≡ true
    here_x q e = subst (λ (z : ℕ). either_has (Some m) (x ∷ xs) z ≡ true) e (by (m == x))
      where
        by : (v : Bool) → (if v then true else (if x == x then true else has x xs)) ≡ true
        by true = refl
        by false = rw (same_id x) refl

    here_m : (q : ℕ) → m ≡ q → either_has (Some m) (x ∷ xs) q ≡ true
    here_m q e = subst (λ (z : ℕ). either_has (Some m) (x ∷ xs) z ≡ true) e (rw (same_id m) refl)

    later : (q : ℕ) (v w : Bool) → has q xs ≡ true → (if v then true else (if w then true else has q xs)) ≡ true
    later q true w k = refl
    later q false true k = refl
    later q false false k = k

    sub : (q : ℕ) (v : Bool) → (min x m == q) ≡ v → (if v then true else has q xs) ≡ true → either_has (Some m) (x ∷ xs) q ≡ true
    sub q true e k = let f = eqb-true (min x m) q e in elim (min_is x m) [ inl g ↦ here_x q (sym g ∙ f) | inr g ↦ here_m q (sym g ∙ f) ]
    sub q false e k = later q (m == q) (x == q) k

    first : either_has (Some (min x m)) xs (min x m) ≡ true
    first = rw (same_id (min x m)) refl

    least : (q : ℕ) → nat_lt q (min x m) ≡ false → (n : ℕ) × (either_has (Some (min x m)) xs n ≡ true) × (p n ≡ true) × (nat_lt q n ≡ false)
    least q l = (min x m, first, min_passes p x m a b, l)

    above_m : (q : ℕ) → m ≡ q → nat_lt q (min x m) ≡ false
    above_m q e = grind (arith, nat_tests)

    above_x : (q : ℕ) → x ≡ q → nat_lt q (min x m) ≡ false
    above_x q e = grind (arith, nat_tests)

    rest : (q : ℕ) (v : Bool) → has q xs ≡ true → (if v then true else has q xs) ≡ true
    rest q true k = refl
    rest q false k = k

    back : (q : ℕ) → p q ≡ true → (v : Bool) → (m == q) ≡ v → (if v then true else has q (x ∷ xs)) ≡ true → (n : ℕ)
        × (either_has (Some (min x m)) xs n ≡ true) × (p n ≡ true) × (nat_lt q n ≡ false)
    back q l true e k = least q (above_m q (eqb-true m q e))
    back q l false e k = by (x == q) refl k
      where
        by : (w : Bool) → (x == q) ≡ w → (if w then true else has q xs) ≡ true → (n : ℕ)
            × (either_has (Some (min x m)) xs n ≡ true) × (p n ≡ true) × (nat_lt q n ≡ false)
        by true f k = least q (above_x q (eqb-true x q f))
        by false f k = (q, rest q (min x m == q) k, l, not_less q)

pub least_of : (p : ℕ → Bool) (least : Option ℕ) (xs : List ℕ) → LeastIs p (was least) least
    → LeastIs p (either_has least xs) (least_passing p least xs)
least_of p None [] h = λ q k. h q (grind arith)
least_of p (Some m) [] h = record { among = grind (arith, h.among); passes = h.passes; below = λ q k l. h.below q (grind arith) l }
least_of p None (x ∷ xs) h =
    either (λ r. LeastIs p (either_has None (x ∷ xs)) (least_passing p r xs)) (p x) (Some x) None
    (λ e. least_of p (Some x) xs (one_least p x e)) (λ e. skipped p None x xs _ e (least_of p None xs h))
least_of p (Some m) (x ∷ xs) h =
    either (λ r. LeastIs p (either_has (Some m) (x ∷ xs)) (least_passing p r xs)) (p x) (Some (min x m)) (Some m)
    (λ e. taken p m x xs _ e h.passes
    (least_of p (Some (min x m)) xs (one_least p (min x m) (min_passes p x m e h.passes))))
    (λ e. skipped p (Some m) x xs _ e (least_of p (Some m) xs h))

-- ---- of the rows of a map

pub rows_least : (now : ℕ) (look : ℕ → Option Row) (least : Option ℕ) (es : List (ℕ × Row))
    → ((k : ℕ) (e : ℕ × Row) → slice_get es k ≡ Some e → look e.0 ≡ Some e.1)
    → least_from now least es ≡ least_passing (λ q. is_past now (deadline_at (look q))) least (keys_of es)
rows_least now look least [] h = refl
rows_least now look least (e ∷ es) h =
    let r = rows_least now look (if is_past now e.1.deadline then Some (lesser e.0 least) else least) es (λ k d g. h (suc k) d g) in
    r ∙ ap (λ (v : Option Row). least_passing (λ q. is_past now (deadline_at (look q)))
    (if is_past now (deadline_at v) then Some (lesser e.0 least) else least) (keys_of es)) (sym (h zero e refl))

pub has_key : (q : ℕ) (es : List (ℕ × Row)) (r : Row) → lookup (λ k. nat_eq q k) es ≡ Some r → has q (keys_of es) ≡ true
has_key q [] r e = absurd (cc)
has_key q (e ∷ es) r k = by (λ g. has_key q es r g) (nat_eq q e.0) refl k
  where
    later : (b : Bool) → has q (keys_of es) ≡ true → (if b then true else has q (keys_of es)) ≡ true
    later true k = refl
    later false k = k

    by : (lookup (λ k. nat_eq q k) es ≡ Some r → has q (keys_of es) ≡ true) → (b : Bool) → nat_eq q e.0 ≡ b
        → (if b then Some e.1 else lookup (λ k. nat_eq q k) es) ≡ Some r → has q (e.0 ∷ keys_of es) ≡ true
    by rest true f g = let h : q ≡ e.0 = eqb-true q e.0 f in rw h (rw (same_id e.0) refl)
    by rest false f g = later (e.0 == q) (rest g)

-- the least of the rows is the open that is due
pub due_scanned : (t : Opens) (s : model.Server) (now : ℕ) → ShowsOpens t s → Fits s
    → ((k : ℕ) (e : ℕ × Row) → slice_get t.rows.entries k ≡ Some e → get nat_eq t.rows e.0 ≡ Some e.1)
    → least_past_in now t.rows.entries ≡ due s now
due_scanned t s now h i found =
    rows_least now (λ q. get nat_eq t.rows q) None t.rows.entries found
    ∙ least_same p (either_has None (keys_of t.rows.entries)) (λ o. has o s.opens)
    (least_passing p None (keys_of t.rows.entries)) (due_in dl s.opens now)
    (least_of p None (keys_of t.rows.entries) (λ q k. absurd (cc))) (due_least dl now s.opens i.ascending) (λ q k. same q k)
    ∙ sym (due_congr s.deadline dl now s.opens (λ o k. sym (deadline_of t s o h (sym (i.listed o) ∙ k))))
  where
    dl : ℕ → Option ℕ
    dl o = deadline_at (get nat_eq t.rows o)

    p : ℕ → Bool
    p o = is_past now (deadline_at (get nat_eq t.rows o))

    there : (q : ℕ) (r : Option Row) → get nat_eq t.rows q ≡ r → is_past now (deadline_at r) ≡ true → has q (keys_of t.rows.entries) ≡ true
    there q None e k = absurd (cc)
    there q (Some r) e k = has_key q t.rows.entries r e

    same : (q : ℕ) → is_past now (deadline_at (get nat_eq t.rows q)) ≡ true → has q (keys_of t.rows.entries) ≡ has q s.opens
    same q k =
        let a = past_of now (deadline_at (get nat_eq t.rows q)) k in
        there q (get nat_eq t.rows q) refl k ∙ sym (i.listed q ∙ stands_past t s q a.0 h a.1)

-- what a walk over the map says of its entries
pub found_rows : {S : Type 0} (m : HashMap ℕ Row S) → All (λ (e : ℕ × Row). get nat_eq m e.0 ≡ Some e.1) m.entries
    → (k : ℕ) (e : ℕ × Row) → slice_get m.entries k ≡ Some e → get nat_eq m e.0 ≡ Some e.1
found_rows m all k e g = subst (λ (p : ℕ × Row). get nat_eq m p.0 ≡ Some p.1) (get_or_from_slice_get m.entries k e e g)
    (all k e (slice_get_within m.entries k e g))
