-- Columns of what is outstanding, as far as a list of numbers has come.
use Rattle.std.proofs.Common.{◌≡◌, ℕ, ◌<◌, ◌+◌, ◌==◌, Bool, true, false, if◌then◌else◌, List, [], ◌∷◌, ◌++◌, length, take, get_or}
use Rattle.std.proofs.Common.{refl, ap, sym, ◌∙◌, arith, subst, ◌⊎◌, inl, inr, Option, Some, None, is_some}
use Rattle.std.proofs.lemmas.List.{take_more}
use Rattle.base_lists.specs.declared.watch_lists.Link.{Link as Watch}
use Rattle.spec_exchange.specs.Table.{has, is_at, put}
use Rattle.spec_exchange.specs.Client.{Client, before_after_cut, before_after_end, cut_channel, on_after_cut}
use Rattle.client_rows.specs.declared.operation_rows.row.Row.{Row}
use Rattle.client_rows.proofs.operation_rows.Walking.{put_at, put_off}
use Rattle.client_rows.specs.Shown.{ShowsRows, lost}
use Rattle.client_tables.specs.cuts.Cutting.{cut_of, cut_one, end_all, end_of, end_one}

ways : (x y : ℕ) → (x ≡ y) ⊎ (x ≡ y → ⊥)
ways x y = grind arith

pub true_or_false : (b : Bool) → (b ≡ true) ⊎ (b ≡ false)
true_or_false true = inl refl
true_or_false false = inr refl

then_is : {X : Type 0} (b : Bool) (x y : X) → b ≡ true → (if b then x else y) ≡ x
then_is b x y e = ap (λ t. if t then x else y) e

else_is : {X : Type 0} (b : Bool) (x y : X) → b ≡ false → (if b then x else y) ≡ y
else_is b x y e = ap (λ t. if t then x else y) e

either : {X : Type 0} (b : Bool) (x y : X) → x ≡ y → (if b then x else y) ≡ y
either true x y e = e
either false x y e = refl

same : (x : ℕ) → (x == x) ≡ true
same x = grind arith

differs : (g x : ℕ) → (g ≡ x → ⊥) → (x == g) ≡ false
differs g x e = grind arith

-- ---- a list with one more

has_last : (x : ℕ) (xs : List ℕ) → has x (xs ++ x ∷ []) ≡ true
has_last x [] = then_is (x == x) true false (same x)
has_last x (y ∷ ys) = ap (λ b. if y == x then true else b) (has_last x ys) ∙ either (y == x) true true refl

pub has_other : (g x : ℕ) (xs : List ℕ) → (g ≡ x → ⊥) → has g (xs ++ x ∷ []) ≡ has g xs
has_other g x [] e = else_is (x == g) true false (differs g x e)
has_other g x (y ∷ ys) e = ap (λ b. if y == g then true else b) (has_other g x ys e)

-- a column whose numbers in a list went over, with one more: what went over stays
col_more : {X : Type 0} (old new : ℕ → X) (xs : List ℕ) (x : ℕ) (v : X)
    → v ≡ new x
    → (g : ℕ) → put (λ q. if has q xs then new q else old q) x v g ≡ (if has g (xs ++ x ∷ []) then new g else old g)
col_more old new xs x v w g =
    elim (ways g x) as (λ _. put (λ q. if has q xs then new q else old q) x v g ≡ (if has g (xs ++ x ∷ []) then new g else old g)) [
      | inl e ↦ put_at (λ q. if has q xs then new q else old q) x v g e ∙ w ∙ ap new (sym e)
          ∙ sym (then_is (has g (xs ++ x ∷ [])) (new g) (old g) (ap (λ q. has q (xs ++ x ∷ [])) e ∙ has_last x xs))
      | inr e ↦ put_off (λ q. if has q xs then new q else old q) x v g e
          ∙ ap (λ b. if b then new g else old g) (sym (has_other g x xs e))
    ]

put_same : {X : Type 0} (f : ℕ → X) (x : ℕ) (v : X) (g : ℕ) → v ≡ f x → put f x v g ≡ f g
put_same f x v g e =
    elim (ways g x) as (λ _. put f x v g ≡ f g) [
      | inl q ↦ put_at f x v g q ∙ e ∙ ap f (sym q)
      | inr q ↦ put_off f x v g q
    ]

-- ---- what is lost is lost once

on_lost : (k : ℕ) (o : Option ℕ) → is_at k o ≡ true → on_after_cut k o ≡ None
on_lost k None e = refl
on_lost k (Some j) e = then_is (j == k) None (Some j) e

on_stays : (k : ℕ) (o : Option ℕ) → is_at k o ≡ false → on_after_cut k o ≡ o
on_stays k None e = refl
on_stays k (Some j) e = else_is (j == k) None (Some j) e

before_lost : (k : ℕ) (o : Option ℕ) (asks before : Bool) → is_at k o ≡ true
    → before_after_cut k o asks before ≡ (if asks then before else true)
before_lost k None asks before e = absurd (cc)
before_lost k (Some j) asks before e = ap (λ t. if asks then before else if t then true else before) e

before_stays : (k : ℕ) (o : Option ℕ) (asks before : Bool) → is_at k o ≡ false → before_after_cut k o asks before ≡ before
before_stays k None asks before e = refl
before_stays k (Some j) asks before e =
    ap (λ t. if asks then before else if t then true else before) e ∙ either asks before before refl

on_twice : (k : ℕ) (o : Option ℕ) → on_after_cut k (on_after_cut k o) ≡ on_after_cut k o
on_twice k o =
    elim (true_or_false (is_at k o)) as (λ _. on_after_cut k (on_after_cut k o) ≡ on_after_cut k o) [
      | inl e ↦ ap (λ z. on_after_cut k z) (on_lost k o e) ∙ sym (on_lost k o e)
      | inr e ↦ ap (λ z. on_after_cut k z) (on_stays k o e)
    ]

before_twice : (k : ℕ) (o : Option ℕ) (asks before : Bool)
    → before_after_cut k (on_after_cut k o) asks (before_after_cut k o asks before) ≡ before_after_cut k o asks before
before_twice k o asks before =
    elim (true_or_false (is_at k o)) as (λ _. before_after_cut k (on_after_cut k o) asks (before_after_cut k o asks before)
    ≡ before_after_cut k o asks before) [
      | inl e ↦ ap (λ z. before_after_cut k z asks (before_after_cut k o asks before)) (on_lost k o e)
      | inr e ↦ ap (λ z. before_after_cut k z asks (before_after_cut k o asks before)) (on_stays k o e)
          ∙ before_stays k o asks (before_after_cut k o asks before) e
    ]

before_end_lost : (o : Option ℕ) (asks before : Bool) → is_some o ≡ true
    → before_after_end o asks before ≡ (if asks then before else true)
before_end_lost None asks before e = absurd (cc)
before_end_lost (Some j) asks before e = refl

on_none : (o : Option ℕ) → is_some o ≡ false → o ≡ None
on_none None e = refl
on_none (Some j) e = absurd (cc)

before_end_stays : (o : Option ℕ) (asks before : Bool) → is_some o ≡ false → before_after_end o asks before ≡ before
before_end_stays None asks before e = refl
before_end_stays (Some j) asks before e = absurd (cc)

-- ---- over rows

module _ (rows : List Row) (holders prices : List ℕ) (watchers : List Watch) (c : Client) where
  abbrev Shows : (ℕ → Option ℕ) → (ℕ → Bool) → Type 0
  Shows out un = ShowsRows rows holders prices watchers (record c { outstanding_on = out; unanswered = un })

  pub shows_same : (out out2 : ℕ → Option ℕ) (un un2 : ℕ → Bool) → ((g : ℕ) → out g ≡ out2 g) → ((g : ℕ) → un g ≡ un2 g)
      → Shows out un → Shows out2 un2
  shows_same out out2 un un2 e f s =
      let p : out ≡ out2 = λ t g. (e g) t in
      let q : un ≡ un2 = λ t g. (f g) t in
      subst (λ (z : ℕ → Bool). Shows out2 z) q (subst (λ (z : ℕ → Option ℕ). Shows z un) p s)

  -- one is outstanding on the channel, or isn't
  pub one_lost : (k x : ℕ) → is_at k (c.outstanding_on x) ≡ true → ShowsRows rows holders prices watchers (lost c x)
      → ShowsRows rows holders prices watchers (cut_one c k x)
  one_lost k x e s = shows_same (put c.outstanding_on x None) (put c.outstanding_on x (on_after_cut k (c.outstanding_on x)))
      (put c.unanswered x (if c.asks_attach x then c.unanswered x else true))
      (put c.unanswered x (before_after_cut k (c.outstanding_on x) (c.asks_attach x) (c.unanswered x)))
      (λ g. ap (λ z. put c.outstanding_on x z g) (sym (on_lost k (c.outstanding_on x) e)))
      (λ g. ap (λ z. put c.unanswered x z g) (sym (before_lost k (c.outstanding_on x) (c.asks_attach x) (c.unanswered x) e))) s

  pub one_stays : (k x : ℕ) → is_at k (c.outstanding_on x) ≡ false → ShowsRows rows holders prices watchers c
      → ShowsRows rows holders prices watchers (cut_one c k x)
  one_stays k x e s = shows_same c.outstanding_on (put c.outstanding_on x (on_after_cut k (c.outstanding_on x))) c.unanswered
      (put c.unanswered x (before_after_cut k (c.outstanding_on x) (c.asks_attach x) (c.unanswered x)))
      (λ g. sym (put_same c.outstanding_on x (on_after_cut k (c.outstanding_on x)) g (on_stays k (c.outstanding_on x) e)))
      (λ g. sym (put_same c.unanswered x (before_after_cut k (c.outstanding_on x) (c.asks_attach x) (c.unanswered x)) g
      (before_stays k (c.outstanding_on x) (c.asks_attach x) (c.unanswered x) e))) s

  -- the channel takes of one more
  pub cut_more : (k : ℕ) (xs : List ℕ) (x : ℕ) → ShowsRows rows holders prices watchers (cut_one (cut_of c k xs) k x)
      → ShowsRows rows holders prices watchers (cut_of c k (xs ++ x ∷ []))
  cut_more k xs x s =
      let d = cut_of c k xs in
      let e = cut_of c k (xs ++ x ∷ []) in
      shows_same (put d.outstanding_on x (on_after_cut k (d.outstanding_on x))) e.outstanding_on
      (put d.unanswered x (before_after_cut k (d.outstanding_on x) (d.asks_attach x) (d.unanswered x))) e.unanswered
      (col_more c.outstanding_on (λ g. on_after_cut k (c.outstanding_on g)) xs x (on_after_cut k (d.outstanding_on x))
      (on_either (has x xs)))
      (col_more c.unanswered (λ g. before_after_cut k (c.outstanding_on g) (c.asks_attach g) (c.unanswered g)) xs x
      (before_after_cut k (d.outstanding_on x) (d.asks_attach x) (d.unanswered x)) (before_either (has x xs))) s
    where
      on_either : (b : Bool) → on_after_cut k (if b then on_after_cut k (c.outstanding_on x) else c.outstanding_on x)
          ≡ on_after_cut k (c.outstanding_on x)
      on_either true = on_twice k (c.outstanding_on x)
      on_either false = refl

      before_either : (b : Bool) → before_after_cut k (if b then on_after_cut k (c.outstanding_on x) else c.outstanding_on x)
          (c.asks_attach x)
          (if b then before_after_cut k (c.outstanding_on x) (c.asks_attach x) (c.unanswered x) else c.unanswered x)
          ≡ before_after_cut k (c.outstanding_on x) (c.asks_attach x) (c.unanswered x)
      before_either true = before_twice k (c.outstanding_on x) (c.asks_attach x) (c.unanswered x)
      before_either false = refl

  -- and of all, where nothing else is outstanding
  pub cut_whole : (k : ℕ) (xs : List ℕ) → ((g : ℕ) → is_some (c.outstanding_on g) ≡ true → has g xs ≡ true)
      → ShowsRows rows holders prices watchers (cut_of c k xs)
      → ShowsRows rows holders prices watchers (cut_channel c k)
  cut_whole k xs w s =
      let d = cut_of c k xs in
      let r = shows_same d.outstanding_on (λ g. on_after_cut k (c.outstanding_on g)) d.unanswered
      (λ g. before_after_cut k (c.outstanding_on g) (c.asks_attach g) (c.unanswered g))
      (λ g. out_whole (c.outstanding_on g) (has g xs) (w g))
      (λ g. before_whole (c.outstanding_on g) (c.asks_attach g) (c.unanswered g) (has g xs) (w g)) s in
      record { places = r.places; sends = r.sends; stand = r.stand }
    where
      out_whole : (o : Option ℕ) (b : Bool) → (is_some o ≡ true → b ≡ true) → (if b then on_after_cut k o else o) ≡ on_after_cut k o
      out_whole None b p = either b None None refl
      out_whole (Some j) b p = then_is b (on_after_cut k (Some j)) (Some j) (p refl)

      before_whole : (o : Option ℕ) (asks before b : Bool) → (is_some o ≡ true → b ≡ true)
          → (if b then before_after_cut k o asks before else before) ≡ before_after_cut k o asks before
      before_whole None asks before b p = either b before before refl
      before_whole (Some j) asks before b p = then_is b (before_after_cut k (Some j) asks before) before (p refl)

  -- ---- the session's end

  pub end_lost : (x : ℕ) → is_some (c.outstanding_on x) ≡ true → ShowsRows rows holders prices watchers (lost c x)
      → ShowsRows rows holders prices watchers (end_one c x)
  end_lost x e s = shows_same (put c.outstanding_on x None) (put c.outstanding_on x None)
      (put c.unanswered x (if c.asks_attach x then c.unanswered x else true))
      (put c.unanswered x (before_after_end (c.outstanding_on x) (c.asks_attach x) (c.unanswered x))) (λ g. refl)
      (λ g. ap (λ z. put c.unanswered x z g) (sym (before_end_lost (c.outstanding_on x) (c.asks_attach x) (c.unanswered x) e))) s

  pub end_stays : (x : ℕ) → is_some (c.outstanding_on x) ≡ false → ShowsRows rows holders prices watchers c
      → ShowsRows rows holders prices watchers (end_one c x)
  end_stays x e s = shows_same c.outstanding_on (put c.outstanding_on x None) c.unanswered
      (put c.unanswered x (before_after_end (c.outstanding_on x) (c.asks_attach x) (c.unanswered x)))
      (λ g. sym (put_same c.outstanding_on x None g (sym (on_none (c.outstanding_on x) e))))
      (λ g. sym (put_same c.unanswered x (before_after_end (c.outstanding_on x) (c.asks_attach x) (c.unanswered x)) g
      (before_end_stays (c.outstanding_on x) (c.asks_attach x) (c.unanswered x) e))) s

  pub end_more : (xs : List ℕ) (x : ℕ) → ShowsRows rows holders prices watchers (end_one (end_of c xs) x)
      → ShowsRows rows holders prices watchers (end_of c (xs ++ x ∷ []))
  end_more xs x s =
      let d = end_of c xs in
      let e = end_of c (xs ++ x ∷ []) in
      shows_same (put d.outstanding_on x None) e.outstanding_on
      (put d.unanswered x (before_after_end (d.outstanding_on x) (d.asks_attach x) (d.unanswered x))) e.unanswered
      (col_more c.outstanding_on (λ g. None) xs x None refl)
      (col_more c.unanswered (λ g. before_after_end (c.outstanding_on g) (c.asks_attach g) (c.unanswered g)) xs x
      (before_after_end (d.outstanding_on x) (d.asks_attach x) (d.unanswered x)) (before_either (has x xs))) s
    where
      before_either : (b : Bool) → before_after_end (if b then None else c.outstanding_on x) (c.asks_attach x)
          (if b then before_after_end (c.outstanding_on x) (c.asks_attach x) (c.unanswered x) else c.unanswered x)
          ≡ before_after_end (c.outstanding_on x) (c.asks_attach x) (c.unanswered x)
      before_either true = refl
      before_either false = refl

  pub end_whole : (xs : List ℕ) → ((g : ℕ) → is_some (c.outstanding_on g) ≡ true → has g xs ≡ true)
      → ShowsRows rows holders prices watchers (end_of c xs) → ShowsRows rows holders prices watchers (end_all c)
  end_whole xs w s =
      let d = end_of c xs in
      shows_same d.outstanding_on (λ g. None) d.unanswered
      (λ g. before_after_end (c.outstanding_on g) (c.asks_attach g) (c.unanswered g))
      (λ g. out_whole (c.outstanding_on g) (has g xs) (w g))
      (λ g. before_whole (c.outstanding_on g) (c.asks_attach g) (c.unanswered g) (has g xs) (w g)) s
    where
      out_whole : (o : Option ℕ) (b : Bool) → (is_some o ≡ true → b ≡ true) → (if b then None else o) ≡ None
      out_whole None b p = either b None None refl
      out_whole (Some j) b p = then_is b None (Some j) (p refl)

      before_whole : (o : Option ℕ) (asks before b : Bool) → (is_some o ≡ true → b ≡ true)
          → (if b then before_after_end o asks before else before) ≡ before_after_end o asks before
      before_whole None asks before b p = either b before before refl
      before_whole (Some j) asks before b p = then_is b (before_after_end (Some j) asks before) before (p refl)

-- the front of a list, with the next one
pub cut_next : (rows : List Row) (holders prices : List ℕ) (watchers : List Watch) (c : Client) (k : ℕ) (xs : List ℕ) (i : ℕ)
    → i < length xs → ShowsRows rows holders prices watchers (cut_one (cut_of c k (take i xs)) k (get_or xs i 0))
    → ShowsRows rows holders prices watchers (cut_of c k (take (i + 1) xs))
cut_next rows holders prices watchers c k xs i l s =
    subst (λ (z : List ℕ). ShowsRows rows holders prices watchers (cut_of c k z)) (sym (take_more xs i 0 l))
    (cut_more rows holders prices watchers c k (take i xs) (get_or xs i 0) s)

pub end_next : (rows : List Row) (holders prices : List ℕ) (watchers : List Watch) (c : Client) (xs : List ℕ) (i : ℕ)
    → i < length xs → ShowsRows rows holders prices watchers (end_one (end_of c (take i xs)) (get_or xs i 0))
    → ShowsRows rows holders prices watchers (end_of c (take (i + 1) xs))
end_next rows holders prices watchers c xs i l s =
    subst (λ (z : List ℕ). ShowsRows rows holders prices watchers (end_of c z)) (sym (take_more xs i 0 l))
    (end_more rows holders prices watchers c (take i xs) (get_or xs i 0) s)
