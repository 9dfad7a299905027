-- An order is legal where each place keeps a few facts, none of which looks into bytes.
use Rattle.std.proofs.Common.{◌≡◌, ◌≢◌, ◌⊎◌, inl, inr, ℕ, zero, suc, ◌+◌, ◌-◌, ◌≤◌, ◌<◌, ◌==◌, nat_lt, eqb-true, Bool}
use Rattle.std.proofs.Common.{true, false, ◌&&◌, if◌then◌else◌, List, ◌∷◌, refl, sym, subst, ap, ◌∙◌, arith, Option}
use Rattle.std.proofs.Common.{Some, None, is_some}
use Rattle.std.proofs.lemmas.Bool.{eqb-false}
use Rattle.std.proofs.lemmas.Bool.Decides.{nat_tests}
use Rattle.spec_exchange.specs.Content.{ContentOp, ContentReply, effect, value, past_end, is_change}
use Rattle.spec_exchange.specs.Order.{Account, Says_ok, Says_end, Settlement, Unsettled, Settled_ok, Settled_end}
use Rattle.spec_exchange.specs.Order.{Settled_refused, Settled_unknown, placed, place, is_at, is_of, is_entry}
use Rattle.spec_exchange.specs.Order.{order_from, order_of, bytes_at_birth, bytes_at_last, Fits, is_settled_ok, is_firm}
use Rattle.spec_exchange.specs.Order.{applies, Replays, count, precedes, Legal}
use Rattle.spec_exchange.proofs.Content.{value-change, past_end-change}

-- What each place and each operation of an open keeps: the open's messages are those from its birth on.
pub record PlaceFacts (a : Account) (o : ℕ) : Type 0 where
  pub birth_le : a.log.birth o ≤ a.log.places
  -- a message that acts is its operation's first that does, and has its effect
  pub acted : (n : ℕ) → a.log.birth o ≤ n → n < a.log.places → is_of a o (a.log.who n) ≡ true → a.log.did n ≡ true
      → a.log.first (a.log.who n) ≡ Some n × is_change (a.ops (a.log.who n)) ≡ true × a.log.bytes o (n + 1)
      ≡ effect (a.ops (a.log.who n)) (a.log.bytes o n)
  -- one that doesn't act leaves the bytes, and so does another open's
  pub unacted : (n : ℕ) → a.log.birth o ≤ n → n < a.log.places → a.log.did n ≡ false → a.log.bytes o (n + 1) ≡ a.log.bytes o n
  pub foreign : (n : ℕ) → a.log.birth o ≤ n → n < a.log.places → is_of a o (a.log.who n) ≡ false → a.log.bytes o (n + 1) ≡ a.log.bytes o n
  -- each reply is the content machine's
  pub gave : (n : ℕ) (v : ContentReply) → a.log.birth o ≤ n → n < a.log.places → is_of a o (a.log.who n) ≡ true → a.log.gave n ≡ Says_ok v
      → value (a.ops (a.log.who n)) (a.log.bytes o n) ≡ v × a.log.bytes o (n + 1) ≡ effect (a.ops (a.log.who n))
      (a.log.bytes o n) × past_end (a.ops (a.log.who n)) (a.log.bytes o n) ≡ false
  pub gave_end : (n : ℕ) → a.log.birth o ≤ n → n < a.log.places → is_of a o (a.log.who n) ≡ true → a.log.gave n
      ≡ Says_end → past_end (a.ops (a.log.who n)) (a.log.bytes o n) ≡ true
  -- where an operation acted first, and where the reply that settled it was made
  pub first_at : (g p : ℕ) → is_of a o g ≡ true → a.log.first g ≡ Some p → a.log.birth o ≤ p × p < a.log.places
      × a.log.who p ≡ g × a.log.did p ≡ true
  pub by_at : (g p : ℕ) → is_of a o g ≡ true → a.settled_by g ≡ Some p → a.log.birth o ≤ p × p < a.log.places × a.log.who p ≡ g
  pub by_ok : (g p : ℕ) (v : ContentReply) → is_of a o g ≡ true → a.settled_by g ≡ Some p → a.settlement g
      ≡ Settled_ok v → a.log.gave p ≡ Says_ok v
  pub by_end : (g p : ℕ) → is_of a o g ≡ true → a.settled_by g ≡ Some p → a.settlement g ≡ Settled_end → a.log.gave p ≡ Says_end
  pub by_some : (g : ℕ) → is_of a o g ≡ true → is_firm (a.settlement g) ≡ true → is_some (a.settled_by g) ≡ true
  -- what settled before h was first pushed has its place before that push, and h has its own behind it
  pub prior : (g h p : ℕ) → is_of a o g ≡ true → a.log.prior h g ≡ true → place a g ≡ Some p → p < a.log.since h
  pub since : (h p : ℕ) → is_of a o h ≡ true → place a h ≡ Some p → a.log.since h ≤ p

at_place : (n : ℕ) (o : Option ℕ) → is_at n o ≡ true → o ≡ Some n
at_place n o h = grind arith

both : (a b : Bool) → (a && b) ≡ true → a ≡ true × b ≡ true
both a b h = grind arith

some_same : (x y : ℕ) → Some x ≡ Some y → x ≡ y
some_same x y h = grind arith

-- ---- the bytes

unplaced : (did : Bool) (first by : Option ℕ) (n : ℕ) (new old : List ℕ) → (did ≡ true → first ≡ Some n)
    → (did ≡ false → new ≡ old) → is_at n (placed first by) ≡ false → new ≡ old
unplaced did first by n new old d u h = grind arith

-- a place that is no entry leaves the bytes
skipped : (a : Account) (o n : ℕ) → PlaceFacts a o → a.log.birth o ≤ n → n < a.log.places → is_entry a o n ≡ false
    → a.log.bytes o (n + 1) ≡ a.log.bytes o n
skipped a o n f b l h =
    elim (is_of a o (a.log.who n)) as (λ t. is_of a o (a.log.who n) ≡ t → a.log.bytes o (n + 1) ≡ a.log.bytes o n) [
      | true ↦ λ e. unplaced (a.log.did n) (a.log.first (a.log.who n)) (a.settled_by (a.log.who n)) n _ _
          (λ d. let x = f.acted n b l e d in x.0) (f.unacted n b l) (rest_false _ _ h e)
      | false ↦ λ e. f.foreign n b l e
    ] refl
  where
    rest_false : (a b : Bool) → (a && b) ≡ false → b ≡ true → a ≡ false
    rest_false a b h e = grind arith

taken_by : (did ok : Bool) (first by : Option ℕ) (n : ℕ) (new old after : List ℕ) → (did ≡ true → first ≡ Some n)
    → (did ≡ true → new ≡ after) → (did ≡ false → new ≡ old) → (first ≡ Some n → did ≡ true)
    → (ok ≡ true → by ≡ Some n → new ≡ after)
    → placed first by ≡ Some n → new ≡ (if (if is_some first then true else ok) then after else old)
taken_by did ok first by n new old after c d u f b h = grind arith

-- an entry changes the bytes as the order says
taken : (a : Account) (o n : ℕ) → PlaceFacts a o → a.log.birth o ≤ n → n < a.log.places → is_of a o (a.log.who n) ≡ true
    → place a (a.log.who n) ≡ Some n
    → a.log.bytes o (n + 1) ≡ (if applies a (a.log.who n) then effect (a.ops (a.log.who n)) (a.log.bytes o n) else a.log.bytes o n)
taken a o n f b l k h =
    taken_by (a.log.did n) (is_settled_ok (a.settlement (a.log.who n))) (a.log.first (a.log.who n))
    (a.settled_by (a.log.who n)) n _ _ _ (λ d. let x = f.acted n b l k d in x.0) (λ d. let x = f.acted n b l k d in
    x.2) (f.unacted n b l) (λ e. let x = f.first_at (a.log.who n) n k e in x.3)
    (by_settled (a.settlement (a.log.who n)) refl) h
  where
    by_settled : (s : Settlement) → a.settlement (a.log.who n) ≡ s → is_settled_ok s ≡ true → a.settled_by (a.log.who n)
        ≡ Some n → a.log.bytes o (n + 1) ≡ effect (a.ops (a.log.who n)) (a.log.bytes o n)
    by_settled Unsettled e t p = absurd (cc)
    by_settled (Settled_ok v) e t p = let x = f.gave n v b l k (f.by_ok (a.log.who n) n v k p e) in x.1
    by_settled Settled_end e t p = absurd (cc)
    by_settled Settled_refused e t p = absurd (cc)
    by_settled Settled_unknown e t p = absurd (cc)

-- ---- the replies

acted_change : (a : Account) (o n : ℕ) → PlaceFacts a o → a.log.birth o ≤ n → n < a.log.places → is_of a o (a.log.who n)
    ≡ true → a.log.first (a.log.who n) ≡ Some n → is_change (a.ops (a.log.who n)) ≡ true
acted_change a o n f b l k e = let x = f.first_at (a.log.who n) n k e in let y = f.acted n b l k x.3 in y.1

by_place : (first by : Option ℕ) (n q : ℕ) → placed first by ≡ Some n → by ≡ Some q → (first ≡ Some n) ⊎ (q ≡ n)
by_place None by n q p e = inr (some_same q n (sym e ∙ p))
by_place (Some x) by n q p e = inl p

-- the reply at another place of the same operation is the same, if the operation acted here
same_reply : (op : ContentOp) (v : ContentReply) (first : Option ℕ) (n q : ℕ) (c d : List ℕ) → value op d ≡ v
    → past_end op d ≡ false → (first ≡ Some n → is_change op ≡ true) → (q ≡ n → d ≡ c) → (first ≡ Some n) ⊎ (q ≡ n)
    → past_end op c ≡ false × value op c ≡ v
same_reply op v first n q c d x y ch s (inl e) = (past_end-change op c (ch e), value-change op c d (ch e) ∙ x)
same_reply op v first n q c d x y ch s (inr e) = (subst (λ r. past_end op r ≡ false) (s e) y, subst (λ r. value op r ≡ v) (s e) x)

same_end : (op : ContentOp) (first : Option ℕ) (n q : ℕ) (c d : List ℕ) → past_end op d ≡ true
    → (first ≡ Some n → is_change op ≡ true) → (q ≡ n → d ≡ c) → (first ≡ Some n) ⊎ (q ≡ n) → past_end op c ≡ true
same_end op first n q c d y ch s (inl e) = absurd (let z = past_end-change op d (ch e) in grind arith)
same_end op first n q c d y ch s (inr e) = subst (λ r. past_end op r ≡ true) (s e) y

-- how the operation of an entry settled fits the bytes at its place
fits : (a : Account) (o n : ℕ) → PlaceFacts a o → a.log.birth o ≤ n → n < a.log.places → is_of a o (a.log.who n) ≡ true
    → place a (a.log.who n) ≡ Some n → (s : Settlement) → a.settlement (a.log.who n) ≡ s
    → Fits (a.ops (a.log.who n)) (a.log.bytes o n) s
fits a o n f b l k p Unsettled e = tt
fits a o n f b l k p Settled_refused e = tt
fits a o n f b l k p Settled_unknown e = tt
fits a o n f b l k p (Settled_ok v) e = ok_at (a.settled_by (a.log.who n)) refl
  where
    ok_at : (by : Option ℕ) → a.settled_by (a.log.who n) ≡ by → past_end (a.ops (a.log.who n)) (a.log.bytes o n) ≡ false
        × value (a.ops (a.log.who n)) (a.log.bytes o n) ≡ v
    ok_at None h = absurd (let s = f.by_some (a.log.who n) k in grind arith)
    ok_at (Some q) h =
        let x = f.by_at (a.log.who n) q k h in let kq = subst (λ g. is_of a o g ≡ true) (sym x.2) k in
        let y = f.gave q v x.0 x.1 kq (f.by_ok (a.log.who n) q v k h e) in
        same_reply (a.ops (a.log.who n)) v (a.log.first (a.log.who n)) n q (a.log.bytes o n) (a.log.bytes o q)
        (subst (λ g. value (a.ops g) (a.log.bytes o q) ≡ v) x.2 y.0)
        (subst (λ g. past_end (a.ops g) (a.log.bytes o q) ≡ false) x.2 y.2)
        (acted_change a o n f b l k) (λ r. ap (a.log.bytes o) r) (by_place (a.log.first (a.log.who n)) (a.settled_by (a.log.who n)) n q p h)
fits a o n f b l k p Settled_end e = end_at (a.settled_by (a.log.who n)) refl
  where
    end_at : (by : Option ℕ) → a.settled_by (a.log.who n) ≡ by → past_end (a.ops (a.log.who n)) (a.log.bytes o n) ≡ true
    end_at None h = absurd (let s = f.by_some (a.log.who n) k in grind arith)
    end_at (Some q) h =
        let x = f.by_at (a.log.who n) q k h in let kq = subst (λ g. is_of a o g ≡ true) (sym x.2) k in
        let y = f.gave_end q x.0 x.1 kq (f.by_end (a.log.who n) q k h e) in
        same_end (a.ops (a.log.who n)) (a.log.first (a.log.who n)) n q (a.log.bytes o n) (a.log.bytes o q)
        (subst (λ g. past_end (a.ops g) (a.log.bytes o q) ≡ true) x.2 y)
        (acted_change a o n f b l k) (λ r. ap (a.log.bytes o) r) (by_place (a.log.first (a.log.who n)) (a.settled_by (a.log.who n)) n q p h)

replays_from : (a : Account) (o k n : ℕ) → PlaceFacts a o → a.log.birth o ≤ n → n + k ≡ a.log.places
    → Replays a (order_from a o n k) (a.log.bytes o n) (a.log.bytes o a.log.places)
unfolding Replays order_from
replays_from a o zero n f b e = let z : n ≡ a.log.places = omega arith in rw z refl
replays_from a o (suc k) n f b e =
    let l : n < a.log.places = omega arith in let more = replays_from a o k (n + 1) f (omega arith) (omega arith) in
    elim (is_entry a o n) as (λ t. is_entry a o n ≡ t → Replays a (if t then a.log.who n ∷ order_from a o (n + 1) k else
    order_from a o (n + 1) k) (a.log.bytes o n) (a.log.bytes o a.log.places)) [
      | true ↦ λ h. let p = both _ _ h in let q = at_place n _ p.0 in (
        fits a o n f b l p.1 q (a.settlement (a.log.who n)) refl,
        subst (λ c. Replays a (order_from a o (n + 1) k) c (a.log.bytes o a.log.places)) (taken a o n f b l p.1 q)
            more,
      )
      | false ↦ λ h. subst (λ c. Replays a (order_from a o (n + 1) k) c (a.log.bytes o a.log.places)) (skipped a o n f b l h) more
    ] refl

-- ---- each operation at its place

-- how often a place stands among the k from n on
unfoldable within : ℕ → ℕ → Option ℕ → ℕ
within n k None = 0
within n k (Some p) = if nat_lt p n then 0 else if nat_lt p (n + k) then 1 else 0

within-none : (n : ℕ) (p : Option ℕ) → within n 0 p ≡ 0
unfolding within
within-none n None = refl
within-none n (Some p) = grind (arith, nat_tests)

within-elsewhere : (n k : ℕ) (p : Option ℕ) → p ≢ Some n → within n (suc k) p ≡ within (n + 1) k p
unfolding within
within-elsewhere n k None d = refl
within-elsewhere n k (Some p) d = let q : p ≢ n = λ e. d (rw e refl) in grind (arith, nat_tests)

within-here : (n k : ℕ) (p : Option ℕ) → p ≡ Some n → within n (suc k) p ≡ 1 + within (n + 1) k p
unfolding within
within-here n k p e = rw e (grind (arith, nat_tests))

within-most : (n k : ℕ) (p : Option ℕ) → within n k p ≤ 1
unfolding within
within-most n k None = omega arith
within-most n k (Some p) = grind arith

within-inside : (n k p : ℕ) → n ≤ p → p < n + k → within n k (Some p) ≡ 1
unfolding within
within-inside n k p l m = grind (arith, nat_tests)

within-bounds : (n k : ℕ) (p : Option ℕ) → within n k p ≡ 1 → (q : ℕ) × (p ≡ Some q) × (n ≤ q) × (q < n + k)
unfolding within
within-bounds n k None e = absurd (cc)
within-bounds n k (Some p) e = (p, refl, low p e, high p e)
  where
    low : (p : ℕ) → within n k (Some p) ≡ 1 → n ≤ p
    low p e = grind (arith, nat_tests)

    high : (p : ℕ) → within n k (Some p) ≡ 1 → p < n + k
    high p e = grind (arith, nat_tests)

-- the operation of a place that it has
place_who : (a : Account) (o g n : ℕ) → PlaceFacts a o → is_of a o g ≡ true → place a g ≡ Some n → a.log.who n ≡ g
place_who a o g n f k e = who_at (a.log.first g) (a.settled_by g) refl refl e
  where
    who_at : (first by : Option ℕ) → a.log.first g ≡ first → a.settled_by g ≡ by → placed first by ≡ Some n → a.log.who n ≡ g
    who_at (Some p) by x y e = let z = f.first_at g n k (x ∙ e) in z.2
    who_at None by x y e = let z = f.by_at g n k (y ∙ e) in z.2

count-if : (t : Bool) (g h : ℕ) (hs : List ℕ) → count g (if t then h ∷ hs else hs)
    ≡ (if t then (if h == g then 1 else 0) + count g hs else count g hs)
unfolding count
count-if true g h hs = refl
count-if false g h hs = refl

counted : (a : Account) (o g k n : ℕ) → PlaceFacts a o → n + k ≡ a.log.places → count g (order_from a o n k)
    ≡ (if is_of a o g then within n k (place a g) else 0)
unfolding count order_from
counted a o g zero n f e = let w = within-none n (place a g) in grind arith
counted a o g (suc k) n f e =
    let r = counted a o g k (n + 1) f (omega arith) in
    count-if (is_entry a o n) g (a.log.who n) (order_from a o (n + 1) k) ∙ by_test (count g (order_from a o (n + 1) k))
    r (is_at n (place a (a.log.who n))) (is_of a o (a.log.who n)) (a.log.who n == g) refl refl refl
  where
    on_of : (t : Bool) (c x y : ℕ) → c ≡ (if t then y else 0) → (t ≡ true → x ≡ y) → c ≡ (if t then x else 0)
    on_of t c x y r e = grind arith

    here_of : (t : Bool) (c x y : ℕ) → c ≡ (if t then y else 0) → t ≡ true → x ≡ 1 + y → 1 + c ≡ (if t then x else 0)
    here_of t c x y r s e = grind arith

    not_at : (n : ℕ) (p : Option ℕ) → is_at n p ≡ false → p ≢ Some n
    not_at n p h e = grind (arith, nat_tests)

    by_test : (c : ℕ) → c ≡ (if is_of a o g then within (n + 1) k (place a g) else 0) → (p q t : Bool)
        → is_at n (place a (a.log.who n)) ≡ p → is_of a o (a.log.who n) ≡ q → (a.log.who n == g) ≡ t
        → (if p && q then (if t then 1 else 0) + c else c) ≡ (if is_of a o g then within n (suc k) (place a g) else 0)
    by_test c r true true true ep eq et =
        let z = eqb-true (a.log.who n) g et in let v = at_place n (place a (a.log.who n)) ep in
        here_of (is_of a o g) c _ _ r (subst (λ h. is_of a o h ≡ true) z eq) (within-here n k (place a g) (ap (place a) (sym z) ∙ v))
    by_test c r true true false ep eq et =
        let z = eqb-false (a.log.who n) g et in
        let s = on_of (is_of a o g) c _ _ r (λ t. within-elsewhere n k (place a g) (λ v. z (place_who a o g n f t v))) in omega (arith, s)
    by_test c r true false t ep eq et =
        on_of (is_of a o g) c _ _ r
        (λ s. within-elsewhere n k (place a g)
        (λ v. no_both (subst (λ h. is_of a o h ≡ true) (sym (place_who a o g n f s v)) s)))
      where
        no_both : is_of a o (a.log.who n) ≡ true → ⊥
        no_both s = cc
    by_test c r false q t ep eq et =
        on_of (is_of a o g) c _ _ r
        (λ s. within-elsewhere n k (place a g) (λ v. not_at n (place a (a.log.who n)) ep
        (ap (place a) (place_who a o g n f s v) ∙ v)))

-- ---- the order in time

precedes-here : (t : Bool) (g h : ℕ) (hs : List ℕ) → t ≡ true → 1 ≤ count h hs → precedes g h (if t then g ∷ hs else hs) ≡ true
unfolding precedes
precedes-here true g h hs e c = grind (arith, nat_tests)
precedes-here false g h hs e c = absurd (cc)

precedes-other : (t : Bool) (g h x : ℕ) (hs : List ℕ) → (t ≡ true → x ≢ g) → (t ≡ true → x ≢ h) → precedes g h hs ≡ true
    → precedes g h (if t then x ∷ hs else hs) ≡ true
unfolding precedes
precedes-other true g h x hs n m e = let u = n refl in let v = m refl in grind (arith, nat_tests)
precedes-other false g h x hs n m e = e

-- two entries among the k places from n on stand as their places do
precedes_from : (a : Account) (o g h p q k n : ℕ) → PlaceFacts a o → is_of a o g ≡ true → is_of a o h ≡ true → place a g
    ≡ Some p → place a h ≡ Some q → n ≤ p → p < q → n + k ≡ a.log.places → q < a.log.places
    → precedes g h (order_from a o n k) ≡ true
unfolding order_from
precedes_from a o g h p q zero n f kg kh eg eh l m e u = absurd (omega arith)
precedes_from a o g h p q (suc k) n f kg kh eg eh l m e u =
    elim (n == p) as (λ t. (n == p) ≡ t → precedes g h (if is_entry a o n then a.log.who n ∷ order_from a o (n + 1) k
    else order_from a o (n + 1) k) ≡ true) [
      | true ↦ λ t. let z = eqb-true n p t in let w : a.log.who n ≡ g = ap a.log.who z ∙ place_who a o g p f kg eg in
          rw w (precedes-here (is_at n (place a g) && is_of a o g) g h _ (here_entry (place a g) (is_of a o g) n p eg kg z)
          (let c = counted a o h k (n + 1) f (omega arith) in let i = within-inside (n + 1) k q (omega arith)
          (omega arith) in some_count (count h (order_from a o (n + 1) k)) (is_of a o h) (place a h) c kh eh i))
      | false ↦ λ t. let z = eqb-false n p t in
          precedes-other (is_entry a o n) g h (a.log.who n) _ (λ y w. z (entry_place g p y w eg))
          (λ y w. behind (entry_place h q y w eh)) (precedes_from a o g h p q k (n + 1) f kg kh eg eh (omega arith)
          m (omega arith) u)
    ] refl
  where
    here_entry : (o : Option ℕ) (b : Bool) (n p : ℕ) → o ≡ Some p → b ≡ true → n ≡ p → (is_at n o && b) ≡ true
    here_entry o b n p x y z = grind (arith, nat_tests)

    some_count : (c : ℕ) (t : Bool) (s : Option ℕ) → c ≡ (if t then within (n + 1) k s else 0) → t ≡ true → s ≡ Some q
        → within (n + 1) k (Some q) ≡ 1 → 1 ≤ c
    some_count c t s x y z w = let v = ap (within (n + 1) k) z in grind arith

    entry_place : (x r : ℕ) → is_entry a o n ≡ true → a.log.who n ≡ x → place a x ≡ Some r → n ≡ r
    entry_place x r y w v = let b = both _ _ y in let z = at_place n (place a (a.log.who n)) b.0 in
        some_same n r (sym z ∙ ap (place a) w ∙ v)

    behind : n ≡ q → ⊥
    behind z = omega arith

-- an entry's count is 1 exactly where its place is among them
entered : (a : Account) (o g : ℕ) → PlaceFacts a o → count g (order_of a o) ≡ 1 → (is_of a o g ≡ true)
    × ((p : ℕ) × (place a g ≡ Some p) × (a.log.birth o ≤ p) × (p < a.log.places))
entered a o g f e = by_of (is_of a o g) refl
  where
    c : count g (order_of a o) ≡ (if is_of a o g then within (a.log.birth o) (a.log.places - a.log.birth o) (place a g) else 0)
    c = counted a o g (a.log.places - a.log.birth o) (a.log.birth o) f (let b = f.birth_le in omega arith)

    by_of : (t : Bool) → is_of a o g ≡ t → (is_of a o g ≡ true) × ((p : ℕ) × (place a g ≡ Some p) × (a.log.birth o ≤ p)
        × (p < a.log.places))
    by_of false x = absurd (let y = c in grind arith)
    by_of true x = (x, at_bounds (within-bounds (a.log.birth o) (a.log.places - a.log.birth o) (place a g) (let y = c in grind arith)))
      where
        at_bounds : ((q : ℕ) × (place a g ≡ Some q) × (a.log.birth o ≤ q)
            × (q < a.log.birth o + (a.log.places - a.log.birth o))) → (p : ℕ) × (place a g ≡ Some p)
            × (a.log.birth o ≤ p) × (p < a.log.places)
        at_bounds (q, x, y, z) = (q, x, y, (let b = f.birth_le in omega arith))

settled_count : (a : Account) (o g : ℕ) → PlaceFacts a o → is_of a o g ≡ true → is_firm (a.settlement g) ≡ true
    → within (a.log.birth o) (a.log.places - a.log.birth o) (place a g) ≡ 1
settled_count a o g f k s = at_some (a.log.first g) (a.settled_by g) refl refl
  where
    at_some : (first by : Option ℕ) → a.log.first g ≡ first → a.settled_by g ≡ by
        → within (a.log.birth o) (a.log.places - a.log.birth o) (placed first by) ≡ 1
    at_some (Some p) by x y = let z = f.first_at g p k x in within-inside _ _ p z.0 (omega arith)
    at_some None (Some p) x y = let z = f.by_at g p k y in within-inside _ _ p z.0 (omega arith)
    at_some None None x y = absurd (let z = f.by_some g k s in grind arith)

-- the order of an open is legal from its bytes at birth to its last
pub legal : (a : Account) (o : ℕ) → PlaceFacts a o → Legal a o (order_of a o) (bytes_at_birth a o) (bytes_at_last a o)
legal a o f =
    let b = f.birth_le in
    record {
      replays = replays_from a o (a.log.places - a.log.birth o) (a.log.birth o) f (omega arith) (omega (arith, b));
      once = λ g. rw (counted a o g (a.log.places - a.log.birth o) (a.log.birth o) f (omega (arith, b)))
          (at_most (is_of a o g) _ (within-most _ _ (place a g)));
      settled = λ g k s. counted a o g (a.log.places - a.log.birth o) (a.log.birth o) f (omega (arith, b))
          ∙ (rw k (settled_count a o g f k s));
      before = λ g h e cg ch. before_by g h e (entered a o g f cg) (entered a o h f ch);
    }
  where
    at_most : (t : Bool) (x : ℕ) → x ≤ 1 → (if t then x else 0) ≤ 1
    at_most t x l = grind arith

    before_by : (g h : ℕ) → a.log.prior h g ≡ true → (is_of a o g ≡ true)
        × ((p : ℕ) × (place a g ≡ Some p) × (a.log.birth o ≤ p) × (p < a.log.places)) → (is_of a o h ≡ true)
        × ((p : ℕ) × (place a h ≡ Some p) × (a.log.birth o ≤ p) × (p < a.log.places))
        → precedes g h (order_of a o) ≡ true
    before_by g h e (kg, (p, eg, lp, mp)) (kh, (q, eh, lq, mq)) =
        let x = f.prior g h p kg e eg in let y = f.since h q kh eh in
        precedes_from a o g h p q (a.log.places - a.log.birth o) (a.log.birth o) f kg kh eg eh lp (omega arith)
        (let b = f.birth_le in omega arith) mq
