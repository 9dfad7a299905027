-- Where a write falls, and that its parts make the whole.
use Rattle.std.proofs.Common.{◌≡◌, ◌≢◌, ℕ, ◌+◌, ◌-◌, ◌<◌, ◌≤◌, ◌==◌, max, Bool, true, false, ◌&&◌, nat_lt, nat_le, if◌then◌else◌, List}
use Rattle.std.proofs.Common.{[], ◌∷◌, length, get_or, take, drop, arith, refl, sym, ap, subst, ◌∙◌, None, Some, IsSome, is_some}
use Rattle.std.proofs.Common.{Vec, Global}
use Rattle.std.specs.Prelude.{Option, vec_items}
use Rattle.std.proofs.lemmas.Bool.Decides.{nat_tests}
use Rattle.std.proofs.lemmas.List.{places}
use Rattle.std.proofs.lemmas.Grind.{same_number_lists}
use Rattle.spec_exchange.specs.Content.{is_empty, written}
use Rattle.spec_exchange.proofs.Content.{length-written, get_or-written, written-empty}
use Rattle.store_files.specs.file_extents.Shown.{Shows, Puts}
use Rattle.store_files.specs.file_extents.Ready.{IsPlan, IsPieceInside, IsPiecePart, IsAway, IsClear, IsPieceLeft}
use Rattle.store_files.specs.file_extents.Ready.{IsRight, BeginsAt, left_end, right_begin}
use Rattle.store_files.specs.declared.file_extents.write.Inside.{Inside}
use Rattle.store_files.specs.declared.file_extents.write.Plan.{Plan}

-- no bytes change nothing
pub written-none : (m : ℕ) (d c : List ℕ) → length d ≡ 0 → written m d c ≡ c
unfolding is_empty
written-none m [] c e = written-empty m [] c refl
written-none m (x ∷ xs) c e = absurd (omega (arith, e))

pub length-any : (m : ℕ) (d c : List ℕ) → length (written m d c) ≡ (if length d == 0 then length c else max (length c) (m + length d))
unfolding is_empty
length-any m [] c = ap (λ x. length x) (written-empty m [] c refl)
length-any m (x ∷ xs) c = let l = length-written m (x ∷ xs) c refl in grind (arith, nat_tests)

pub get_or-any : (m : ℕ) (d c : List ℕ) (k : ℕ) → get_or (written m d c) k 0 ≡
    (if nat_le m k && nat_lt k (m + length d) then get_or d (k - m) 0 else get_or c k 0)
unfolding is_empty
get_or-any m [] c k = let e = written-empty m [] c refl in rw e (grind (arith, nat_tests))
get_or-any m (x ∷ xs) c k = let l = get_or-written m (x ∷ xs) c k refl in grind (arith, nat_tests)

-- the middle, what comes before it and what comes behind it make the whole
pub written-parts : (at from until end : ℕ) (d c : List ℕ) → at ≤ from → from ≤ until → until ≤ end → end ≡ at + length d → 0 < length d
    → written until (take (end - until) (drop (until - at) d))
    (written at (take (from - at) (drop (at - at) d)) (written from (take (until - from) (drop (from - at) d)) c)) ≡ written at d c
written-parts at from until end d c l m n e some =
    let mid : List ℕ = take (until - from) (drop (from - at) d) in
    let front : List ℕ = take (from - at) (drop (at - at) d) in
    let rest : List ℕ = take (end - until) (drop (until - at) d) in
    let lm : length mid ≡ until - from = grind (arith, places) in
    let lf : length front ≡ from - at = grind (arith, places) in
    let lr : length rest ≡ end - until = grind (arith, places) in
    same_number_lists (written until rest (written at front (written from mid c))) (written at d c)
    (let x = length-any until rest (written at front (written from mid c)) in let y = length-any at front (written from mid c) in
    let z = length-any from mid c in let w = length-any at d c in grind (arith, nat_tests))
    (λ k h. let x = get_or-any until rest (written at front (written from mid c)) k in
    let y = get_or-any at front (written from mid c) k in let z = get_or-any from mid c k in let w = get_or-any at d c k in
    grind (arith, nat_tests, places))

module _ (f g : ℕ → Option (Vec ℕ Global)) where
  kept : (p : Inside) (at x y : ℕ) → g p.place ≡ f p.place → IsPieceInside f p at x y → IsPieceInside g p at x y
  kept p at x y e h = record {
    some = h.some;
    place = h.place;
    first = h.first;
    count = h.count;
    there = subst IsSome (sym e) h.there;
    fits = λ q o. h.fits q (sym e ∙ o);
  }

  pub left-kept : (p : Option Inside) (at from : ℕ) → ((k : ℕ) → k < from → g k ≡ f k) → IsPiecePart f p at at from
      → IsPiecePart g p at at from
  left-kept None at from h e = e
  left-kept (Some p) at from h e = kept p at at from (h p.place (let a = e.place in let b = e.some in omega arith)) e

  pub right-kept : (p : Option Inside) (at until end : ℕ) → BeginsAt p until → g until ≡ f until → IsPiecePart f p at until end
      → IsPiecePart g p at until end
  right-kept None at until end b h e = e
  right-kept (Some p) at until end b h e = kept p at until end (subst (λ k. g k ≡ f k) (sym b) h) e

module _ (f : ℕ → Option (Vec ℕ Global)) where
  pub left-away : (p : Option Inside) (at from until : ℕ) → IsPiecePart f p at at from → from ≤ until → IsAway p until
  left-away None at from until e l = tt
  left-away (Some p) at from until e l = λ same. let a = e.place in let b = e.some in omega arith

  pub part-of-left : (p : Option Inside) (at end : ℕ) → IsPieceLeft f p at end → IsPiecePart f p at at (left_end p at)
  part-of-left None at end h = refl
  part-of-left (Some p) at end h = h.0

  pub clear-of-left : (p : Option Inside) (at end : ℕ) → IsPieceLeft f p at end → left_end p at < end → IsClear f (left_end p at)
  clear-of-left None at end h l = h
  clear-of-left (Some p) at end h l = h.1 l

  pub part-of-right : (p : Option Inside) (at from end : ℕ) → IsRight f p at from end → IsPiecePart f p at (right_begin p end) end
  part-of-right None at from end h = refl
  part-of-right (Some p) at from end h = h.0

  pub begins-of-right : (p : Option Inside) (end : ℕ) → BeginsAt p (right_begin p end)
  begins-of-right None end = tt
  begins-of-right (Some p) end = refl

  pub inner-of-right : (p : Option Inside) (at from end : ℕ) → IsRight f p at from end → (q : ℕ) (o : Vec ℕ Global) → f q ≡ Some o
      → from ≤ q → q < right_begin p end → q + length o.items ≤ right_begin p end
  inner-of-right None at from end h q o e l m = h q o e l m
  inner-of-right (Some p) at from end h q o e l m = h.1 q o e m

-- each piece that begins before the end of one ends there or before
pub ends-there : (f : ℕ → Option (Vec ℕ Global)) (c : List ℕ) (k : ℕ) (o : Vec ℕ Global) → Shows vec_items f c → f k ≡ Some o
    → (q : ℕ) (p : Vec ℕ Global) (b : Bool) → (q == k) ≡ b → f q ≡ Some p → q < k + length o.items → q + length p.items ≤ k + length o.items
ends-there f c k o s e q p true t a l = let x : q ≡ k = grind (arith, nat_tests) in let w : p ≡ o = (let z = ap f x in cc) in
    let v = ap (λ (x : Vec ℕ Global). length x.items) w in omega (arith, x, v)
ends-there f c k o s e q p false t a l =
    let x : q ≢ k = grind (arith, nat_tests) in
    let y = s.apart q p k a (ap (λ v. is_some v) e) in
    let z = s.apart k o q e (ap (λ v. is_some v) a) in
    grind arith

-- a piece is the one that stands at its place
pub same-piece : (f : ℕ → Option (Vec ℕ Global)) (k : ℕ) (o p : Vec ℕ Global) → f k ≡ Some o → f k ≡ Some p
    → length p.items ≡ length o.items
same-piece f k o p a b = let w : p ≡ o = cc in ap (λ (x : Vec ℕ Global). length x.items) w

pub still-there : (f g : ℕ → Option (Vec ℕ Global)) (k : ℕ) → g k ≡ f k → IsSome (f k) → IsSome (g k)
still-there f g k e h = subst IsSome (sym e) h

pub not-there : (f : ℕ → Option (Vec ℕ Global)) (k : ℕ) → f k ≡ None → IsSome (f k) → ⊥
not-there f k e h = cc

-- ---- an empty piece put where the new one is to begin

module _ (f g : ℕ → Option (Vec ℕ Global)) (p : Plan) (at end : ℕ) (d : Vec ℕ Global) (l : p.from < p.until)
    (u : Puts vec_items f g p.from (Some d)) (none : f p.from ≡ None) (e : length d.items ≡ 0) (h : IsPlan f p at end) where
  marked-clear : IsClear g p.from
  marked-clear q o w m = h.clear l q o (sym (u.else q (λ s. omega (arith, s, m))) ∙ w) m

  marked-inner : (q : ℕ) (o : Vec ℕ Global) (b : Bool) → (q == p.from) ≡ b → g q ≡ Some o → p.from ≤ q → q < p.until
      → q + length o.items ≤ p.until
  marked-inner q o true t w m n =
      let x : q ≡ p.from = grind (arith, nat_tests) in
      let y : o ≡ d = (let z = ap g x in let v = u.there in cc) in
      let v = ap (λ (x : Vec ℕ Global). length x.items) y in omega (arith, x, v, e, n)
  marked-inner q o false t w m n = let x : q ≢ p.from = grind (arith, nat_tests) in h.inner q o (sym (u.else q x) ∙ w) m n

  pub plan-marked : IsPlan g p at end
  plan-marked = record {
    order = h.order;
    left = left-kept f g p.left at p.from (λ k m. u.else k (λ s. omega (arith, s, m))) h.left;
    clear = λ m. marked-clear;
    inner = λ q o. marked-inner q o (q == p.from) refl;
    right = right-kept f g p.right at p.until end h.begins (u.else p.until (λ s. omega (arith, s, l))) h.right;
    begins = h.begins;
  }

pub clear-behind : (f : ℕ → Option (Vec ℕ Global)) (m : ℕ) → f m ≡ None → IsClear f m → (k : ℕ) (p : Vec ℕ Global) (b : Bool)
    → (k == m) ≡ b → f k ≡ Some p → k ≤ m → k + length p.items ≤ m
clear-behind f m none c k p true t e l = absurd (let x : k ≡ m = grind (arith, nat_tests) in let z = ap f x in cc)
clear-behind f m none c k p false t e l = c k p e (grind (arith, nat_tests))
