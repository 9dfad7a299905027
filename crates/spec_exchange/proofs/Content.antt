-- The content machine's laws: twice is once, and apart keeps what shows.
use Rattle.std.proofs.Common.{◌≡◌, ◌⊎◌, ℕ, ◌+◌, ◌-◌, ◌≤◌, max, Bool, true, false, not, arith, nat_lt, if◌then◌else◌}
use Rattle.std.proofs.Common.{List, [], ◌∷◌, ◌++◌, refl, length, get_or, take, drop, ap}
use Rattle.std.proofs.lemmas.Bool.Decides.{nat_tests}
use Rattle.std.proofs.lemmas.List.{places}
use Rattle.std.proofs.lemmas.Grind.{same_number_lists}
use Rattle.spec_exchange.specs.Content.{ContentOp, Write, SetEnd, Read, Still, padded, is_empty, written, ended, effect}
use Rattle.spec_exchange.specs.Content.{value, past_end, is_change, touches, meets, collides, same_bytes}

empty-length : (d : List ℕ) → is_empty d ≡ true → length d ≡ 0
unfolding is_empty
empty-length [] e = refl
empty-length (x ∷ xs) e = absurd (cc)

full-length : (d : List ℕ) → is_empty d ≡ false → 1 ≤ length d
unfolding is_empty
full-length [] e = absurd (cc)
full-length (x ∷ xs) e = omega arith

written-full : (p : ℕ) (d c : List ℕ) → is_empty d ≡ false → written p d c ≡ take p (padded p c) ++ (d ++ drop (p + length d) c)
unfolding written
written-full p d c e = rw e refl

pub written-empty : (p : ℕ) (d c : List ℕ) → is_empty d ≡ true → written p d c ≡ c
unfolding written
written-empty p d c e = rw e refl

pub length-written : (p : ℕ) (d c : List ℕ) → is_empty d ≡ false → length (written p d c) ≡ max (length c) (p + length d)
unfolding padded
length-written p d c e = rw (written-full p d c e) (let l = full-length d e in grind (arith, places))

pub get_or-written : (p : ℕ) (d c : List ℕ) (k : ℕ) → is_empty d ≡ false
    → get_or (written p d c) k 0
    ≡ (if nat_lt k p then get_or c k 0 else (if nat_lt k (p + length d) then get_or d (k - p) 0 else get_or c k 0))
unfolding padded
get_or-written p d c k e = rw (written-full p d c e) (grind (arith, places, nat_tests))

pub length-ended : (n : ℕ) (c : List ℕ) → length (ended n c) ≡ n
unfolding ended padded
length-ended n c = grind (arith, places)

pub get_or-ended : (n : ℕ) (c : List ℕ) (k : ℕ) → get_or (ended n c) k 0 ≡ (if nat_lt k n then get_or c k 0 else 0)
unfolding ended padded
get_or-ended n c k = grind (arith, places, nat_tests)

ended-twice : (n : ℕ) (c : List ℕ) → ended n (ended n c) ≡ ended n c
ended-twice n c = same_number_lists (ended n (ended n c)) (ended n c) (grind (arith, length-ended))
    (λ k l. let g = get_or-ended n (ended n c) k in let h = length-ended n (ended n c) in grind (arith, nat_tests))

written-twice : (p : ℕ) (d c : List ℕ) (b : Bool) → is_empty d ≡ b → written p d (written p d c) ≡ written p d c
written-twice p d c true e = written-empty p d (written p d c) e
written-twice p d c false e =
    same_number_lists (written p d (written p d c)) (written p d c) (let l = length-written p d c e in
    let r = length-written p d (written p d c) e in grind arith)
    (λ k l. let g = get_or-written p d c k e in let h = get_or-written p d (written p d c) k e in grind (arith, nat_tests))

-- an operation that is done again changes nothing
pub effect-twice : (o : ContentOp) (c : List ℕ) → effect o (effect o c) ≡ effect o c
unfolding effect
effect-twice (Write p d) c = written-twice p d c (is_empty d) refl
effect-twice (SetEnd n) c = ended-twice n c
effect-twice (Read p n) c = refl
effect-twice Still c = refl

written-kept : (p q : ℕ) (d e c : List ℕ) → is_empty d ≡ false → is_empty e ≡ false → (p + length d ≤ q)
    ⊎ (q + length e ≤ p) → written p d c ≡ c → written p d (written q e c) ≡ written q e c
written-kept p q d e c f g apart same =
    same_number_lists (written p d (written q e c)) (written q e c)
    (let l = length-written p d (written q e c) f in let r = length-written q e c g in let s = length-written p d c f in
    let t = ap length same in grind arith)
    (λ k l. let a = get_or-written p d (written q e c) k f in let b = get_or-written q e c k g in
    let o = get_or-written p d c k f in let t = ap (λ v. get_or v k 0) same in grind (arith, nat_tests))

apart : (p n q m : ℕ) → 1 ≤ n → 1 ≤ m → meets p n q m ≡ false → (p + n ≤ q) ⊎ (q + m ≤ p)
unfolding meets
apart p n q m a b h = grind (arith, nat_tests)

writes-kept : (p q : ℕ) (d e c : List ℕ) (x y : Bool) → is_empty d ≡ x → is_empty e ≡ y
    → meets p (length d) q (length e) ≡ false → written p d c ≡ c → written p d (written q e c) ≡ written q e c
writes-kept p q d e c true y f g h same = written-empty p d (written q e c) f
writes-kept p q d e c false true f g h same = rw (written-empty q e c g) same
writes-kept p q d e c false false f g h same = written-kept p q d e c f g
    (apart p (length d) q (length e) (full-length d f) (full-length e g) h) same

-- what shows in the bytes still shows after a change that doesn't collide with it
pub effect-kept : (a b : ContentOp) (c : List ℕ) → collides a b ≡ false → effect a c ≡ c → effect a (effect b c) ≡ effect b c
unfolding effect collides
effect-kept (Write p d) (Write q e) c h same = writes-kept p q d e c (is_empty d) (is_empty e) refl refl h same
effect-kept (Write p d) (SetEnd n) c h same = absurd (cc)
effect-kept (Write p d) (Read q n) c h same = same
effect-kept (Write p d) Still c h same = same
effect-kept (SetEnd n) (Write p d) c h same = absurd (cc)
effect-kept (SetEnd n) (SetEnd m) c h same = absurd (cc)
effect-kept (SetEnd n) (Read q m) c h same = same
effect-kept (SetEnd n) Still c h same = same
effect-kept (Read p n) b c h same = refl
effect-kept Still b c h same = refl

pub collides_comm : (a b : ContentOp) → collides a b ≡ collides b a
unfolding collides meets
collides_comm (Write p d) (Write q e) = grind (arith, nat_tests)
collides_comm (Write p d) (SetEnd n) = refl
collides_comm (Write p d) (Read q n) = refl
collides_comm (Write p d) Still = refl
collides_comm (SetEnd n) (Write p d) = refl
collides_comm (SetEnd n) (SetEnd m) = refl
collides_comm (SetEnd n) (Read q m) = refl
collides_comm (SetEnd n) Still = refl
collides_comm (Read p n) (Write q e) = refl
collides_comm (Read p n) (SetEnd m) = refl
collides_comm (Read p n) (Read q m) = refl
collides_comm (Read p n) Still = refl
collides_comm Still (Write q e) = refl
collides_comm Still (SetEnd m) = refl
collides_comm Still (Read q m) = refl
collides_comm Still Still = refl

pub same_bytes-true : (a b : List ℕ) → same_bytes a b ≡ true → a ≡ b
unfolding same_bytes
same_bytes-true [] [] e = refl
same_bytes-true [] (y ∷ ys) e = absurd (cc)
same_bytes-true (x ∷ xs) [] e = absurd (cc)
same_bytes-true (x ∷ xs) (y ∷ ys) e = grind (arith, same_bytes-true xs ys)

pub same_bytes-refl : (a : List ℕ) → same_bytes a a ≡ true
unfolding same_bytes
same_bytes-refl [] = refl
same_bytes-refl (x ∷ xs) = let r = same_bytes-refl xs in grind arith

-- the reply to a change doesn't depend on the bytes
pub value-change : (o : ContentOp) (c d : List ℕ) → is_change o ≡ true → value o c ≡ value o d
unfolding value is_change
value-change (Write p d) c e h = refl
value-change (SetEnd n) c e h = refl
value-change (Read p n) c e h = absurd (cc)
value-change Still c e h = absurd (cc)

-- no change is answered END_OF_FILE
pub past_end-change : (o : ContentOp) (c : List ℕ) → is_change o ≡ true → past_end o c ≡ false
unfolding past_end is_change
past_end-change (Write p d) c h = refl
past_end-change (SetEnd n) c h = refl
past_end-change (Read p n) c h = absurd (cc)
past_end-change Still c h = absurd (cc)

-- what is no change leaves the bytes
pub effect-no_change : (o : ContentOp) (c : List ℕ) → is_change o ≡ false → effect o c ≡ c
unfolding effect is_change
effect-no_change (Write p d) c h = absurd (cc)
effect-no_change (SetEnd n) c h = absurd (cc)
effect-no_change (Read p n) c h = refl
effect-no_change Still c h = refl

-- what doesn't touch leaves the bytes, and what touches is a change
pub effect-untouched : (o : ContentOp) (c : List ℕ) → touches o ≡ false → effect o c ≡ c
unfolding effect touches
effect-untouched (Write p d) c h = written-empty p d c (opposite (is_empty d) h)
  where
    opposite : (b : Bool) → not b ≡ false → b ≡ true
    opposite b h = grind arith
effect-untouched (SetEnd n) c h = absurd (cc)
effect-untouched (Read p n) c h = refl
effect-untouched Still c h = refl

pub is_change-touches : (o : ContentOp) → touches o ≡ true → is_change o ≡ true
unfolding is_change touches
is_change-touches (Write p d) h = refl
is_change-touches (SetEnd n) h = refl
is_change-touches (Read p n) h = absurd (cc)
is_change-touches Still h = absurd (cc)
