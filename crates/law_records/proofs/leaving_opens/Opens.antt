-- The opens of a file behind one that left.
use Rattle.std.proofs.Common.{◌≡◌, ℕ, ◌+◌, ◌==◌, nat_lt, nat_le, Bool, true, false, not, if◌then◌else◌, List, [], ◌∷◌, length}
use Rattle.std.proofs.Common.{refl, sym, ap, subst, ◌∙◌, arith, eqb-true}
use Rattle.std.proofs.lemmas.Bool.Decides.{nat_tests}
use Rattle.spec_exchange.specs.Table.{has, without, is_filled}
use Rattle.spec_exchange.specs.State.{Open}
use Rattle.spec_exchange.specs.Opens.{opens_in}
use Rattle.law_server.specs.tables.Fits.{is_ascending}
use Rattle.law_server.proofs.tables.Logic.{front_of, back_of}

-- ---- an ascending list has each number once

below : (n m : ℕ) (xs : List ℕ) → nat_lt n m ≡ true → is_ascending (m ∷ xs) ≡ true → has n (m ∷ xs) ≡ false
unfolding is_ascending
below n m [] l h = let e : (m == n) ≡ false = grind (arith, nat_tests) in rw e refl
below n m (y ∷ ys) l h =
    let e : (m == n) ≡ false = grind (arith, nat_tests) in
    let f = front_of (nat_lt m y) (is_ascending (y ∷ ys)) h in
    let g : nat_lt n y ≡ true = grind (arith, nat_tests) in
    rw e (below n y ys g (back_of (nat_lt m y) (is_ascending (y ∷ ys)) h))

pub away : (x : ℕ) (xs : List ℕ) → is_ascending (x ∷ xs) ≡ true → has x xs ≡ false
unfolding is_ascending
away x [] h = refl
away x (y ∷ ys) h = below x y ys (front_of (nat_lt x y) (is_ascending (y ∷ ys)) h) (back_of (nat_lt x y) (is_ascending (y ∷ ys)) h)

pub rest : (x : ℕ) (xs : List ℕ) → is_ascending (x ∷ xs) ≡ true → is_ascending xs ≡ true
unfolding is_ascending
rest x [] h = refl
rest x (y ∷ ys) h = back_of (nat_lt x y) (is_ascending (y ∷ ys)) h

without_absent : (o : ℕ) (os : List ℕ) → has o os ≡ false → without o os ≡ os
without_absent o [] h = refl
without_absent o (x ∷ xs) h = by (x == o) h (λ k. without_absent o xs k)
  where
    by : (b : Bool) → (if b then true else has o xs) ≡ false → (has o xs ≡ false → without o xs ≡ xs)
        → (if b then without o xs else x ∷ without o xs) ≡ x ∷ xs
    by true k i = absurd (cc)
    by false k i = ap (λ (v : List ℕ). x ∷ v) (i k)

-- ---- one open less of its own file, and none of another one

pub one_less : (opened : ℕ → Open) (o : ℕ) (os : List ℕ) → is_ascending os ≡ true → has o os ≡ true
    → length (opens_in opened os (opened o).file) ≡ length (opens_in opened (without o os) (opened o).file) + 1
unfolding opens_in
one_less opened o [] a h = absurd (cc)
one_less opened o (x ∷ xs) a h = by (x == o) refl h (λ k. one_less opened o xs (rest x xs a) k)
  where
    itself : (n : ℕ) → (n == n) ≡ true
    itself n = grind arith

    here : (y : ℕ) → y ≡ o → is_ascending (y ∷ xs) ≡ true
        → length (if (opened y).file == (opened o).file then y ∷ opens_in opened xs (opened o).file else opens_in opened xs (opened o).file)
        ≡ length (opens_in opened (without o xs) (opened o).file) + 1
    here y e i =
        let gone : without o xs ≡ xs = without_absent o xs (subst (λ (z : ℕ). has z xs ≡ false) e (away y xs i)) in
        let same : ((opened y).file == (opened o).file) ≡ true = subst (λ (z : ℕ). ((opened z).file == (opened o).file)
        ≡ true) (sym e) (itself (opened o).file) in
        rw (gone, same) (omega arith)

    both : (b : Bool) (m n : ℕ) (ms ns : List ℕ) → length ms ≡ length ns + 1 → length (if b then m ∷ ms else ms)
        ≡ length (if b then m ∷ ns else ns) + 1
    both true m n ms ns e = omega (arith, e)
    both false m n ms ns e = e

    by : (b : Bool) → (x == o) ≡ b → (if b then true else has o xs) ≡ true
        → (has o xs ≡ true → length (opens_in opened xs (opened o).file) ≡ length (opens_in opened (without o xs) (opened o).file) + 1)
        → length (if (opened x).file == (opened o).file then x ∷ opens_in opened xs (opened o).file else opens_in opened xs (opened o).file)
        ≡ length (opens_in opened (if b then without o xs else x ∷ without o xs) (opened o).file) + 1
    by true e k i = here x (eqb-true x o e) a
    by false e k i = both ((opened x).file == (opened o).file) x x _ _ (i k)

pub same_others : (opened : ℕ → Open) (o g : ℕ) (os : List ℕ) → ((opened o).file == g) ≡ false
    → opens_in opened (without o os) g ≡ opens_in opened os g
unfolding opens_in
same_others opened o g [] h = refl
same_others opened o g (x ∷ xs) h = by (x == o) refl (same_others opened o g xs h)
  where
    skip : (b : Bool) (ms : List ℕ) → b ≡ false → ms ≡ (if b then x ∷ ms else ms)
    skip true ms e = absurd (cc)
    skip false ms e = refl

    by : (b : Bool) → (x == o) ≡ b → opens_in opened (without o xs) g ≡ opens_in opened xs g
        → opens_in opened (if b then without o xs else x ∷ without o xs) g
        ≡ (if (opened x).file == g then x ∷ opens_in opened xs g else opens_in opened xs g)
    by true e i = i ∙ skip ((opened x).file == g) _
        (subst (λ (z : ℕ). ((opened z).file == g) ≡ false) (sym (eqb-true x o e)) h)
    by false e i = ap (λ (v : List ℕ). if (opened x).file == g then x ∷ v else v) i

-- no other open of the file is left
pub last_by_count : (os : List ℕ) (n left : ℕ) → n ≡ (length os + 1) + left → not (is_filled os) ≡ nat_le n (left + 1)
unfolding is_filled
last_by_count [] n left e = let k : nat_le n (left + 1) ≡ true = grind (arith, nat_tests) in sym k
last_by_count (o ∷ os) n left e = let k : nat_le n (left + 1) ≡ false = grind (arith, nat_tests) in sym k
