-- Lists of opens: what is at most once in an ascending list, behind what adds to it or takes from it.
use Rattle.std.proofs.Common.{◌≡◌, ℕ, ◌+◌, ◌==◌, nat_lt, Bool, true, false, if◌then◌else◌, List, [], ◌∷◌, length, refl, arith}
use Rattle.std.proofs.lemmas.Grind.{common_steps}
use Rattle.spec_exchange.specs.Table.{has, without, placed_in}
use Rattle.law_server.specs.tables.Fits.{is_ascending}
use Rattle.law_server.proofs.tables.Logic.{front_of, back_of}

pub length_placed : (o : ℕ) (os : List ℕ) → length (placed_in o os) ≡ length os + 1
length_placed o [] = refl
length_placed o (x ∷ xs) = let e = length_placed o xs in grind (arith, common_steps)

less : (o x y : ℕ) → nat_lt o x ≡ true → nat_lt x y ≡ true → nat_lt o y ≡ true
less o x y a b = grind arith

absent_step : (o x : ℕ) (rest : Bool) → nat_lt o x ≡ true → rest ≡ false → (if x == o then true else rest) ≡ false
absent_step o x rest a b = grind arith

-- what stands below an ascending list isn't in it
pub absent_below : (o x : ℕ) (xs : List ℕ) → is_ascending (x ∷ xs) ≡ true → nat_lt o x ≡ true → has o (x ∷ xs) ≡ false
unfolding is_ascending
absent_below o x [] a l = absent_step o x false l refl
absent_below o x (y ∷ ys) a l =
    absent_step o x (has o (y ∷ ys)) l
    (absent_below o y ys (back_of (nat_lt x y) (is_ascending (y ∷ ys)) a)
    (less o x y l (front_of (nat_lt x y) (is_ascending (y ∷ ys)) a)))

pub without_absent : (o : ℕ) (xs : List ℕ) → has o xs ≡ false → without o xs ≡ xs
without_absent o [] h = refl
without_absent o (x ∷ xs) h = let e = without_absent o xs in grind arith

same_less : (o x y : ℕ) → (x == o) ≡ true → nat_lt x y ≡ true → nat_lt o y ≡ true
same_less o x y a b = grind arith

-- behind its front
pub behind_front : (o x : ℕ) (xs : List ℕ) → is_ascending (x ∷ xs) ≡ true → (x == o) ≡ true → has o xs ≡ false
unfolding is_ascending
behind_front o x [] a e = refl
behind_front o x (y ∷ ys) a e = absent_below o y ys (back_of (nat_lt x y) (is_ascending (y ∷ ys)) a)
    (same_less o x y e (front_of (nat_lt x y) (is_ascending (y ∷ ys)) a))

pub rest_ascends : (x : ℕ) (xs : List ℕ) → is_ascending (x ∷ xs) ≡ true → is_ascending xs ≡ true
unfolding is_ascending
rest_ascends x [] a = refl
rest_ascends x (y ∷ ys) a = back_of (nat_lt x y) (is_ascending (y ∷ ys)) a

pub length_without : (o : ℕ) (os : List ℕ) → is_ascending os ≡ true → has o os ≡ true → length (without o os) + 1 ≡ length os
length_without o [] a h = cc
length_without o (x ∷ xs) a h =
    let e = length_without o xs (rest_ascends x xs a) in
    let b = behind_front o x xs a in
    let w = without_absent o xs in
    grind (arith, common_steps)

pub without_placed : (o : ℕ) (os : List ℕ) → has o os ≡ false → without o (placed_in o os) ≡ os
without_placed o [] h = grind arith
without_placed o (x ∷ xs) h = let e = without_placed o xs in let w = without_absent o xs in grind (arith, common_steps)
