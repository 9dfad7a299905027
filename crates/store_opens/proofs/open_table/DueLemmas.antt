-- The open that is due, and the opens that leave with their session, by ascending lists with the same members.
use Rattle.std.proofs.Common.{◌≡◌, ℕ, nat_lt, Bool, true, false, ◌&&◌, if◌then◌else◌, List, [], ◌∷◌, Option}
use Rattle.std.proofs.Common.{Some, None, refl, sym, ap, ◌∙◌, arith}
use Rattle.std.proofs.lemmas.Grind.{common_steps}
use Rattle.spec_exchange.specs.Table.{has}
use Rattle.spec_exchange.specs.State.{Server}
use Rattle.spec_exchange.specs.Effects.{leaves, plain_in}
use Rattle.spec_exchange.specs.Step.{is_past, due_in}
use Rattle.law_server.specs.tables.Fits.{is_ascending}
use Rattle.law_server.proofs.tables.Logic.{either, both, front_of, back_of}
use Rattle.store_opens.proofs.open_index.Lists.{rest_ascends}
use Rattle.store_opens.proofs.open_index.SetLemmas.{ascending_same}

-- those of a list that pass a test
abbrev pub passing : (ℕ → Bool) → List ℕ → List ℕ
passing p [] = []
passing p (x ∷ xs) = if p x then x ∷ passing p xs else passing p xs

abbrev pub first : List ℕ → Option ℕ
first [] = None
first (x ∷ xs) = Some x

pub has_passing : (p : ℕ → Bool) (q : ℕ) (xs : List ℕ) → has q (passing p xs) ≡ (has q xs && p q)
has_passing p q [] = refl
has_passing p q (x ∷ xs) = let e = has_passing p q xs in grind (arith, common_steps)

-- below an ascending list nothing passes
unfoldable above : ℕ → List ℕ → Bool
above n [] = true
above n (x ∷ xs) = nat_lt n x && above n xs

less : (n m x : ℕ) → nat_lt n m ≡ true → nat_lt m x ≡ true → nat_lt n x ≡ true
less n m x a b = grind arith

above_less : (n m : ℕ) (xs : List ℕ) → nat_lt n m ≡ true → above m xs ≡ true → above n xs ≡ true
unfolding above
above_less n m [] l h = refl
above_less n m (x ∷ xs) l h = both (nat_lt n x) (above n xs) (less n m x l (front_of (nat_lt m x) (above m xs) h))
    (above_less n m xs l (back_of (nat_lt m x) (above m xs) h))

ascends_above : (x : ℕ) (xs : List ℕ) → is_ascending (x ∷ xs) ≡ true → above x xs ≡ true
unfolding above is_ascending
ascends_above x [] a = refl
ascends_above x (y ∷ ys) a =
    let l = front_of (nat_lt x y) (is_ascending (y ∷ ys)) a in both (nat_lt x y) (above x ys) l
    (above_less x y ys l (ascends_above y ys (back_of (nat_lt x y) (is_ascending (y ∷ ys)) a)))

above_passing : (p : ℕ → Bool) (n : ℕ) (xs : List ℕ) → above n xs ≡ true → above n (passing p xs) ≡ true
unfolding above
above_passing p n [] h = refl
above_passing p n (x ∷ xs) h =
    let e = above_passing p n xs (back_of (nat_lt n x) (above n xs) h) in
    either (λ ys. above n ys ≡ true) (p x) (x ∷ passing p xs) (passing p xs)
    (λ _. both (nat_lt n x) (above n (passing p xs)) (front_of (nat_lt n x) (above n xs) h) e) (λ _. e)

ascends_front : (x : ℕ) (xs : List ℕ) → above x xs ≡ true → is_ascending xs ≡ true → is_ascending (x ∷ xs) ≡ true
unfolding above is_ascending
ascends_front x [] a h = refl
ascends_front x (y ∷ ys) a h = both (nat_lt x y) (is_ascending (y ∷ ys)) (front_of (nat_lt x y) (above x ys) a) h

pub passing_ascends : (p : ℕ → Bool) (xs : List ℕ) → is_ascending xs ≡ true → is_ascending (passing p xs) ≡ true
passing_ascends p [] a = a
passing_ascends p (x ∷ xs) a =
    let e = passing_ascends p xs (rest_ascends x xs a) in
    either (λ ys. is_ascending ys ≡ true) (p x) (x ∷ passing p xs) (passing p xs)
    (λ _. ascends_front x (passing p xs) (above_passing p x xs (ascends_above x xs a)) e) (λ _. e)

-- what passes of two ascending lists is the same, where they have the same that pass
pub passing_same : (p : ℕ → Bool) (xs ys : List ℕ) → is_ascending xs ≡ true → is_ascending ys ≡ true
    → ((q : ℕ) → p q ≡ true → has q xs ≡ has q ys) → passing p xs ≡ passing p ys
passing_same p xs ys a b same =
    ascending_same (passing p xs) (passing p ys) (passing_ascends p xs a) (passing_ascends p ys b)
    (λ q. has_passing p q xs ∙ same_test (p q) (has q xs) (has q ys) (same q) ∙ sym (has_passing p q ys))
  where
    same_test : (t c d : Bool) → (t ≡ true → c ≡ d) → (c && t) ≡ (d && t)
    same_test true c d h = ap (λ (v : Bool). v && true) (h refl)
    same_test false c d h = grind arith

pub due_is : (deadline : ℕ → Option ℕ) (now : ℕ) (xs : List ℕ) → due_in deadline xs now ≡ first (passing (λ o. is_past now (deadline o)) xs)
unfolding due_in
due_is deadline now [] = refl
due_is deadline now (x ∷ xs) = let e = due_is deadline now xs in grind (arith, common_steps)

pub plain_is : (s : Server) (session : ℕ) (xs : List ℕ) → plain_in s session xs ≡ passing (λ o. leaves s session o) xs
unfolding plain_in
plain_is s session [] = refl
plain_is s session (x ∷ xs) = let e = plain_is s session xs in grind (arith, common_steps)

pub due_same : (deadline : ℕ → Option ℕ) (now : ℕ) (xs ys : List ℕ) → is_ascending xs ≡ true → is_ascending ys ≡ true
    → ((q : ℕ) → is_past now (deadline q) ≡ true → has q xs ≡ has q ys) → due_in deadline xs now
    ≡ due_in deadline ys now
due_same deadline now xs ys a b same = due_is deadline now xs
    ∙ ap first (passing_same (λ o. is_past now (deadline o)) xs ys a b same) ∙ sym (due_is deadline now ys)

pub plain_same : (s : Server) (session : ℕ) (xs ys : List ℕ) → is_ascending xs ≡ true → is_ascending ys ≡ true
    → ((q : ℕ) → leaves s session q ≡ true → has q xs ≡ has q ys) → plain_in s session xs ≡ plain_in s session ys
plain_same s session xs ys a b same = plain_is s session xs ∙ passing_same (λ o. leaves s session o) xs ys a b same
    ∙ sym (plain_is s session ys)
