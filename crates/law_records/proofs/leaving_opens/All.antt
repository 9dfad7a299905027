-- Opens that leave one behind the other, as one more at the end.
use Rattle.std.proofs.Common.{◌≡◌, ℕ, ◌==◌, nat_lt, Bool, true, false, ◌&&◌, if◌then◌else◌, List, [], ◌∷◌, ◌++◌}
use Rattle.std.proofs.Common.{refl, sym, ap, subst, ◌∙◌, append_assoc, arith, eqb-true}
use Rattle.spec_exchange.specs.Table.{has}
use Rattle.spec_exchange.specs.State.{Server, Origin, Record}
use Rattle.spec_exchange.specs.Opens.{leave_open, leave_records}
use Rattle.spec_exchange.specs.Effects.{leaves, plain_in, plain_of, leave_all, leave_all_records}
use Rattle.law_server.specs.tables.Fits.{Fits, is_ascending}
use Rattle.law_server.proofs.tables.Logic.{front_of, back_of, both}
use Rattle.std.proofs.lemmas.Bool.Decides.{nat_tests}
use Rattle.law_records.specs.leaving_opens.Since.{AllStand}
use Rattle.law_records.proofs.leaving_opens.Opens.{away, rest}
use Rattle.law_records.proofs.leaving_opens.Left.{left_standing}

pub one_more : (u : Server) (os : List ℕ) (o : ℕ) → leave_all u (os ++ o ∷ []) ≡ leave_open (leave_all u os) o
unfolding leave_all
one_more u [] o = refl
one_more u (p ∷ os) o = one_more (leave_open u p) os o

no_end : (rs : List Record) → rs ++ [] ≡ rs
no_end [] = refl
no_end (r ∷ rs) = ap (λ (v : List Record). r ∷ v) (no_end rs)

pub one_more_records : (u : Server) (origin : Origin) (os : List ℕ) (o : ℕ) → leave_all_records u origin (os ++ o ∷ [])
    ≡ leave_all_records u origin os ++ leave_records (leave_all u os) origin o
unfolding leave_all leave_all_records
one_more_records u origin [] o = no_end (leave_records u origin o)
one_more_records u origin (p ∷ os) o =
    ap (λ (v : List Record). leave_records u origin p ++ v) (one_more_records (leave_open u p) origin os o)
    ∙ sym (append_assoc (leave_records u origin p) (leave_all_records (leave_open u p) origin os)
    (leave_records (leave_all (leave_open u p) os) origin o))

-- ---- another open stands yet

still : (u : Server) (o p : ℕ) → (p == o) ≡ false → u.standing p ≡ true → (leave_open u o).standing p ≡ true
still u o p e h = rw (left_standing u o, e) h

rest_stand : (u : Server) (o : ℕ) (os : List ℕ) → is_ascending (o ∷ os) ≡ true → AllStand u (o ∷ os) → AllStand (leave_open u o) os
rest_stand u o os a h = λ p i. still u o p (apart p i) (h p (behind p (o == p) i))
  where
    behind : (p : ℕ) (b : Bool) → has p os ≡ true → (if b then true else has p os) ≡ true
    behind p true i = refl
    behind p false i = i

    apart : (p : ℕ) → has p os ≡ true → (p == o) ≡ false
    apart p i = by (p == o) refl
      where
        by : (b : Bool) → (p == o) ≡ b → b ≡ false
        by false e = refl
        by true e = absurd (let f = sym i ∙ subst (λ (z : ℕ). has z os ≡ false) (sym (eqb-true p o e)) (away o os a) in cc)

pub next_stands : (u : Server) (os : List ℕ) (o : ℕ) (more : List ℕ) → is_ascending (os ++ o ∷ more) ≡ true
    → AllStand u (os ++ o ∷ more) → (leave_all u os).standing o ≡ true
unfolding leave_all
next_stands u [] o more a h = h o (here o)
  where
    here : (n : ℕ) → (if n == n then true else has n more) ≡ true
    here n = let e : (n == n) ≡ true = grind arith in rw e refl
next_stands u (p ∷ os) o more a h = next_stands (leave_open u p) os o more (rest p (os ++ o ∷ more) a) (rest_stand u p (os ++ o ∷ more) a h)

-- ---- a session's plain opens are in ascending order

abbrev above : ℕ → List ℕ → Bool
above n [] = true
above n (x ∷ xs) = nat_lt n x && above n xs

above_less : (n m : ℕ) (xs : List ℕ) → nat_lt n m ≡ true → above m xs ≡ true → above n xs ≡ true
above_less n m [] l h = refl
above_less n m (x ∷ xs) l h =
    let old = above_less n m xs l (back_of (nat_lt m x) (above m xs) h) in
    let front = front_of (nat_lt m x) (above m xs) h in
    let step : nat_lt n x ≡ true = grind (arith, nat_tests) in
    both (nat_lt n x) (above n xs) step old

ascending_above : (x : ℕ) (xs : List ℕ) → is_ascending (x ∷ xs) ≡ true → above x xs ≡ true
unfolding is_ascending
ascending_above x [] h = refl
ascending_above x (y ∷ ys) h =
    let l = front_of (nat_lt x y) (is_ascending (y ∷ ys)) h in
    both (nat_lt x y) (above x ys) l (above_less x y ys l (ascending_above y ys (back_of (nat_lt x y) (is_ascending (y ∷ ys)) h)))

ascending_front : (x : ℕ) (xs : List ℕ) → above x xs ≡ true → is_ascending xs ≡ true → is_ascending (x ∷ xs) ≡ true
unfolding is_ascending
ascending_front x [] a h = refl
ascending_front x (y ∷ ys) a h = both (nat_lt x y) (is_ascending (y ∷ ys)) (front_of (nat_lt x y) (above x ys) a) h

above_plain : (s : Server) (session n : ℕ) (os : List ℕ) → above n os ≡ true → above n (plain_in s session os) ≡ true
unfolding plain_in
above_plain s session n [] h = refl
above_plain s session n (x ∷ xs) h = by (leaves s session x) (above_plain s session n xs (back_of (nat_lt n x) (above n xs) h))
  where
    by : (b : Bool) → above n (plain_in s session xs) ≡ true
        → above n (if b then x ∷ plain_in s session xs else plain_in s session xs) ≡ true
    by true old = both (nat_lt n x) (above n (plain_in s session xs)) (front_of (nat_lt n x) (above n xs) h) old
    by false old = old

plain_ascending : (s : Server) (session : ℕ) (os : List ℕ) → is_ascending os ≡ true → is_ascending (plain_in s session os) ≡ true
unfolding plain_in
plain_ascending s session [] h = h
plain_ascending s session (x ∷ xs) h = by (leaves s session x) (plain_ascending s session xs (rest x xs h))
  where
    by : (b : Bool) → is_ascending (plain_in s session xs) ≡ true
        → is_ascending (if b then x ∷ plain_in s session xs else plain_in s session xs) ≡ true
    by true old = ascending_front x (plain_in s session xs) (above_plain s session x xs (ascending_above x xs h)) old
    by false old = old

pub plain_in_order : (s : Server) (session : ℕ) → Fits s → is_ascending (plain_of s session) ≡ true
plain_in_order s session i = plain_ascending s session s.opens i.ascending
