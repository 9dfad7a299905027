-- A session's plain opens, and what is left of them behind one that left.
use Rattle.std.proofs.Common.{◌≡◌, ℕ, ◌<◌, ◌≤◌, ◌==◌, nat_lt, Bool, true, false, if◌then◌else◌, List, [], ◌∷◌, length}
use Rattle.std.proofs.Common.{Option, Some, is_some, refl, sym, ap, arith, ◌∙◌}
use Rattle.std.proofs.lemmas.Bool.Decides.{nat_tests}
use Rattle.spec_exchange.specs.Effects.{leaves, plain_in, plain_of}
use Rattle.spec_exchange.specs.State.{Server}
use Rattle.spec_exchange.specs.Table.{has, is_filled, without}
use Rattle.law_records.proofs.leaving_opens.All.{plain_in_order}
use Rattle.law_records.proofs.leaving_opens.Ended.{has_plain}
use Rattle.law_records.proofs.leaving_opens.Opens.{away}
use Rattle.store_opens.specs.open_table.Changes.{first_above}
use Rattle.law_server.proofs.tables.DropOpen.{drop_open_keeps}
use Rattle.law_server.proofs.tables.Leaving.{leave_open_keeps}
use Rattle.law_server.proofs.tables.Logic.{front_of}
use Rattle.law_server.specs.tables.Fits.{Fits, is_ascending}
use Rattle.server_effects.proofs.session_ends.Columns.{left_opened, left_opens, left_session}
use Rattle.server_effects.specs.session_ends.Ended.{left_behind}

-- ---- each of them stands

pub here : (o : ℕ) (os : List ℕ) → has o (o ∷ os) ≡ true
here o os = let e : (o == o) ≡ true = grind arith in rw e refl

in_opens : (s : Server) (x p : ℕ) → has p (plain_of s x) ≡ true → has p s.opens ≡ true
in_opens s x p h = front_of (has p s.opens) (leaves s x p) (sym (has_plain s x p s.opens) ∙ h)

pub plain_stands : (s : Server) (x p : ℕ) → Fits s → has p (plain_of s x) ≡ true → s.standing p ≡ true
plain_stands s x p f h = sym (f.listed p) ∙ in_opens s x p h

pub first_stands : (s : Server) (x o : ℕ) (os : List ℕ) → Fits s → plain_of s x ≡ o ∷ os → s.standing o ≡ true
first_stands s x o os f e = plain_stands s x o f (ap (has o) e ∙ here o os)

first_of : (o : ℕ) (os : List ℕ) → 0 < o → first_above 0 (o ∷ os) ≡ Some o
first_of o os h = let e : nat_lt 0 o ≡ true = grind (arith, nat_tests) in rw e refl

pub first_plain : (s : Server) (x o : ℕ) (os : List ℕ) → Fits s → plain_of s x ≡ o ∷ os → first_above 0 (plain_of s x) ≡ Some o
first_plain s x o os f e = ap (first_above 0) e ∙ first_of o os (f.open_ids o (first_stands s x o os f e)).0

-- ---- fits

pub left_keeps : (s : Server) (o : ℕ) (q : Bool) → s.standing o ≡ true → Fits s → Fits (left_behind s o q)
left_keeps s o true st f = drop_open_keeps s o st f
left_keeps s o false st f = leave_open_keeps s o st f

-- ---- the rest of them

other_leaves : (s : Server) (x o p : ℕ) (q : Bool) → (p == o) ≡ false → leaves (left_behind s o q) x p ≡ leaves s x p
other_leaves s x o p q e = rw (left_session s o q, left_opened s o q, e) refl

plain_without : (s : Server) (x o : ℕ) (q : Bool) (ys : List ℕ)
    → plain_in (left_behind s o q) x (without o ys) ≡ without o (plain_in s x ys)
unfolding plain_in
plain_without s x o q [] = refl
plain_without s x o q (y ∷ ys) = by (y == o) refl (plain_without s x o q ys)
  where
    kept : (y == o) ≡ false → (b : Bool) → without o (if b then y ∷ plain_in s x ys else plain_in s x ys)
        ≡ (if b then y ∷ without o (plain_in s x ys) else without o (plain_in s x ys))
    kept e true = rw e refl
    kept e false = refl

    gone : (y == o) ≡ true → (b : Bool) → without o (if b then y ∷ plain_in s x ys else plain_in s x ys) ≡ without o (plain_in s x ys)
    gone e true = rw e refl
    gone e false = refl

    by : (b : Bool) → (y == o) ≡ b → plain_in (left_behind s o q) x (without o ys) ≡ without o (plain_in s x ys)
        → plain_in (left_behind s o q) x (if b then without o ys else y ∷ without o ys)
        ≡ without o (if leaves s x y then y ∷ plain_in s x ys else plain_in s x ys)
    by true e old = old ∙ sym (gone e (leaves s x y))
    by false e old = rw (other_leaves s x o y q e, old) (sym (kept e (leaves s x y)))

absent : (o : ℕ) (os : List ℕ) → has o os ≡ false → without o os ≡ os
absent o [] h = refl
absent o (x ∷ xs) h = by (x == o) h (λ k. absent o xs k)
  where
    by : (b : Bool) → (if b then true else has o xs) ≡ false → (has o xs ≡ false → without o xs ≡ xs)
        → (if b then without o xs else x ∷ without o xs) ≡ x ∷ xs
    by true i old = absurd (cc)
    by false i old = ap (λ (ys : List ℕ). x ∷ ys) (old i)

pub plain_rest : (s : Server) (x o : ℕ) (os : List ℕ) (q : Bool) → Fits s → plain_of s x ≡ o ∷ os → plain_of (left_behind s o q) x ≡ os
plain_rest s x o os q f e =
    let asc : is_ascending (o ∷ os) ≡ true = ap is_ascending (sym e) ∙ plain_in_order s x f in
    let gone : without o (o ∷ os) ≡ os = first_gone (absent o os (away o os asc)) in
    ap (plain_in (left_behind s o q) x) (left_opens s o q) ∙ (plain_without s x o q s.opens ∙ (ap (without o) e ∙ gone))
  where
    first_gone : without o os ≡ os → without o (o ∷ os) ≡ os
    first_gone k = let i : (o == o) ≡ true = grind arith in rw i k

-- ---- how many there are

pub plain_few : (s : Server) (x : ℕ) (ys : List ℕ) → length (plain_in s x ys) ≤ length ys
unfolding plain_in
plain_few s x [] = omega arith
plain_few s x (y ∷ ys) = by (leaves s x y) (plain_few s x ys)
  where
    by : (b : Bool) → length (plain_in s x ys) ≤ length ys
        → length (if b then y ∷ plain_in s x ys else plain_in s x ys) ≤ length (y ∷ ys)
    by true old = omega arith
    by false old = omega arith

-- ---- whether there is one

pub acts_is : (s : Server) (x : ℕ) (o : Option ℕ) → Fits s → o ≡ first_above 0 (plain_of s x) → is_some o ≡ is_filled (plain_of s x)
unfolding is_filled
acts_is s x o f e = by (plain_of s x) refl
  where
    by : (os : List ℕ) → plain_of s x ≡ os → is_some o ≡ is_filled (plain_of s x)
    by [] k = ap is_some (e ∙ ap (first_above 0) k) ∙ sym (ap is_filled k)
    by (p ∷ ps) k = ap is_some (e ∙ first_plain s x p ps f k) ∙ sym (ap is_filled k)
