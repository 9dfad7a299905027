-- The lists beside the tables: opens, ranges, files and trees, behind what adds to them or takes from them.
use Rattle.std.proofs.Common.{◌≡◌, ◌⊎◌, inl, inr, ℕ, ◌+◌, ◌==◌, nat_lt, Bool, true, false, not, ◌&&◌, ◌||◌}
use Rattle.std.proofs.Common.{if◌then◌else◌, List, [], ◌∷◌, ◌++◌, length, refl, arith, sym, subst, Option, Some, None}
use Rattle.std.proofs.Common.{slice_get, zero, suc, eqb-true}
use Rattle.std.proofs.lemmas.Bool.Decides.{nat_tests}
use Rattle.spec_exchange.specs.Table.{has, without, placed_in, is_filled}
use Rattle.spec_exchange.specs.Commands.{Element, all_lock}
use Rattle.spec_exchange.specs.State.{Server, Entry, Open, Range, Tree}
use Rattle.spec_exchange.specs.Files.{exists_in, without_file, moved_entry, moved_entries}
use Rattle.spec_exchange.specs.Ranges.{RangeAnswer, Stands, ranges_of, is_denied, any_wraps, count_owned, max_ranges}
use Rattle.spec_exchange.specs.Ranges.{add_ranges, is_equal_range, prepended, take_range, take_ranges, stands_or}
use Rattle.spec_exchange.specs.Ranges.{lock_ranges, unlock_ranges, change_ranges, without_owner}
use Rattle.spec_exchange.specs.Opens.{opens_in, is_of_tree}
use Rattle.spec_exchange.specs.Effects.{leaves, plain_in, staying_in, ranges_staying, without_tree, tree_opens_in}
use Rattle.spec_exchange.specs.Step.{due_in}
use Rattle.law_server.specs.tables.Fits.{is_ascending}
use Rattle.law_server.proofs.tables.Logic.{either, front_of, back_of, both}

-- ---- membership

pub has-placed : (p o : ℕ) (os : List ℕ) → has p (placed_in o os) ≡ (if o == p then true else has p os)
has-placed p o [] = refl
has-placed p o (x ∷ xs) = let old = has-placed p o xs in grind arith

pub has-without : (p o : ℕ) (os : List ℕ) → has p (without o os) ≡ (if o == p then false else has p os)
has-without p o [] = grind arith
has-without p o (x ∷ xs) = let old = has-without p o xs in grind arith

pub has-staying : (s : Server) (session p : ℕ) (os : List ℕ) → has p (staying_in s session os) ≡ (has p os && not (leaves s session p))
unfolding staying_in
has-staying s session p [] = refl
has-staying s session p (x ∷ xs) = let old = has-staying s session p xs in grind arith

pub has-plain : (s : Server) (session p : ℕ) (os : List ℕ) → has p (plain_in s session os) ≡ true → leaves s session p ≡ true
unfolding plain_in
has-plain s session p [] h = absurd (cc)
has-plain s session p (x ∷ xs) h = let old = has-plain s session p xs in grind arith

-- ---- order

unfoldable above : ℕ → List ℕ → Bool
above n [] = true
above n (x ∷ xs) = nat_lt n x && above n xs

above-less : (n m : ℕ) (xs : List ℕ) → nat_lt n m ≡ true → above m xs ≡ true → above n xs ≡ true
unfolding above
above-less n m [] l h = refl
above-less n m (x ∷ xs) l h =
    let old = above-less n m xs l (back_of (nat_lt m x) (above m xs) h) in let front = front_of (nat_lt m x)
    (above m xs) h in let step : nat_lt n x ≡ true = grind (arith, nat_tests) in both (nat_lt n x) (above n xs) step
    old

ascending-above : (x : ℕ) (xs : List ℕ) → is_ascending (x ∷ xs) ≡ true → above x xs ≡ true
unfolding is_ascending above
ascending-above x [] h = refl
ascending-above x (y ∷ ys) h =
    let l = front_of (nat_lt x y) (is_ascending (y ∷ ys)) h in both (nat_lt x y) (above x ys) l
    (above-less x y ys l (ascending-above y ys (back_of (nat_lt x y) (is_ascending (y ∷ ys)) h)))

pub ascending-rest : (x : ℕ) (xs : List ℕ) → is_ascending (x ∷ xs) ≡ true → is_ascending xs ≡ true
unfolding is_ascending
ascending-rest x [] h = refl
ascending-rest x (y ∷ ys) h = back_of (nat_lt x y) (is_ascending (y ∷ ys)) h

ascending-front : (x : ℕ) (xs : List ℕ) → above x xs ≡ true → is_ascending xs ≡ true → is_ascending (x ∷ xs) ≡ true
unfolding is_ascending above
ascending-front x [] a h = refl
ascending-front x (y ∷ ys) a h = both (nat_lt x y) (is_ascending (y ∷ ys)) (front_of (nat_lt x y) (above x ys) a) h

above-without : (n o : ℕ) (os : List ℕ) → above n os ≡ true → above n (without o os) ≡ true
unfolding above
above-without n o [] h = refl
above-without n o (x ∷ xs) h = let old = above-without n o xs in grind arith

pub ascending-without : (o : ℕ) (os : List ℕ) → is_ascending os ≡ true → is_ascending (without o os) ≡ true
ascending-without o [] h = h
ascending-without o (x ∷ xs) h =
    let old = ascending-without o xs (ascending-rest x xs h) in
    either (λ ys. is_ascending ys ≡ true) (x == o) _ _ (λ _. old)
    (λ _. ascending-front x (without o xs) (above-without x o xs (ascending-above x xs h)) old)

above-staying : (s : Server) (session n : ℕ) (os : List ℕ) → above n os ≡ true → above n (staying_in s session os) ≡ true
unfolding above staying_in
above-staying s session n [] h = refl
above-staying s session n (x ∷ xs) h = let old = above-staying s session n xs in grind arith

pub ascending-staying : (s : Server) (session : ℕ) (os : List ℕ) → is_ascending os ≡ true → is_ascending (staying_in s session os) ≡ true
unfolding staying_in
ascending-staying s session [] h = h
ascending-staying s session (x ∷ xs) h =
    let old = ascending-staying s session xs (ascending-rest x xs h) in
    either (λ ys. is_ascending ys ≡ true) (leaves s session x) _ _ (λ _. old)
    (λ _. ascending-front x (staying_in s session xs) (above-staying s session x xs (ascending-above x xs h)) old)

above-tree : (s : Server) (session tree n : ℕ) (os : List ℕ) → above n os ≡ true → above n (tree_opens_in s session tree os) ≡ true
unfolding above tree_opens_in
above-tree s session tree n [] h = refl
above-tree s session tree n (x ∷ xs) h = let old = above-tree s session tree n xs in grind arith

pub ascending-tree : (s : Server) (session tree : ℕ) (os : List ℕ) → is_ascending os ≡ true
    → is_ascending (tree_opens_in s session tree os) ≡ true
unfolding tree_opens_in
ascending-tree s session tree [] h = h
ascending-tree s session tree (x ∷ xs) h =
    let old = ascending-tree s session tree xs (ascending-rest x xs h) in
    either (λ ys. is_ascending ys ≡ true) (is_of_tree s x session tree) _ _
    (λ _. ascending-front x (tree_opens_in s session tree xs) (above-tree s session tree x xs (ascending-above x xs h)) old)
    (λ _. old)

-- what follows in an ascending list is another
above-other : (n p : ℕ) (os : List ℕ) → above n os ≡ true → has p os ≡ true → (n == p) ≡ false
unfolding above
above-other n p [] a h = absurd (cc)
above-other n p (x ∷ xs) a h =
    let l = front_of (nat_lt n x) (above n xs) a in
    let rest = above-other n p xs (back_of (nat_lt n x) (above n xs) a) in
    elim (x == p) as (λ b. x == p ≡ b → (n == p) ≡ false) [
      | true ↦ λ e. let same = eqb-true x p e in grind (arith, nat_tests)
      | false ↦ λ e. rest (in_rest x p xs e h)
    ] refl
  where
    in_rest : (y q : ℕ) (ys : List ℕ) → (y == q) ≡ false → has q (y ∷ ys) ≡ true → has q ys ≡ true
    in_rest y q ys e h = grind arith

pub ascending-other : (n p : ℕ) (os : List ℕ) → is_ascending (n ∷ os) ≡ true → has p os ≡ true → (n == p) ≡ false
ascending-other n p os a h = above-other n p os (ascending-above n os a) h

above-placed : (n o : ℕ) (os : List ℕ) → nat_lt n o ≡ true → above n os ≡ true → above n (placed_in o os) ≡ true
unfolding above
above-placed n o [] l h = both (nat_lt n o) true l refl
above-placed n o (x ∷ xs) l h = let old = above-placed n o xs l in grind arith

pub ascending-placed : (o : ℕ) (os : List ℕ) → is_ascending os ≡ true → has o os ≡ false → is_ascending (placed_in o os) ≡ true
unfolding is_ascending
ascending-placed o [] h f = refl
ascending-placed o (x ∷ xs) h f =
    either (λ ys. is_ascending ys ≡ true) (nat_lt o x) _ _ (λ l. both (nat_lt o x) (is_ascending (x ∷ xs)) l h)
    (λ l. let g : nat_lt x o ≡ true = grind (arith, nat_tests) in let away : has o xs ≡ false = grind arith in
    ascending-front x (placed_in o xs) (above-placed x o xs g (ascending-above x xs h))
    (ascending-placed o xs (ascending-rest x xs h) away))

-- ---- the opens of a file, and those that are due

pub none-open : (opened : ℕ → Open) (os : List ℕ) (f p : ℕ) → is_filled (opens_in opened os f) ≡ false → has p os ≡ true
    → ((opened p).file == f) ≡ false
unfolding opens_in is_filled
none-open opened [] f p e h = absurd (cc)
none-open opened (x ∷ xs) f p e h = let old = none-open opened xs f p in grind arith

pub due-has : (deadline : ℕ → Option ℕ) (os : List ℕ) (now o : ℕ) → due_in deadline os now ≡ Some o → has o os ≡ true
unfolding due_in
due-has deadline [] now o e = absurd (cc)
due-has deadline (x ∷ xs) now o e = let old = due-has deadline xs now o in grind arith

-- ---- ranges

-- a place in a list at which this stands
abbrev pub Among : {X : Type 0} → List X → X → Type 0
Among xs x = (k : ℕ) × (slice_get xs k ≡ Some x)

among-rest : {X : Type 0} (y : X) (ys : List X) (x : X) → Among ys x → Among (y ∷ ys) x
among-rest y ys x a = (suc a.0, a.1)

some_same : {X : Type 0} (x y : X) → Some x ≡ Some y → x ≡ y
some_same x y e = cc

-- each element of a list is one of the other, or is as Q says
abbrev pub From : {X : Type 0} → (X → Type 0) → List X → List X → Type 0
From Q ys xs = (n : ℕ) (x : _) → slice_get ys n ≡ Some x → Q x × Among xs x

from_none : {X : Type 0} (Q : X → Type 0) (xs : List X) → From Q [] xs
from_none Q xs = λ n x h. absurd (cc)

from_rest : {X : Type 0} (Q : X → Type 0) (y : X) (ys xs : List X) → From Q ys xs → From Q ys (y ∷ xs)
from_rest Q y ys xs f = λ n x h. let old = f n x h in (old.0, among-rest y xs x old.1)

from_front : {X : Type 0} (Q : X → Type 0) (y : X) (ys xs : List X) → Q y → From Q ys xs → (n : ℕ) (x : X)
    → slice_get (y ∷ ys) n ≡ Some x → Q x × Among (y ∷ xs) x
from_front Q y ys xs q f zero x h = (subst Q (some_same y x h) q, (zero, h))
from_front Q y ys xs q f (suc n) x h = let old = f n x h in (old.0, among-rest y xs x old.1)

abbrev pub NotOf : ℕ → Range → Type 0
NotOf o r = (r.owner == o) ≡ false

pub without_owner-from : (o : ℕ) (rs : List Range) → From (NotOf o) (without_owner o rs) rs
unfolding without_owner
without_owner-from o [] = from_none (NotOf o) []
without_owner-from o (x ∷ xs) =
    either (λ ys. From (NotOf o) ys (x ∷ xs)) (x.owner == o) _ _
    (λ _. from_rest (NotOf o) x (without_owner o xs) xs (without_owner-from o xs))
    (λ e. from_front (NotOf o) x (without_owner o xs) xs e (without_owner-from o xs))

abbrev pub Stays : Server → ℕ → Range → Type 0
Stays s session r = leaves s session r.owner ≡ false

pub ranges_staying-from : (s : Server) (session : ℕ) (rs : List Range) → From (Stays s session) (ranges_staying s session rs) rs
unfolding ranges_staying
ranges_staying-from s session [] = from_none (Stays s session) []
ranges_staying-from s session (x ∷ xs) =
    either (λ ys. From (Stays s session) ys (x ∷ xs)) (leaves s session x.owner) _ _
    (λ _. from_rest (Stays s session) x (ranges_staying s session xs) xs (ranges_staying-from s session xs))
    (λ e. from_front (Stays s session) x (ranges_staying s session xs) xs e (ranges_staying-from s session xs))

-- each range of a list is this open's or one of the other list
abbrev pub Beside : ℕ → List Range → List Range → Type 0
Beside o ys xs = (n : ℕ) (r : Range) → slice_get ys n ≡ Some r → (r.owner ≡ o) ⊎ Among xs r

abbrev pub AllOf : ℕ → List Range → Type 0
AllOf o ws = (n : ℕ) (r : Range) → slice_get ws n ≡ Some r → r.owner ≡ o

ranges_of-owner : (o : ℕ) (es : List Element) (n : ℕ) (r : Range) → slice_get (ranges_of o es) n ≡ Some r → r.owner ≡ o
ranges_of-owner o [] n r h = absurd (cc)
ranges_of-owner o (e ∷ es) zero r h = grind arith
ranges_of-owner o (e ∷ es) (suc n) r h = ranges_of-owner o es n r h

-- an element of a list with one more at its end
pub pushed-from : {X : Type 0} (xs : List X) (y : X) (n : ℕ) (x : X) → slice_get (xs ++ y ∷ []) n ≡ Some x → (y ≡ x) ⊎ Among xs x
pushed-from [] y zero x h = inl (some_same y x h)
pushed-from [] y (suc n) x h = absurd (cc)
pushed-from (z ∷ zs) y zero x h = inr (zero, h)
pushed-from (z ∷ zs) y (suc n) x h = elim (pushed-from zs y n x h) [
  | inl e ↦ inl e
  | inr a ↦ inr (among-rest z zs x a)
]

beside_all : (o : ℕ) (rs : List Range) → Beside o rs rs
beside_all o rs = λ n r h. inr (n, h)

beside_push : (o : ℕ) (ys xs : List Range) (w : Range) → w.owner ≡ o → Beside o ys xs → Beside o (ys ++ w ∷ []) xs
beside_push o ys xs w e b = λ n r h. elim (pushed-from ys w n r h) [
  | inl q ↦ inl (subst (λ z. z.owner ≡ o) q e)
  | inr a ↦ b a.0 r a.1
]

add_ranges-beside : (o : ℕ) (rs0 rs ws rs' : List Range) → AllOf o ws → Beside o rs rs0 → add_ranges rs ws ≡ Some rs' → Beside o rs' rs0
unfolding add_ranges
add_ranges-beside o rs0 rs [] rs' all b = λ e. subst (λ ys. Beside o ys rs0) (some_same rs rs' e) b
add_ranges-beside o rs0 rs (w ∷ ws) rs' all b =
    either (λ u. u ≡ Some rs' → Beside o rs' rs0) (is_denied rs w) _ _ (λ _ e. absurd (cc))
    (λ _ e. add_ranges-beside o rs0 (rs ++ w ∷ []) ws rs' (λ n r h. all (suc n) r h) (beside_push o rs rs0 w (all zero w refl) b) e)

-- a list of which some were taken
abbrev Within : List Range → List Range → Type 0
Within ys xs = (n : ℕ) (r : Range) → slice_get ys n ≡ Some r → Among xs r

within_front : (y : Range) (ys xs : List Range) → Within ys xs → (n : ℕ) (r : Range) → slice_get (y ∷ ys) n ≡ Some r → Among (y ∷ xs) r
within_front y ys xs f zero r h = (zero, h)
within_front y ys xs f (suc n) r h = among-rest y xs r (f n r h)

prepended-some : (r : Range) (u : Option (List Range)) (ys : List Range) → prepended r u ≡ Some ys → (zs : List Range)
    × (u ≡ Some zs) × (r ∷ zs ≡ ys)
unfolding prepended
prepended-some r None ys e = absurd (cc)
prepended-some r (Some zs) ys e = (zs, refl, some_same (r ∷ zs) ys e)

take_range-within : (rs : List Range) (w : Range) (ys : List Range) → take_range rs w ≡ Some ys → Within ys rs
unfolding take_range
take_range-within [] w ys = λ e. absurd (cc)
take_range-within (x ∷ xs) w ys =
    either (λ u. u ≡ Some ys → Within ys (x ∷ xs)) (is_equal_range x w) _ _
    (λ _ e n r h. among-rest x xs r (n, subst (λ zs. slice_get zs n ≡ Some r) (sym (some_same xs ys e)) h))
    (λ _ e. let p = prepended-some x (take_range xs w) ys e in
    subst (λ zs. Within zs (x ∷ xs)) p.2 (within_front x p.0 xs (take_range-within xs w p.0 p.1)))

take_ranges-within : (rs0 : List Range) (u : Option (List Range)) (ws ys : List Range)
    → ((rs : List Range) → u ≡ Some rs → Within rs rs0) → take_ranges u ws ≡ Some ys → Within ys rs0
unfolding take_ranges
take_ranges-within rs0 None [] ys f e = absurd (cc)
take_ranges-within rs0 None (w ∷ ws) ys f e = absurd (cc)
take_ranges-within rs0 (Some rs) [] ys f e = f ys e
take_ranges-within rs0 (Some rs) (w ∷ ws) ys f e =
    take_ranges-within rs0 (take_range rs w) ws ys (λ zs q n r h. let a = take_range-within rs w zs q n r h in f rs refl a.0 r a.1) e

stands_or-some : (bad : ℕ) (u : Option (List Range)) (ys : List Range) → stands_or bad u ≡ Stands ys → u ≡ Some ys
unfolding stands_or
stands_or-some bad None ys e = absurd (cc)
stands_or-some bad (Some zs) ys e = cc

-- what stands behind a LOCK request stood before it or is this open's
pub change_ranges-beside : (rs : List Range) (o : ℕ) (es : List Element) (ys : List Range) → change_ranges rs o es
    ≡ Stands ys → Beside o ys rs
unfolding change_ranges lock_ranges unlock_ranges
change_ranges-beside rs o es ys =
    let R = λ (A : RangeAnswer). A ≡ Stands ys → Beside o ys rs in let ws = ranges_of o es in
    either R (all_lock es) _ _
    (λ _. either R (nat_lt max_ranges (count_owned o rs + length ws)) _ _ (λ _ e. absurd (cc))
    (λ _. either R (any_wraps ws) _ _ (λ _ e. absurd (cc))
    (λ _ e. add_ranges-beside o rs rs ws ys (ranges_of-owner o es) (beside_all o rs) (stands_or-some _ (add_ranges rs ws) ys e))))
    (λ _. either R (any_wraps ws) _ _ (λ _ e. absurd (cc))
    (λ _ e n r h. inr (take_ranges-within rs (Some rs) ws ys
    (λ zs q m x k. (m, subst (λ v. slice_get v m ≡ Some x) (sym (some_same rs zs q)) k))
    (stands_or-some _ (take_ranges (Some rs) ws) ys e) n r h)))

-- ---- files

pub exists-pushed : (es : List Entry) (e : Entry) (f : ℕ) → exists_in (es ++ e ∷ []) f ≡ (exists_in es f || (e.file == f))
unfolding exists_in
exists-pushed [] e f = grind arith
exists-pushed (x ∷ xs) e f = let old = exists-pushed xs e f in grind arith

pub exists-without : (t : ℕ) (es : List Entry) (f : ℕ) → exists_in (without_file t es) f ≡ (if t == f then false else exists_in es f)
unfolding exists_in without_file
exists-without t [] f = grind arith
exists-without t (x ∷ xs) f = let old = exists-without t xs f in grind arith

pub exists-moved : (old to : List ℕ) (es : List Entry) (f : ℕ) → exists_in (moved_entries old to es) f ≡ exists_in es f
unfolding exists_in moved_entries moved_entry
exists-moved old to [] f = refl
exists-moved old to (x ∷ xs) f = let before = exists-moved old to xs f in grind arith

-- ---- trees

abbrev pub AnyTree : Tree → Type 0
AnyTree t = Unit {0}

pub without_tree-from : (id : ℕ) (ts : List Tree) → From AnyTree (without_tree id ts) ts
unfolding without_tree
without_tree-from id [] = from_none AnyTree []
without_tree-from id (x ∷ xs) =
    either (λ ys. From AnyTree ys (x ∷ xs)) (x.id == id) _ _
    (λ _. from_rest AnyTree x (without_tree id xs) xs (without_tree-from id xs))
    (λ e. from_front AnyTree x (without_tree id xs) xs tt (without_tree-from id xs))
