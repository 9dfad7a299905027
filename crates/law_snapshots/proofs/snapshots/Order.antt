-- Entries that are put at their places one by one, in whatever order: what comes of them is the list that ascends.
use Rattle.std.proofs.Common.{◌≡◌, ℕ, ◌==◌, nat_lt, Bool, true, false, not, if◌then◌else◌, List, [], ◌∷◌}
use Rattle.std.proofs.Common.{refl, sym, ap, subst, ◌∙◌, arith, eqb-true}
use Rattle.std.proofs.lemmas.Bool.Decides.{nat_tests}
use Rattle.spec_exchange.specs.Table.{has, placed_in}
use Rattle.spec_exchange.specs.State.{Entry}
use Rattle.spec_exchange.specs.Files.{exists_in, path_in}
use Rattle.law_server.specs.tables.Fits.{is_ascending}
use Rattle.law_server.proofs.tables.Logic.{front_of, back_of, both, not_true}
use Rattle.law_server.proofs.tables.Lists.{ascending-placed}
use Rattle.law_records.specs.fold.Order.{numbers}
use Rattle.law_records.proofs.fold.Numbers.{above, above_absent, ascending_above, ascending_rest, has_numbers}
use Rattle.law_snapshots.specs.snapshots.Kept.{IsOrderOf, are_distinct}
use Rattle.law_snapshots.specs.snapshots.Pieces.{placed_entry}

-- ---- one entry

pub here_in : (x : Entry) (xs : List Entry) → exists_in (x ∷ xs) x.file ≡ true
unfolding exists_in
here_in x xs = let e : (x.file == x.file) ≡ true = grind arith in rw e refl

pub later_in : (x : Entry) (xs : List Entry) (f : ℕ) → exists_in xs f ≡ true → exists_in (x ∷ xs) f ≡ true
unfolding exists_in
later_in x xs f h = by (x.file == f)
  where
    by : (b : Bool) → (if b then true else exists_in xs f) ≡ true
    by true = refl
    by false = h

pub exists_placed : (e : Entry) (ts : List Entry) (f : ℕ) → exists_in (placed_entry e ts) f ≡ (if e.file == f then true else exists_in ts f)
unfolding placed_entry exists_in
exists_placed e [] f = refl
exists_placed e (x ∷ xs) f = by (nat_lt e.file x.file) (exists_placed e xs f)
  where
    by : (b : Bool) → exists_in (placed_entry e xs) f ≡ (if e.file == f then true else exists_in xs f)
        → exists_in (if b then e ∷ x ∷ xs else x ∷ placed_entry e xs) f
        ≡ (if e.file == f then true else (if x.file == f then true else exists_in xs f))
    by true h = refl
    by false h = let k = h in grind arith

pub path_placed : (e : Entry) (ts : List Entry) (f : ℕ) → exists_in ts e.file ≡ false
    → path_in (placed_entry e ts) f ≡ (if e.file == f then e.path else path_in ts f)
unfolding placed_entry exists_in path_in
path_placed e [] f n = refl
path_placed e (x ∷ xs) f n = by (nat_lt e.file x.file) (x.file == e.file) refl n (λ h. path_placed e xs f h)
  where
    last : (k : Bool) → (x.file == f) ≡ k → (x.file == e.file) ≡ false
        → path_in (placed_entry e xs) f ≡ (if e.file == f then e.path else path_in xs f)
        → (if k then x.path else path_in (placed_entry e xs) f) ≡ (if e.file == f then e.path else (if k then x.path else path_in xs f))
    last true q o h =
        let off : (e.file == f) ≡ false = grind (arith, nat_tests) in
        sym (ap (λ (b : Bool). if b then e.path else x.path) off)
    last false q o h = h

    by : (b k : Bool) → (x.file == e.file) ≡ k → (if k then true else exists_in xs e.file) ≡ false
        → (exists_in xs e.file ≡ false → path_in (placed_entry e xs) f ≡ (if e.file == f then e.path else path_in xs f))
        → path_in (if b then e ∷ x ∷ xs else x ∷ placed_entry e xs) f
        ≡ (if e.file == f then e.path else (if x.file == f then x.path else path_in xs f))
    by true k q h rest = refl
    by false true q h rest = absurd (cc)
    by false false q h rest = last (x.file == f) refl q (rest h)

pub numbers_placed : (e : Entry) (ts : List Entry) → numbers (placed_entry e ts) ≡ placed_in e.file (numbers ts)
unfolding placed_entry numbers
numbers_placed e [] = refl
numbers_placed e (x ∷ xs) = by (nat_lt e.file x.file) (numbers_placed e xs)
  where
    by : (b : Bool) → numbers (placed_entry e xs) ≡ placed_in e.file (numbers xs)
        → numbers (if b then e ∷ x ∷ xs else x ∷ placed_entry e xs)
        ≡ (if b then e.file ∷ x.file ∷ numbers xs else x.file ∷ placed_in e.file (numbers xs))
    by true h = refl
    by false h = ap (λ (v : List ℕ). x.file ∷ v) h

pub placed_ascends : (e : Entry) (ts : List Entry) → is_ascending (numbers ts) ≡ true → exists_in ts e.file ≡ false
    → is_ascending (numbers (placed_entry e ts)) ≡ true
placed_ascends e ts a n = subst (λ (v : List ℕ). is_ascending v ≡ true) (sym (numbers_placed e ts))
    (ascending-placed e.file (numbers ts) a (has_numbers e.file ts ∙ n))

-- ---- each once

pub once_first : (e : Entry) (es : List Entry) → are_distinct (numbers (e ∷ es)) ≡ true → exists_in es e.file ≡ false
unfolding are_distinct numbers
once_first e es o = sym (has_numbers e.file es) ∙ not_true (has e.file (numbers es)) (front_of (not (has e.file (numbers es))) (are_distinct (numbers es)) o)

pub once_rest : (e : Entry) (es : List Entry) → are_distinct (numbers (e ∷ es)) ≡ true → are_distinct (numbers es) ≡ true
unfolding are_distinct numbers
once_rest e es o = back_of (not (has e.file (numbers es))) (are_distinct (numbers es)) o

pub once_ascending : (ns : List ℕ) → is_ascending ns ≡ true → are_distinct ns ≡ true
unfolding are_distinct
once_ascending [] a = refl
once_ascending (n ∷ ns) a =
    let new : not (has n ns) ≡ true = ap (λ (b : Bool). not b) (above_absent n ns (ascending_above n ns a)) in
    both (not (has n ns)) (are_distinct ns) new (once_ascending ns (ascending_rest n ns a))

pub order_itself : (es : List Entry) → is_ascending (numbers es) ≡ true → IsOrderOf es es
order_itself es a = record { there = λ f. refl; paths = λ f h. refl; once = once_ascending (numbers es) a }

-- ---- all of them

unfoldable pub placed_all : List Entry → List Entry → List Entry
placed_all [] ts = ts
placed_all (e ∷ es) ts = placed_all es (placed_entry e ts)

-- none of these is there yet
abbrev pub Absent : List Entry → List Entry → Type 0
Absent es ts = (f : ℕ) → exists_in es f ≡ true → exists_in ts f ≡ false

absent_first : (e : Entry) (es ts : List Entry) → Absent (e ∷ es) ts → exists_in ts e.file ≡ false
absent_first e es ts n = n e.file (here_in e es)

pub absent_rest : (e : Entry) (es ts : List Entry) → are_distinct (numbers (e ∷ es)) ≡ true → Absent (e ∷ es) ts → Absent es (placed_entry e ts)
absent_rest e es ts o n f h = exists_placed e ts f ∙ by (e.file == f) refl
  where
    by : (b : Bool) → (e.file == f) ≡ b → (if b then true else exists_in ts f) ≡ false
    by true q =
        let off : exists_in es f ≡ false = subst (λ (g : ℕ). exists_in es g ≡ false) (eqb-true e.file f q) (once_first e es o) in
        absurd (cc)
    by false q = n f (later_in e es f h)

pub all_ascend : (es ts : List Entry) → are_distinct (numbers es) ≡ true → Absent es ts → is_ascending (numbers ts) ≡ true
    → is_ascending (numbers (placed_all es ts)) ≡ true
unfolding placed_all
all_ascend [] ts o n a = a
all_ascend (e ∷ es) ts o n a =
    all_ascend es (placed_entry e ts) (once_rest e es o) (absent_rest e es ts o n) (placed_ascends e ts a (absent_first e es ts n))

pub exists_all : (es ts : List Entry) (f : ℕ) → exists_in (placed_all es ts) f ≡ (if exists_in es f then true else exists_in ts f)
unfolding placed_all exists_in
exists_all [] ts f = refl
exists_all (e ∷ es) ts f = exists_all es (placed_entry e ts) f
    ∙ ap (λ (b : Bool). if exists_in es f then true else b) (exists_placed e ts f)
    ∙ by (e.file == f) (exists_in es f)
  where
    by : (b k : Bool) → (if k then true else (if b then true else exists_in ts f)) ≡ (if (if b then true else k) then true else exists_in ts f)
    by true true = refl
    by true false = refl
    by false true = refl
    by false false = refl

pub path_all : (es ts : List Entry) (f : ℕ) → are_distinct (numbers es) ≡ true → Absent es ts
    → path_in (placed_all es ts) f ≡ (if exists_in es f then path_in es f else path_in ts f)
unfolding placed_all exists_in path_in
path_all [] ts f o n = refl
path_all (e ∷ es) ts f o n =
    path_all es (placed_entry e ts) f (once_rest e es o) (absent_rest e es ts o n)
    ∙ ap (λ (p : List ℕ). if exists_in es f then path_in es f else p) (path_placed e ts f (absent_first e es ts n))
    ∙ by (e.file == f) refl (exists_in es f) refl
  where
    by : (b : Bool) → (e.file == f) ≡ b → (k : Bool) → exists_in es f ≡ k
        → (if k then path_in es f else (if b then e.path else path_in ts f))
        ≡ (if (if b then true else k) then (if b then e.path else path_in es f) else path_in ts f)
    by true q true r =
        let off : exists_in es f ≡ false = subst (λ (g : ℕ). exists_in es g ≡ false) (eqb-true e.file f q) (once_first e es o) in
        absurd (cc)
    by true q false r = refl
    by false q true r = refl
    by false q false r = refl

-- ---- two lists that ascend and have the same files are one

no_less : (x : Entry) (xs : List Entry) (y : Entry) (ys : List Entry) → is_ascending (numbers (y ∷ ys)) ≡ true
    → exists_in (y ∷ ys) x.file ≡ exists_in (x ∷ xs) x.file → nat_lt x.file y.file ≡ true → ⊥
unfolding numbers
no_less x xs y ys a h l =
    let none : has x.file (numbers (y ∷ ys)) ≡ false = above_absent x.file (numbers (y ∷ ys)) (lower x.file y ys l a) in
    let there : exists_in (y ∷ ys) x.file ≡ true = h ∙ here_in x xs in
    let named = has_numbers x.file (y ∷ ys) in
    cc
  where
    less : (n m : ℕ) (ns : List ℕ) → nat_lt n m ≡ true → above m ns ≡ true → above n ns ≡ true
    less n m [] l h = refl
    less n m (k ∷ ns) l h =
        let old = less n m ns l (back_of (nat_lt m k) (above m ns) h) in
        let front = front_of (nat_lt m k) (above m ns) h in
        let step : nat_lt n k ≡ true = grind (arith, nat_tests) in
        both (nat_lt n k) (above n ns) step old

    lower : (n : ℕ) (y : Entry) (ys : List Entry) → nat_lt n y.file ≡ true → is_ascending (numbers (y ∷ ys)) ≡ true
        → above n (numbers (y ∷ ys)) ≡ true
    lower n y ys l a = both (nat_lt n y.file) (above n (numbers ys)) l (less n y.file (numbers ys) l (ascending_above y.file (numbers ys) a))

same_number : (m n : ℕ) → (nat_lt m n ≡ true → ⊥) → (nat_lt n m ≡ true → ⊥) → m ≡ n
same_number m n a b = by (nat_lt m n) refl (nat_lt n m) refl
  where
    by : (k : Bool) → nat_lt m n ≡ k → (l : Bool) → nat_lt n m ≡ l → m ≡ n
    by true q l r = absurd (a q)
    by false q true r = absurd (b r)
    by false q false r = grind (arith, nat_tests)

first_off : (x : Entry) (xs : List Entry) → is_ascending (numbers (x ∷ xs)) ≡ true → exists_in xs x.file ≡ false
unfolding numbers
first_off x xs a = sym (has_numbers x.file xs) ∙ above_absent x.file (numbers xs) (ascending_above x.file (numbers xs) a)

rest_ascends : (x : Entry) (xs : List Entry) → is_ascending (numbers (x ∷ xs)) ≡ true → is_ascending (numbers xs) ≡ true
unfolding numbers
rest_ascends x xs a = ascending_rest x.file (numbers xs) a

pub same_list : (xs ys : List Entry) → is_ascending (numbers xs) ≡ true → is_ascending (numbers ys) ≡ true
    → ((f : ℕ) → exists_in xs f ≡ exists_in ys f) → ((f : ℕ) → exists_in ys f ≡ true → path_in xs f ≡ path_in ys f) → xs ≡ ys
unfolding exists_in path_in
same_list [] [] a b h p = refl
same_list [] (y ∷ ys) a b h p = absurd (let k : false ≡ true = h y.file ∙ here_in y ys in cc)
same_list (x ∷ xs) [] a b h p = absurd (let k : false ≡ true = sym (h x.file) ∙ here_in x xs in cc)
same_list (x ∷ xs) (y ∷ ys) a b h p =
    ap (λ (v : List Entry). x ∷ v) (same_list xs ys (rest_ascends x xs a) (rest_ascends y ys b) rest paths)
    ∙ ap (λ (v : Entry). v ∷ ys) first
  where
    file : x.file ≡ y.file
    file = same_number x.file y.file (λ l. no_less x xs y ys b (sym (h x.file)) l) (λ l. no_less y ys x xs a (h y.file) l)

    at_first : (e : Entry) (es : List Entry) → path_in (e ∷ es) e.file ≡ e.path
    at_first e es = let k : (e.file == e.file) ≡ true = grind arith in rw k refl

    path : x.path ≡ y.path
    path = sym (at_first x xs) ∙ ap (λ (f : ℕ). path_in (x ∷ xs) f) file ∙ p y.file (here_in y ys) ∙ at_first y ys

    first : x ≡ y
    first = ap (λ (f : ℕ). record { file = f; path = x.path }) file ∙ ap (λ (q : List ℕ). record { file = y.file; path = q }) path

    off_x : exists_in xs y.file ≡ false
    off_x = subst (λ (f : ℕ). exists_in xs f ≡ false) file (first_off x xs a)

    rest : (f : ℕ) → exists_in xs f ≡ exists_in ys f
    rest f = by (y.file == f) refl (x.file == f) refl (h f)
      where
        by : (k : Bool) → (y.file == f) ≡ k → (l : Bool) → (x.file == f) ≡ l
            → (if l then true else exists_in xs f) ≡ (if k then true else exists_in ys f) → exists_in xs f ≡ exists_in ys f
        by true q l r e =
            subst (λ (g : ℕ). exists_in xs g ≡ exists_in ys g) (eqb-true y.file f q) (off_x ∙ sym (first_off y ys b))
        by false q true r e = absurd (let k : (x.file == f) ≡ (y.file == f) = ap (λ (g : ℕ). g == f) file in cc)
        by false q false r e = e

    paths : (f : ℕ) → exists_in ys f ≡ true → path_in xs f ≡ path_in ys f
    paths f i = by (y.file == f) refl (x.file == f) refl (p f (later_in y ys f i))
      where
        by : (k : Bool) → (y.file == f) ≡ k → (l : Bool) → (x.file == f) ≡ l
            → (if l then x.path else path_in xs f) ≡ (if k then y.path else path_in ys f) → path_in xs f ≡ path_in ys f
        by true q l r e =
            absurd (let off : exists_in ys f ≡ false = subst (λ (g : ℕ). exists_in ys g ≡ false) (eqb-true y.file f q) (first_off y ys b) in cc)
        by false q true r e = absurd (let k : (x.file == f) ≡ (y.file == f) = ap (λ (g : ℕ). g == f) file in cc)
        by false q false r e = e

-- ---- an order of the files leads to their list

pub order_placed : (order entries : List Entry) → IsOrderOf order entries → is_ascending (numbers entries) ≡ true → placed_all order [] ≡ entries
unfolding exists_in numbers is_ascending
order_placed order entries n a =
    same_list (placed_all order []) entries (all_ascend order [] n.once none refl) a
    (λ f. exists_all order [] f ∙ alone (exists_in order f) ∙ n.there f)
    (λ f h. path_all order [] f n.once none
    ∙ ap (λ (b : Bool). if b then path_in order f else path_in [] f) (n.there f ∙ h) ∙ n.paths f h)
  where
    none : Absent order []
    none f h = refl

    alone : (b : Bool) → (if b then true else false) ≡ b
    alone true = refl
    alone false = refl
