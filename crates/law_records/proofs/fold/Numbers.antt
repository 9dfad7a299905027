-- Ascending lists of numbers, and those of files.
use Rattle.std.proofs.Common.{◌≡◌, ℕ, ◌<◌, ◌==◌, nat_lt, Bool, true, false, ◌&&◌, if◌then◌else◌, List, [], ◌∷◌, ◌++◌, Option, Some, None}
use Rattle.std.proofs.Common.{refl, sym, ap, subst, ◌∙◌, arith}
use Rattle.std.proofs.lemmas.Bool.Decides.{nat_tests}
use Rattle.spec_exchange.specs.Table.{has, without}
use Rattle.spec_exchange.specs.State.{Server, Entry}
use Rattle.spec_exchange.specs.Files.{exists_in, without_file, without_target, moved_entry, moved_entries, make_file, remove_file}
use Rattle.spec_exchange.specs.Files.{rename_file, path_of}
use Rattle.law_server.specs.tables.Fits.{Fits, is_ascending}
use Rattle.law_server.proofs.tables.Logic.{front_of, back_of, both}
use Rattle.law_server.proofs.tables.Lists.{ascending-without}
use Rattle.law_records.specs.fold.Order.{numbers, FilesAscend}

-- ---- the numbers of files

pub numbers_pushed : (es : List Entry) (e : Entry) → numbers (es ++ e ∷ []) ≡ numbers es ++ e.file ∷ []
unfolding numbers
numbers_pushed [] e = refl
numbers_pushed (x ∷ xs) e = ap (λ (v : List ℕ). x.file ∷ v) (numbers_pushed xs e)

pub numbers_without : (f : ℕ) (es : List Entry) → numbers (without_file f es) ≡ without f (numbers es)
unfolding numbers without_file
numbers_without f [] = refl
numbers_without f (x ∷ xs) = by (x.file == f) (numbers_without f xs)
  where
    by : (b : Bool) → numbers (without_file f xs) ≡ without f (numbers xs)
        → numbers (if b then without_file f xs else x ∷ without_file f xs)
        ≡ (if b then without f (numbers xs) else x.file ∷ without f (numbers xs))
    by true e = e
    by false e = ap (λ (v : List ℕ). x.file ∷ v) e

pub numbers_moved : (old to : List ℕ) (es : List Entry) → numbers (moved_entries old to es) ≡ numbers es
unfolding numbers moved_entries moved_entry
numbers_moved old to [] = refl
numbers_moved old to (x ∷ xs) = ap (λ (v : List ℕ). x.file ∷ v) (numbers_moved old to xs)

pub has_numbers : (f : ℕ) (es : List Entry) → has f (numbers es) ≡ exists_in es f
unfolding numbers exists_in
has_numbers f [] = refl
has_numbers f (x ∷ xs) = ap (λ (b : Bool). if x.file == f then true else b) (has_numbers f xs)

-- ---- order

abbrev pub above : ℕ → List ℕ → Bool
above n [] = true
above n (x ∷ xs) = nat_lt n x && above n xs

pub above_less : (n m : ℕ) (xs : List ℕ) → nat_lt n m ≡ true → above m xs ≡ true → above n xs ≡ true
above_less n m [] l h = refl
above_less n m (x ∷ xs) l h =
    let old = above_less n m xs l (back_of (nat_lt m x) (above m xs) h) in
    let front = front_of (nat_lt m x) (above m xs) h in
    let step : nat_lt n x ≡ true = grind (arith, nat_tests) in
    both (nat_lt n x) (above n xs) step old

pub ascending_above : (x : ℕ) (xs : List ℕ) → is_ascending (x ∷ xs) ≡ true → above x xs ≡ true
unfolding is_ascending
ascending_above x [] h = refl
ascending_above x (y ∷ ys) h =
    let l = front_of (nat_lt x y) (is_ascending (y ∷ ys)) h in
    both (nat_lt x y) (above x ys) l (above_less x y ys l (ascending_above y ys (back_of (nat_lt x y) (is_ascending (y ∷ ys)) h)))

pub ascending_rest : (x : ℕ) (xs : List ℕ) → is_ascending (x ∷ xs) ≡ true → is_ascending xs ≡ true
unfolding is_ascending
ascending_rest x [] h = refl
ascending_rest x (y ∷ ys) h = back_of (nat_lt x y) (is_ascending (y ∷ ys)) h

pub ascending_front : (x : ℕ) (xs : List ℕ) → above x xs ≡ true → is_ascending xs ≡ true → is_ascending (x ∷ xs) ≡ true
unfolding is_ascending
ascending_front x [] a h = refl
ascending_front x (y ∷ ys) a h = both (nat_lt x y) (is_ascending (y ∷ ys)) (front_of (nat_lt x y) (above x ys) a) h

skip : (b v : Bool) → b ≡ false → v ≡ false → (if b then true else v) ≡ false
skip true v e f = absurd (cc)
skip false v e f = f

pub above_absent : (n : ℕ) (xs : List ℕ) → above n xs ≡ true → has n xs ≡ false
above_absent n [] h = refl
above_absent n (x ∷ xs) h =
    let l = front_of (nat_lt n x) (above n xs) h in
    let off : (x == n) ≡ false = grind (arith, nat_tests) in
    skip (x == n) (has n xs) off (above_absent n xs (back_of (nat_lt n x) (above n xs) h))

pub here : (y : ℕ) (ys : List ℕ) → has y (y ∷ ys) ≡ true
here y ys = let e : (y == y) ≡ true = grind arith in rw e refl

pub later : (f x : ℕ) (xs : List ℕ) → has f xs ≡ true → has f (x ∷ xs) ≡ true
later f x xs h = by (x == f)
  where
    by : (b : Bool) → (if b then true else has f xs) ≡ true
    by true = refl
    by false = h

-- a number above all others goes to the end
pub ascending_pushed : (xs : List ℕ) (n : ℕ) → is_ascending xs ≡ true → ((f : ℕ) → has f xs ≡ true → f < n)
    → is_ascending (xs ++ n ∷ []) ≡ true
unfolding is_ascending
ascending_pushed [] n a h = refl
ascending_pushed (x ∷ []) n a h = let l = h x (here x []) in let t : nat_lt x n ≡ true = grind (arith, nat_tests) in
    both (nat_lt x n) true t refl
ascending_pushed (x ∷ y ∷ ys) n a h =
    both (nat_lt x y) (is_ascending (y ∷ (ys ++ n ∷ []))) (front_of (nat_lt x y) (is_ascending (y ∷ ys)) a)
    (ascending_pushed (y ∷ ys) n (back_of (nat_lt x y) (is_ascending (y ∷ ys)) a) (λ f i. h f (later f x (y ∷ ys) i)))

-- ---- changes of files

pub made_ascend : (s : Server) (path : List ℕ) (is_dir : Bool) (attributes time : ℕ) → Fits s → FilesAscend s
    → FilesAscend (make_file s path is_dir attributes time)
made_ascend s path is_dir attributes time i a =
    subst (λ (v : List ℕ). is_ascending v ≡ true) (sym (numbers_pushed s.entries (record { file = s.next_file; path = path })))
    (ascending_pushed (numbers s.entries) s.next_file a
    (λ f h. (i.file_numbers f (sym (has_numbers f s.entries) ∙ h)).1))

pub removed_ascend : (s : Server) (f : ℕ) → FilesAscend s → FilesAscend (remove_file s f)
removed_ascend s f a = subst (λ (v : List ℕ). is_ascending v ≡ true) (sym (numbers_without f s.entries))
    (ascending-without f (numbers s.entries) a)

target_ascends : (replaced : Option ℕ) (es : List Entry) → is_ascending (numbers es) ≡ true
    → is_ascending (numbers (without_target replaced es)) ≡ true
unfolding without_target
target_ascends None es a = a
target_ascends (Some t) es a = subst (λ (v : List ℕ). is_ascending v ≡ true) (sym (numbers_without t es))
    (ascending-without t (numbers es) a)

pub renamed_ascend : (s : Server) (f : ℕ) (replaced : Option ℕ) (to : List ℕ) → FilesAscend s → FilesAscend (rename_file s f replaced to)
renamed_ascend s f replaced to a =
    subst (λ (v : List ℕ). is_ascending v ≡ true) (sym (numbers_moved (path_of s f) to (without_target replaced s.entries)))
    (target_ascends replaced s.entries a)
