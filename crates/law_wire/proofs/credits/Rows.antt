-- Facts on rows of ids.
use Rattle.std.proofs.Common.{◌≡◌, ◌≢◌, ℕ, zero, suc, ◌+◌, ◌-◌, ◌≤◌, ◌<◌, ◌&&◌, ◌||◌, ltb, not, cond, Bool, true, false}
use Rattle.std.proofs.Common.{List, [], ◌∷◌, ◌++◌, length, take, drop, get_or, filter, Some, None, ⊎_elim, refl, ap}
use Rattle.std.proofs.Common.{sym, ◌∙◌, subst, arith, eq-eqb, ne_eqb, take-append-drop, length-append, length-drop}
use Rattle.std.proofs.Common.{drop-drop, get_or-drop}
use Rattle.std.specs.Prelude.{is_some, Option as Perhaps}
use Rattle.std.specs.List.Sorted.{IsNonDecreasing}
use Rattle.std.proofs.lemmas.List.Elements.{filter-append}
use Rattle.std.proofs.lemmas.List.{take_more}
use borrow.Author.Tests.{lt-ltb, le-leb, lt-leb}
use Rattle.std.proofs.lemmas.Bool.{cases_lt}
use Rattle.spec_wire.specs.credits.Window.{HeldIds, after_take}
use Rattle.spec_wire.specs.credits.Ids.{counted, ids_from, holds, is_among, without, gap_if, outside}
use Rattle.law_wire.specs.credits.Row.{IsAscending, AllLess, IsSplitAt}

pub IsAscending-weaken : (low low' : ℕ) (xs : List ℕ) → low' ≤ low → IsAscending low xs → IsAscending low' xs
IsAscending-weaken low low' [] le a = tt
IsAscending-weaken low low' (x ∷ xs) le a = let first = a.0 in (omega arith, a.1)

-- an id is not below the low one
pub ascending_from : (low : ℕ) (xs : List ℕ) (k d : ℕ) → IsAscending low xs → k < length xs → low ≤ get_or xs k d
ascending_from low [] k d a l = absurd (omega arith)
ascending_from low (x ∷ xs) zero d a l = a.0
ascending_from low (x ∷ xs) (suc k) d a l =
    let later = ascending_from (x + 1) xs k d a.1 (omega arith) in let first = a.0 in omega arith

pub ascending_order : (low : ℕ) (xs : List ℕ) → IsAscending low xs → IsNonDecreasing xs
ascending_order low [] a i j d le l = absurd (omega arith)
ascending_order low (x ∷ xs) a zero zero d le l = omega arith
ascending_order low (x ∷ xs) a zero (suc j) d le l = let later = ascending_from (x + 1) xs j d a.1 (omega arith) in omega arith
ascending_order low (x ∷ xs) a (suc i) zero d le l = absurd (omega arith)
ascending_order low (x ∷ xs) a (suc i) (suc j) d le l = ascending_order (x + 1) xs a.1 i j d (omega arith) (omega arith)

pub AllLess-get : (bound : ℕ) (xs : List ℕ) (k d : ℕ) → AllLess bound xs → k < length xs → get_or xs k d < bound
AllLess-get bound [] k d a l = absurd (omega arith)
AllLess-get bound (x ∷ xs) zero d a l = a.0
AllLess-get bound (x ∷ xs) (suc k) d a l = AllLess-get bound xs k d a.1 (omega arith)

pub AllLess-weaken : (bound more : ℕ) (xs : List ℕ) → bound ≤ more → AllLess bound xs → AllLess more xs
AllLess-weaken bound more [] le a = tt
AllLess-weaken bound more (x ∷ xs) le a = let first = a.0 in (omega arith, AllLess-weaken bound more xs le a.1)

pub AllLess-append : (bound : ℕ) (xs ys : List ℕ) → AllLess bound xs → AllLess bound ys → AllLess bound (xs ++ ys)
AllLess-append bound [] ys a b = b
AllLess-append bound (x ∷ xs) ys a b = (a.0, AllLess-append bound xs ys a.1 b)

pub AllLess-ids_from : (first n bound : ℕ) → first + n ≤ bound → AllLess bound (ids_from first n)
AllLess-ids_from first zero bound le = tt
AllLess-ids_from first (suc n) bound le = (omega arith, AllLess-ids_from (first + 1) n bound (omega arith))

pub IsAscending-ids_from : (low first n : ℕ) → low ≤ first → IsAscending low (ids_from first n)
IsAscending-ids_from low first zero le = tt
IsAscending-ids_from low first (suc n) le = (le, IsAscending-ids_from (first + 1) (first + 1) n (omega arith))

pub IsAscending-append : (low next n : ℕ) (xs : List ℕ) → low ≤ next → IsAscending low xs → AllLess next xs
    → IsAscending low (xs ++ ids_from next n)
IsAscending-append low next n [] le a b = IsAscending-ids_from low next n le
IsAscending-append low next n (x ∷ xs) le a b =
    let below = b.0 in (a.0, IsAscending-append (x + 1) next n xs (omega arith) a.1 b.1)

kept_ascending : (b : Bool) (low x : ℕ) (ys : List ℕ) → low ≤ x → IsAscending (x + 1) ys → IsAscending low (cond b (x ∷ ys) ys)
kept_ascending true low x ys le a = (le, a)
kept_ascending false low x ys le a = IsAscending-weaken (x + 1) low ys (omega arith) a

pub IsAscending-filter : (p : ℕ → Bool) (low : ℕ) (xs : List ℕ) → IsAscending low xs → IsAscending low (filter p xs)
IsAscending-filter p low [] a = tt
IsAscending-filter p low (x ∷ xs) a = kept_ascending (p x) low x (filter p xs) a.0 (IsAscending-filter p (x + 1) xs a.1)

kept_less : (b : Bool) (bound x : ℕ) (ys : List ℕ) → x < bound → AllLess bound ys → AllLess bound (cond b (x ∷ ys) ys)
kept_less true bound x ys less a = (less, a)
kept_less false bound x ys less a = a

pub AllLess-filter : (p : ℕ → Bool) (bound : ℕ) (xs : List ℕ) → AllLess bound xs → AllLess bound (filter p xs)
AllLess-filter p bound [] a = tt
AllLess-filter p bound (x ∷ xs) a = kept_less (p x) bound x (filter p xs) a.0 (AllLess-filter p bound xs a.1)

-- the ids before a place, where each is below a bound
pub AllLess-take : (bound place : ℕ) (xs : List ℕ) → ((k d : ℕ) → k < place → get_or xs k d < bound) → place ≤ length xs
    → AllLess bound (take place xs)
AllLess-take bound zero xs all le = tt
AllLess-take bound (suc place) [] all le = tt
AllLess-take bound (suc place) (x ∷ xs) all le =
    (all 0 0 (omega arith), AllLess-take bound place xs (λ k d l. all (suc k) d (omega arith)) (omega arith))

-- the ids from a place on, where none is below the first
pub IsAscending-drop : (low first place : ℕ) (xs : List ℕ) → IsAscending low xs
    → ((k d : ℕ) → place ≤ k → k < length xs → first ≤ get_or xs k d) → IsAscending first (drop place xs)
IsAscending-drop low first zero [] a all = tt
IsAscending-drop low first zero (x ∷ xs) a all = (all 0 0 (omega arith) (omega arith), a.1)
IsAscending-drop low first (suc place) [] a all = tt
IsAscending-drop low first (suc place) (x ∷ xs) a all =
    IsAscending-drop (x + 1) first place xs a.1 (λ k d le l. all (suc k) d (omega arith) (omega arith))

-- a run of ids, and what follows it
pub IsAscending-run : (k first : ℕ) (rest : List ℕ) → IsAscending first (ids_from first k ++ rest) → IsAscending (first + k) rest
IsAscending-run zero first rest a = IsAscending-weaken first (first + 0) rest (omega arith) a
IsAscending-run (suc k) first rest a =
    IsAscending-weaken (first + 1 + k) (first + suc k) rest (omega arith) (IsAscending-run k (first + 1) rest a.1)

-- one id more at the end of a run
pub ids_from-push : (k first : ℕ) → ids_from first k ++ (first + k) ∷ [] ≡ ids_from first (k + 1)
ids_from-push zero first = let e : first + 0 ≡ first = omega arith in ap (λ x. x ∷ []) e
ids_from-push (suc k) first =
    let e : first + suc k ≡ first + 1 + k = omega arith in
    let f : suc (k + 1) ≡ suc k + 1 = omega arith in
    ap (λ x. first ∷ (ids_from (first + 1) k ++ x ∷ [])) e ∙ (ap (λ xs. first ∷ xs) (ids_from-push k (first + 1)) ∙ ap (ids_from first) f)

pub ids_from-append : (k n first : ℕ) → ids_from first k ++ ids_from (first + k) n ≡ ids_from first (k + n)
ids_from-append zero n first =
    let e : first + 0 ≡ first = omega arith in let f : n ≡ 0 + n = omega arith in ap (λ x. ids_from x n) e ∙ ap (ids_from first) f
ids_from-append (suc k) n first =
    let e : first + suc k ≡ first + 1 + k = omega arith in
    let f : suc (k + n) ≡ suc k + n = omega arith in
    ap (λ x. first ∷ (ids_from (first + 1) k ++ ids_from x n)) e
    ∙ (ap (λ xs. first ∷ xs) (ids_from-append k n (first + 1)) ∙ ap (ids_from first) f)

pub length-ids_from : (first n : ℕ) → length (ids_from first n) ≡ n
length-ids_from first zero = refl
length-ids_from first (suc n) = ap suc (length-ids_from (first + 1) n)

-- what a row holds
pub holds-head : (id : ℕ) (xs : List ℕ) → holds (id ∷ xs) id ≡ true
holds-head id xs = ap (λ b. b || holds xs id) (eq-eqb id id refl)

pub holds-tail : (x id : ℕ) (xs : List ℕ) → x ≢ id → holds (x ∷ xs) id ≡ holds xs id
holds-tail x id xs apart = ap (λ b. b || holds xs id) (ne_eqb x id apart)

pub holds-before : (bound id : ℕ) (xs ys : List ℕ) → AllLess bound xs → bound ≤ id → holds (xs ++ ys) id ≡ holds ys id
holds-before bound id [] ys a le = refl
holds-before bound id (x ∷ xs) ys a le = let below = a.0 in holds-tail x id (xs ++ ys) (λ e. omega arith)
    ∙ holds-before bound id xs ys a.1 le

pub holds-none : (low id : ℕ) (xs : List ℕ) → IsAscending low xs → id < low → holds xs id ≡ false
holds-none low id [] a l = refl
holds-none low id (x ∷ xs) a l = let first = a.0 in holds-tail x id xs (λ e. omega arith) ∙ holds-none (x + 1) id xs a.1 (omega arith)

-- what is below a charge does not matter to it
pub outside-before : (bound : ℕ) (xs ys : List ℕ) (n first : ℕ) → AllLess bound xs → bound ≤ first
    → outside (xs ++ ys) first n ≡ outside ys first n
outside-before bound xs ys zero first a le = refl
outside-before bound xs ys (suc n) first a le =
    (λ i. gap_if (holds-before bound first xs ys a le i) first (outside-before bound xs ys n (first + 1) a (omega arith) i))

-- a run of ids that are held
pub outside-run : (k m first : ℕ) (rest : List ℕ) → outside (ids_from first k ++ rest) first (k + m) ≡ outside rest (first + k) m
outside-run zero m first rest =
    let e : first ≡ first + 0 = omega arith in let f : 0 + m ≡ m = omega arith in ap (outside rest first) f ∙ ap (λ x. outside rest x m) e
outside-run (suc k) m first rest =
    let e : first + 1 + k ≡ first + suc k = omega arith in
    let f : suc k + m ≡ suc (k + m) = omega arith in
    let ys : List ℕ = ids_from (first + 1) k ++ rest in
    ap (outside (first ∷ ys) first) f
    ∙ ((λ i. gap_if (holds-head first ys i) first (outside-before (first + 1) (first ∷ []) ys (k + m) (first + 1)
    (omega arith, tt) (omega arith) i))
    ∙ (outside-run k m (first + 1) rest ∙ ap (λ x. outside rest x m) e))

-- the split of a row at a charge's first id
split_is : (place : ℕ) (xs : List ℕ) → take place xs ++ drop place xs ≡ xs
split_is place xs = take-append-drop place xs

run_is : (first k : ℕ) (xs : List ℕ) → take k xs ≡ ids_from first k → xs ≡ ids_from first k ++ drop k xs
run_is first k xs e = sym (take-append-drop k xs) ∙ ap (λ l. l ++ drop k xs) e

outside_behind : (first n place : ℕ) (xs : List ℕ) → IsSplitAt first xs place → outside xs first n ≡ outside (drop place xs) first n
outside_behind first n place xs s =
    ap (λ l. outside l first n) (sym (split_is place xs))
    ∙ outside-before first (take place xs) (drop place xs) n first (AllLess-take first place xs s.below s.within) (omega arith)

pub no_gap : (first n place : ℕ) (xs : List ℕ) → IsSplitAt first xs place → take n (drop place xs) ≡ ids_from first n
    → outside xs first n ≡ None
no_gap first n place xs s e =
    let whole : n ≡ n + 0 = omega arith in
    outside_behind first n place xs s
    ∙ (ap (λ l. outside l first n) (run_is first n (drop place xs) e)
    ∙ (ap (outside (ids_from first n ++ drop n (drop place xs)) first) whole ∙ outside-run n 0 first (drop n (drop place xs))))

gap_at : (id m : ℕ) (rest : List ℕ) → holds rest id ≡ false → outside rest id (suc m) ≡ Some id
gap_at id m rest e = ap (λ b. gap_if b id (outside rest (id + 1) m)) e

head_apart : (id : ℕ) (rest : List ℕ) → IsAscending id rest → (0 < length rest → get_or rest 0 0 ≢ id) → holds rest id ≡ false
head_apart id [] a apart = refl
head_apart id (x ∷ xs) a apart =
    let other : x ≢ id = apart (omega arith) in holds-tail x id xs other ∙ holds-none (x + 1) id xs a.1 (let first = a.0 in omega arith)

pub gap : (low first n k place : ℕ) (xs : List ℕ) → IsAscending low xs → IsSplitAt first xs place → k < n
    → take k (drop place xs) ≡ ids_from first k
    → (0 < length (drop k (drop place xs)) → get_or (drop k (drop place xs)) 0 0 ≢ first + k) → outside xs first n ≡ Some (first + k)
gap low first n k place xs a s l e apart =
    let back : List ℕ = drop place xs in
    let rest : List ℕ = drop k back in
    let up : IsAscending first back = IsAscending-drop low first place xs a s.above in
    let further : IsAscending (first + k) rest = IsAscending-run k first rest (subst (IsAscending first) (run_is first k back e) up) in
    let m : ℕ = n - k - 1 in
    let parts : n ≡ k + suc m = omega arith in
    outside_behind first n place xs s
    ∙ (ap (λ l. outside l first n) (run_is first k back e)
    ∙ (ap (outside (ids_from first k ++ rest) first) parts
    ∙ (outside-run k (suc m) first rest ∙ gap_at (first + k) m rest (head_apart (first + k) rest further apart))))

-- which ids a charge takes
pub is_among-in : (first n id : ℕ) → first ≤ id → id < first + n → is_among first n id ≡ true
is_among-in first n id le lt = (λ i. le-leb first id le i && lt-ltb id (first + n) lt i)

is_among-below : (first n id : ℕ) → id < first → is_among first n id ≡ false
is_among-below first n id lt = (λ i. lt-leb first id lt i && ltb id (first + n))

is_among-above : (first n id : ℕ) → first + n ≤ id → is_among first n id ≡ false
is_among-above first n id le =
    let past : first + n < suc id = omega arith in
    let from : first ≤ id = omega arith in (λ i. le-leb first id from i && lt-leb (suc id) (first + n) past i)

pub without-below : (first n : ℕ) (xs : List ℕ) → AllLess first xs → without first n xs ≡ xs
without-below first n [] a = refl
without-below first n (x ∷ xs) a =
    (λ i. cond (not (is_among-below first n x a.0 i)) (x ∷ without-below first n xs a.1 i)
    (without-below first n xs a.1 i))

pub without-above : (first n low : ℕ) (xs : List ℕ) → IsAscending low xs → first + n ≤ low → without first n xs ≡ xs
without-above first n low [] a le = refl
without-above first n low (x ∷ xs) a le =
    let from = a.0 in
    let above : is_among first n x ≡ false = is_among-above first n x (omega arith) in
    let rest : without first n xs ≡ xs = without-above first n (x + 1) xs a.1 (omega arith) in
    (λ i. cond (not (above i)) (x ∷ rest i) (rest i))

pub without-run : (first n f k : ℕ) → first ≤ f → f + k ≤ first + n → without first n (ids_from f k) ≡ []
without-run first n f zero le within = refl
without-run first n f (suc k) le within =
    let among : is_among first n f ≡ true = is_among-in first n f le (omega arith) in
    let rest : without first n (ids_from (f + 1) k) ≡ [] = without-run first n (f + 1) k (omega arith) (omega arith) in
    (λ i. cond (not (among i)) (f ∷ rest i) (rest i))

-- a run is cut out of a row
pub without_cut : (low first n place : ℕ) (xs : List ℕ) → IsAscending low xs → IsSplitAt first xs place
    → take n (drop place xs) ≡ ids_from first n
    → take place xs ++ drop n (drop place xs) ≡ without first n xs
without_cut low first n place xs a s e =
    let front : List ℕ = take place xs in
    let back : List ℕ = drop place xs in
    let rest : List ℕ = drop n back in
    let p : ℕ → Bool = λ id. not (is_among first n id) in
    let up : IsAscending first back = IsAscending-drop low first place xs a s.above in
    let further : IsAscending (first + n) rest = IsAscending-run n first rest (subst (IsAscending first) (run_is first n back e) up) in
    let whole : xs ≡ front ++ (ids_from first n ++ rest) = sym (split_is place xs) ∙ ap (λ l. front ++ l) (run_is first n back e) in
    let below : without first n front ≡ front = without-below first n front (AllLess-take first place xs s.below s.within) in
    let gone : without first n (ids_from first n) ≡ [] = without-run first n first n (omega arith) (omega arith) in
    let stay : without first n rest ≡ rest = without-above first n (first + n) rest further (omega arith) in
    sym (
    ap (without first n) whole
    ∙ (filter-append p front (ids_from first n ++ rest)
    ∙ ((λ i. below i ++ filter-append p (ids_from first n) rest i) ∙ (λ i. front ++ (gone i ++ stay i))))
    )

-- a run of that length is there
pub run_fits : (first n place : ℕ) (xs : List ℕ) → take n (drop place xs) ≡ ids_from first n → n ≤ length (drop place xs)
run_fits first n place xs e =
    let back : List ℕ = drop place xs in
    let whole : length back ≡ n + length (drop n back) = ap length (run_is first n back e)
    ∙ (length-append (ids_from first n) (drop n back) ∙ ap (λ k. k + length (drop n back))
    (length-ids_from first n)) in
    omega arith

pub not_less : (x first : ℕ) → ltb x first ≡ false → first ≤ x
not_less x first e = ⊎_elim (λ l. absurd (cc (lt-ltb x first l, e))) (λ le. le) (cases_lt x first)

-- the id at the place behind a run
after_run : (place k d : ℕ) (xs : List ℕ) → get_or (drop k (drop place xs)) 0 d ≡ get_or xs (place + k) d
after_run place k d xs =
    let e : place + k + 0 ≡ place + k = omega arith in
    ap (λ l. get_or l 0 d) (drop-drop k place xs) ∙ (get_or-drop (place + k) xs 0 d ∙ ap (λ i. get_or xs i d) e)

pub found_gap : (first n k place wanted : ℕ) (xs : List ℕ) → IsAscending 0 xs → IsSplitAt first xs place → k < n
    → take k (drop place xs) ≡ ids_from first k → wanted ≡ first + k
    → (place + k < length xs → get_or xs (place + k) 0 ≢ wanted) → Some wanted ≡ outside xs first n
found_gap first n k place wanted xs a s l run is apart =
    ap Some is
    ∙ sym (gap 0 first n k place xs a s l run (λ there e. let lengths : length (drop k (drop place xs))
    ≡ length xs - (place + k) = ap length (drop-drop k place xs) ∙ length-drop (place + k) xs in
    apart (omega arith) (sym (after_run place k 0 xs) ∙ (e ∙ sym is))))

pub run_more : (first k place wanted id : ℕ) (xs : List ℕ) → place + k < length xs → take k (drop place xs)
    ≡ ids_from first k → wanted ≡ first + k → id ≡ wanted → id ≡ get_or xs (place + k) id
    → take (k + 1) (drop place xs) ≡ ids_from first (k + 1)
run_more first k place wanted id xs l run is same read =
    let back : List ℕ = drop place xs in
    let lengths : length back ≡ length xs - place = length-drop place xs in
    let item : get_or back k id ≡ first + k = get_or-drop place xs k id ∙ (sym read ∙ (same ∙ is)) in
    take_more back k id (omega arith) ∙ ((λ i. run i ++ item i ∷ []) ∙ ids_from-push k first)

-- the window after its ids are taken, and after more are granted
pub take_is : (first charge count place next : ℕ) (xs ys : List ℕ) (w : HeldIds) → record {
  held = xs;
  next = next;
} ≡ w → count ≡ counted charge → IsAscending 0 xs → IsSplitAt first xs place
    → take count (drop place xs) ≡ ids_from first count → ys ≡ take place xs ++ drop (place + count) xs → record {
      held = ys;
      next = next;
    } ≡ after_take first charge w
take_is first charge count place next xs ys w is counts a s run cut =
    let left : ys ≡ without first (counted charge) xs = cut
    ∙ (ap (λ l. take place xs ++ l) (sym (drop-drop count place xs)) ∙ (without_cut 0 first count place xs a s run
    ∙ ap (λ n. without first n xs) counts)) in
    let p : HeldIds = record { held = ys; next = next } in
    let q : HeldIds = record { held = xs; next = next } in
    let both : p ≡ after_take first charge q = (λ i. record { held = left i; next = next }) in
    both ∙ ap (after_take first charge) is

pub left_is : (first count place : ℕ) (xs ys : List ℕ) → IsAscending 0 xs → IsSplitAt first xs place
    → take count (drop place xs) ≡ ids_from first count → ys ≡ take place xs ++ drop (place + count) xs → ys
    ≡ without first count xs
left_is first count place xs ys a s run cut = cut ∙ (ap (λ l. take place xs ++ l) (sym (drop-drop count place xs))
    ∙ without_cut 0 first count place xs a s run)

kept_length : (b : Bool) (x : ℕ) (ys xs : List ℕ) → length ys ≤ length xs → length (cond b (x ∷ ys) ys) ≤ length (x ∷ xs)
kept_length true x ys xs le = omega arith
kept_length false x ys xs le = omega arith

pub length-without : (first n : ℕ) (xs : List ℕ) → length (without first n xs) ≤ length xs
length-without first n [] = omega arith
length-without first n (x ∷ xs) = kept_length (not (is_among first n x)) x (without first n xs) xs (length-without first n xs)

pub not_some : {A : Type 0} (o : Perhaps A) → o ≡ None → is_some o ≡ true → ⊥
not_some None e some = absurd (cc some)
not_some (Some x) e some = absurd (cc e)
